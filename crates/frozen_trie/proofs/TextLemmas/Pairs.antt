-- What the map of byte strings answers, by the indices of their nibbles.
use Rattle.std.proofs.Common.{◌≡◌, ℕ, zero, suc, ◌+◌, ◌-◌, ◌^◌, ◌<◌, ◌≤◌, List, [], ◌∷◌, length, reverse, take, drop, get_or, option_map, slice_get, Some, None, refl, sym, ap, subst, ◌∙◌, arith}
use Rattle.std.proofs.lemmas.Option.{get_or_from_slice_get}
use Rattle.std.specs.FinMap as fin
use Rattle.std.specs.declared.ops.Bound.{Bound}
use Rattle.nibble_map.specs.Lists.{IsRising}
use Rattle.nibble_map.specs.Maps.{value_at}
use Rattle.nibble_map.specs.Nibbles.{nibbles}
use Rattle.radix_keys.proofs.NibbleLemmas.Bytes.{length-nibbles}
use Rattle.radix_trie.specs.Views.{IsPairAbove, is_within, pairs_above, pairs_before, pairs_below, pairs_within}
use Rattle.encoded_keys.specs.Codes.{IsCut, IsLastPrefix, IsSpan, is_before, is_until, code_at}
use Rattle.frozen_trie.specs.Frozen.{codes_of, prefixes_up}
use Rattle.encoded_keys.specs.Laid.{packed_bytes}
use Rattle.frozen_trie.specs.Texts.{AreTexts, text_map, text_pairs}
use Rattle.frozen_trie.proofs.FrozenLemmas.Prefixes.{step_up, walk_down_whole}
use Rattle.frozen_trie.proofs.FrozenLemmas.Queries.{above_none, above_some, below_is, count_before_is, cuts_in_order, whole_is, within_is}
use Rattle.frozen_trie.proofs.FrozenLemmas.Rows.{code_of_pair, get_at, get_none, len_is}

module _ {V : Type 0} where
  -- as many pairs as lists
  pub length-text_pairs : (cs : List (List ℕ)) (vs : List V) → length vs ≡ length cs → length (text_pairs cs vs) ≡ length cs
  length-text_pairs [] vs e = refl
  length-text_pairs (c ∷ cs) [] e = absurd (omega (arith, e))
  length-text_pairs (c ∷ cs) (v ∷ vs) e = let r = length-text_pairs cs vs (omega (arith, e)) in omega (arith, r)

  -- the pair at an index
  pub text_found : (cs : List (List ℕ)) (vs : List V) (k : ℕ) (v : V) → k < length cs → length vs ≡ length cs → v ≡ get_or vs k v
      → slice_get (text_pairs cs vs) k ≡ Some (packed_bytes (code_at cs k), v)
  text_found [] vs k v l e h = absurd (omega (arith, l))
  text_found (c ∷ cs) [] k v l e h = absurd (omega (arith, e))
  text_found (c ∷ cs) (w ∷ vs) zero v l e h = ap (λ x. Some (packed_bytes c, x)) (sym h)
  text_found (c ∷ cs) (w ∷ vs) (suc k) v l e h = text_found cs vs k v (omega (arith, l)) (omega (arith, e)) h

module _ {V : Type 0} (cs : List (List ℕ)) (vs : List V) (parents : List ℕ) (kept : AreTexts cs vs parents) where
  -- the keys rise
  pub texts_rise : IsRising (codes_of nibbles (text_pairs cs vs))
  texts_rise = subst IsRising kept.frozen.keyed kept.frozen.linked.rising

  -- the map has as many pairs as there are values
  pub text_count : length vs ≡ fin.len (text_map cs vs)
  text_count = kept.valued ∙ sym (length-text_pairs cs vs kept.valued) ∙ len_is nibbles (text_pairs cs vs) texts_rise

  -- and as there are lists
  pub code_count : length cs ≡ fin.len (text_map cs vs)
  code_count = sym kept.valued ∙ text_count

  -- all pairs of the map
  pub all_texts : pairs_below (text_map cs vs) [] ≡ text_pairs cs vs
  all_texts = whole_is nibbles (text_pairs cs vs) texts_rise

  -- the pair at an index
  pub pair_found : (k : ℕ) (v : V) → k < length cs → v ≡ get_or vs k v → slice_get (pairs_below (text_map cs vs) []) k ≡ Some (packed_bytes (code_at cs k), v)
  pair_found k v l h = ap (λ xs. slice_get xs k) all_texts ∙ text_found cs vs k v l kept.valued h

  -- a list is the nibbles of its bytes
  whole_bytes : (k : ℕ) (v : V) → k < length cs → v ≡ get_or vs k v → code_at cs k ≡ nibbles (packed_bytes (code_at cs k))
  whole_bytes k v l h =
      ap (λ ds. code_at ds k) kept.frozen.keyed
      ∙ code_of_pair nibbles (text_pairs cs vs) k (packed_bytes (code_at cs k), v) (omega (arith, l, length-text_pairs cs vs kept.valued))
      (sym (get_or_from_slice_get (text_pairs cs vs) k (packed_bytes (code_at cs k), v) (packed_bytes (code_at cs k), v) (text_found cs vs k v l kept.valued h)))

  -- so it has two for each byte
  pub text_short : (k : ℕ) (v : V) → k < length cs → v ≡ get_or vs k v → length (code_at cs k) < 2 ^ 33 → length (packed_bytes (code_at cs k)) < 2 ^ 32
  text_short k v l h few = omega (arith, few, ap length (whole_bytes k v l h), length-nibbles (packed_bytes (code_at cs k)))

  -- the pair at a list that stands at an index
  pub pair_got : (q : List ℕ) (k : ℕ) (x : List ℕ × V) → k < length cs → slice_get (pairs_below (text_map cs vs) []) k ≡ Some x → code_at cs k ≡ q → Some x ≡ fin.get (text_map cs vs) q
  pair_got q k x l found code =
      sym (get_at nibbles (text_pairs cs vs) q k x texts_rise (omega (arith, l, length-text_pairs cs vs kept.valued))
      (sym (get_or_from_slice_get (text_pairs cs vs) k x x (ap (λ xs. slice_get xs k) (sym all_texts) ∙ found))) (subst (λ ds. code_at ds k ≡ q) kept.frozen.keyed code))

  -- at a list that stands at none there is none
  pub no_pair : (q : List ℕ) → ((k : ℕ) → k < length cs → code_at cs k ≡ q → ⊥) → None ≡ fin.get (text_map cs vs) q
  no_pair q n = sym (get_none nibbles (text_pairs cs vs) q texts_rise (subst (λ ds. (k : ℕ) → k < length ds → code_at ds k ≡ q → ⊥) kept.frozen.keyed n))

  -- so its value
  pub value_found : (q : List ℕ) (k : ℕ) (v : V) → k < length cs → v ≡ get_or vs k v → code_at cs k ≡ q → Some v ≡ value_at (text_map cs vs) q
  value_found q k v l h code = ap (option_map (λ (p : List ℕ × V). p.1)) (pair_got q k (packed_bytes (code_at cs k), v) l (pair_found k v l h) code)

  -- and that there is none
  pub no_value : (q : List ℕ) → ((k : ℕ) → k < length cs → code_at cs k ≡ q → ⊥) → None ≡ value_at (text_map cs vs) q
  no_value q n = ap (option_map (λ (p : List ℕ × V). p.1)) (no_pair q n)

  -- where no list is a prefix of q no pair is above q
  pub no_text_above : (q : List ℕ) (r : ℕ) → r ≡ 0 → IsLastPrefix cs (length cs) q r → IsPairAbove (text_map cs vs) q None
  no_text_above q r z last = above_none nibbles (text_pairs cs vs) texts_rise q r z (subst (λ ds. IsLastPrefix ds (length ds) q r) kept.frozen.keyed last)

  -- the pair at the last list that is a prefix of q is the one above q
  pub text_above : (q : List ℕ) (r : ℕ) (x : List ℕ × V) → 0 < r → IsLastPrefix cs (length cs) q r → slice_get (pairs_below (text_map cs vs) []) (r - 1) ≡ Some x
      → IsPairAbove (text_map cs vs) q (Some x)
  text_above q r x some last found =
      above_some nibbles (text_pairs cs vs) texts_rise q r x some (subst (λ ds. IsLastPrefix ds (length ds) q r) kept.frozen.keyed last)
      (sym (get_or_from_slice_get (text_pairs cs vs) (r - 1) x x (ap (λ xs. slice_get xs (r - 1)) (sym all_texts) ∙ found)))

  -- the two cuts are in order
  pub text_cuts : (q : List ℕ) (lo hi : ℕ) → IsCut (λ c. is_before c q) cs lo → IsCut (λ c. is_until c q) cs hi → lo ≤ hi
  text_cuts q lo hi low high =
      cuts_in_order nibbles (text_pairs cs vs) texts_rise q lo hi (subst (λ ds. IsCut (λ c. is_before c q) ds lo) kept.frozen.keyed low)
      (subst (λ ds. IsCut (λ c. is_until c q) ds hi) kept.frozen.keyed high)

  -- the pairs below q are those between the two cuts
  pub texts_below : (q : List ℕ) (lo hi : ℕ) → IsCut (λ c. is_before c q) cs lo → IsCut (λ c. is_until c q) cs hi
      → take (hi - lo) (drop lo (pairs_below (text_map cs vs) [])) ≡ pairs_below (text_map cs vs) q
  texts_below q lo hi low high =
      ap (λ xs. take (hi - lo) (drop lo xs)) all_texts
      ∙ below_is nibbles (text_pairs cs vs) texts_rise q lo hi (subst (λ ds. IsCut (λ c. is_before c q) ds lo) kept.frozen.keyed low)
      (subst (λ ds. IsCut (λ c. is_until c q) ds hi) kept.frozen.keyed high)

  -- the pairs within two bounds
  pub texts_within : (low high : Bound (List ℕ)) (lo hi : ℕ) → IsSpan (is_within low high) cs lo hi
      → take (hi - lo) (drop lo (pairs_below (text_map cs vs) [])) ≡ pairs_within (text_map cs vs) [] low high
  texts_within low high lo hi span =
      ap (λ xs. take (hi - lo) (drop lo xs)) all_texts
      ∙ within_is nibbles (text_pairs cs vs) texts_rise low high lo hi (subst (λ ds. IsSpan (is_within low high) ds lo hi) kept.frozen.keyed span)

  -- the cut before q counts the pairs before it
  pub texts_before : (q : List ℕ) (lo : ℕ) → IsCut (λ c. is_before c q) cs lo → lo ≡ length (pairs_before (text_map cs vs) [] q)
  texts_before q lo low = count_before_is nibbles (text_pairs cs vs) texts_rise q lo (subst (λ ds. IsCut (λ c. is_before c q) ds lo) kept.frozen.keyed low)

  -- the walk up to the last prefix of q
  pub texts_above : (q : List ℕ) (r : ℕ) → IsLastPrefix cs (length cs) q r → reverse (prefixes_up nibbles (text_map cs vs) r) ≡ pairs_above (text_map cs vs) q
  texts_above q r last = walk_down_whole nibbles (text_pairs cs vs) texts_rise q r (subst (λ ds. IsLastPrefix ds (length ds) q r) kept.frozen.keyed last)

  -- one step up: a pair, and the walk from its link on
  pub text_step : (i r : ℕ) (x : List ℕ × V) → i < length cs → slice_get (pairs_below (text_map cs vs) []) i ≡ Some x → IsLastPrefix cs i (code_at cs i) r
      → prefixes_up nibbles (text_map cs vs) (i + 1) ≡ x ∷ prefixes_up nibbles (text_map cs vs) r
  text_step i r x l found last =
      let more : i + 1 ≡ suc i = omega arith in
      ap (prefixes_up nibbles (text_map cs vs)) more
      ∙ step_up nibbles (text_pairs cs vs) texts_rise i r x (omega (arith, l, length-text_pairs cs vs kept.valued))
      (ap (λ xs. slice_get xs i) (sym all_texts) ∙ found)
      (subst (λ ds. IsLastPrefix ds i (code_at ds i) r) kept.frozen.keyed last)
