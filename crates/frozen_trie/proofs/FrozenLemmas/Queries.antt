-- What the searches' answers say of the map.
use Rattle.std.proofs.Common.{◌≡◌, ℕ, zero, suc, ◌-◌, ◌<◌, ◌≤◌, inl, inr, Bool, true, false, List, [], ◌∷◌, length, map, take, drop, get_or, Some, None, refl, sym, ap, subst, ◌∙◌, arith}
use Rattle.std.proofs.lemmas.List.{length-map, length-take-le}
use Rattle.std.specs.FinMap as fin
use Rattle.std.specs.List.{filter}
use Rattle.radix_keys.proofs.KeyLemmas.Order.{three_ways}
use Rattle.nibble_map.specs.Lists.{IsPrefix, IsRising, Has, is_prefix}
use Rattle.std.specs.declared.ops.Bound.{Bound}
use Rattle.nibble_map.specs.Maps.{IsStored, walk}
use Rattle.nibble_map.specs.Stored.{stored}
use Rattle.nibble_map.proofs.MapLemmas.Edits.{walk-by_entries, stored_by_entries}
use Rattle.nibble_map.proofs.ListLemmas.Parted.{prefix_length, is_prefix_true, prefix_by_test}
use Rattle.encoded_keys.specs.Codes.{IsCut, IsLastPrefix, IsSpan, is_before, is_until, code_at}
use Rattle.radix_trie.specs.Views.{IsPairAbove, is_within, pairs_below, pairs_before, pairs_within}
use Rattle.radix_trie.proofs.PathLemmas.Loci.{below-nil}
use Rattle.frozen_trie.specs.Frozen.{codes_of, map_of_pairs}
use Rattle.encoded_keys.proofs.CodeLemmas.Order.{at_most, before_by_test, before_passes, prefix_before, between_begins, begun_not_before, until_by_test, until_by_before, until_by_prefix}
use Rattle.encoded_keys.proofs.CodeLemmas.Parts.{has_index, rising_at}
use Rattle.sorted_tables.proofs.TableLemmas.Links.{parted_in_order}
use Rattle.frozen_trie.proofs.FrozenLemmas.Rows.{get_at, entries_are_rows, stored_rows, pairs_of_rows, filter_rows, filter_is_part}

-- a test that can't be true is false
pub not_true : (b : Bool) → (b ≡ true → ⊥) → b ≡ false
not_true true h = absurd (h refl)
not_true false h = refl

-- what stands at an index is an element
index_has : (cs : List (List ℕ)) (k : ℕ) → k < length cs → Has cs (code_at cs k)
index_has [] k l = absurd (omega (arith, l))
index_has (c ∷ cs) zero l = inl refl
index_has (c ∷ cs) (suc k) l = inr (index_has cs k (omega (arith, l)))

-- of rising codes that are prefixes of q the later is the longer
longer_later : (cs : List (List ℕ)) (q : List ℕ) (k r : ℕ) → IsRising cs → k ≤ r → r < length cs
    → IsPrefix (code_at cs k) q → IsPrefix (code_at cs r) q → length (code_at cs k) ≤ length (code_at cs r)
longer_later cs q k r rises l m p s = elim (three_ways k r) [
  | inl lt ↦ prefix_length _ _ (elim (prefix_before (code_at cs r) q s) [
    | inl e ↦ subst (IsPrefix (code_at cs k)) (sym e) p
    | inr b ↦ between_begins (code_at cs k) (code_at cs r) q p (rising_at cs rises k r lt m) b
  ])
  | inr (inl e) ↦ let f = ap (λ i. length (code_at cs i)) e in omega (arith, f)
  | inr (inr g) ↦ absurd (omega (arith, l, g))
]

module _ {K V : Type 0} (enc : K → List ℕ) (ps : List (K × V)) (rises : IsRising (codes_of enc ps)) where
  -- as many codes as pairs
  pub as_many : length (codes_of enc ps) ≡ length ps
  as_many = length-map ps _

  -- the two cuts are in order
  pub cuts_in_order : (q : List ℕ) (lo hi : ℕ) → IsCut (λ c. is_before c q) (codes_of enc ps) lo → IsCut (λ c. is_until c q) (codes_of enc ps) hi → lo ≤ hi
  cuts_in_order q lo hi low high = parted_in_order _ _ _ _ (length (codes_of enc ps)) lo hi
      (λ k front behind. let no : true ≡ false = sym (until_by_before _ q (before_by_test _ q front)) ∙ behind in cc no) low high

  -- the pairs below q are those between the two cuts
  pub below_is : (q : List ℕ) (lo hi : ℕ) → IsCut (λ c. is_before c q) (codes_of enc ps) lo → IsCut (λ c. is_until c q) (codes_of enc ps) hi
      → take (hi - lo) (drop lo ps) ≡ pairs_below (map_of_pairs enc ps) q
  below_is q lo hi low high =
      sym (ap (map (λ e. e.1)) (walk-by_entries (map_of_pairs enc ps) q ∙ ap (filter (λ e. is_prefix q e.0)) (entries_are_rows enc ps rises))
      ∙ filter_rows enc (is_prefix q) ps
      ∙ filter_is_part enc (is_prefix q) ps lo hi (cuts_in_order q lo hi low high) (omega (arith, high.within, as_many)) first middle last)
    where
      first : (k : ℕ) → k < lo → is_prefix q (code_at (codes_of enc ps) k) ≡ false
      first k l = not_true _ (λ t. begun_not_before q _ (prefix_by_test q _ t) (before_by_test _ q (low.before k l)))

      middle : (k : ℕ) → lo ≤ k → k < hi → is_prefix q (code_at (codes_of enc ps) k) ≡ true
      middle k l m = elim (until_by_test (code_at (codes_of enc ps) k) q (high.before k m)) [
        | inl b ↦ absurd (let no : true ≡ false = sym (before_passes _ q b) ∙ low.after k l (omega (arith, m, high.within)) in cc no)
        | inr p ↦ is_prefix_true q _ p
      ]

      last : (k : ℕ) → hi ≤ k → k < length ps → is_prefix q (code_at (codes_of enc ps) k) ≡ false
      last k l m = not_true _ (λ t. let no : true ≡ false = sym (until_by_prefix _ q (prefix_by_test q _ t)) ∙ high.after k l (omega (arith, m, as_many)) in cc no)

  -- all pairs of the map are the pairs
  pub whole_is : pairs_below (map_of_pairs enc ps) [] ≡ ps
  whole_is = ap (λ m. map (λ e. e.1) (fin.entries m)) (below-nil (map_of_pairs enc ps)) ∙ ap (map (λ e. e.1)) (entries_are_rows enc ps rises) ∙ pairs_of_rows enc ps

  -- the pairs within a span of the codes are those whose lists pass its test
  span_is : (t : List ℕ → Bool) (lo hi : ℕ) → IsSpan t (codes_of enc ps) lo hi
      → take (hi - lo) (drop lo ps) ≡ map (λ e. e.1) (filter (λ e. t e.0) (walk (map_of_pairs enc ps) []))
  span_is t lo hi span =
      sym (ap (λ es. map (λ e. e.1) (filter (λ e. t e.0) es)) (ap fin.entries (below-nil (map_of_pairs enc ps)) ∙ entries_are_rows enc ps rises)
      ∙ filter_rows enc t ps
      ∙ filter_is_part enc t ps lo hi span.order (omega (arith, span.within, as_many)) span.front span.inside (λ k l m. span.behind k l (omega (arith, m, as_many))))

  -- the cut before q counts those before it
  pub count_before_is : (q : List ℕ) (lo : ℕ) → IsCut (λ c. is_before c q) (codes_of enc ps) lo → lo ≡ length (pairs_before (map_of_pairs enc ps) [] q)
  count_before_is q lo low =
      let whole : lo ≡ lo - 0 = omega arith in
      sym (length-take-le lo ps (omega (arith, low.within, as_many)))
      ∙ ap length (ap (λ n. take n ps) whole ∙ span_is (λ c. is_before c q) 0 lo (record {
        order = omega arith;
        within = low.within;
        front = λ k l. absurd (omega (arith, l));
        inside = λ k l m. low.before k m;
        behind = low.after;
      }))

  -- those within two bounds
  pub within_is : (low high : Bound (List ℕ)) (lo hi : ℕ) → IsSpan (is_within low high) (codes_of enc ps) lo hi
      → take (hi - lo) (drop lo ps) ≡ pairs_within (map_of_pairs enc ps) [] low high
  within_is low high = span_is (is_within low high)

  -- a stored list stands at an index
  pub stored_index : (x : List ℕ) → IsStored (map_of_pairs enc ps) x → (k : ℕ) × (k < length (codes_of enc ps)) × (code_at (codes_of enc ps) k ≡ x)
  stored_index x h = has_index _ x (subst (λ l. Has l x) (ap stored (entries_are_rows enc ps rises) ∙ stored_rows enc ps) ((stored_by_entries (map_of_pairs enc ps) x).1 h))

  -- the code at an index is stored
  pub index_stored : (k : ℕ) → k < length (codes_of enc ps) → IsStored (map_of_pairs enc ps) (code_at (codes_of enc ps) k)
  index_stored k l = (stored_by_entries (map_of_pairs enc ps) _).0 (subst (λ xs. Has xs (code_at (codes_of enc ps) k)) (sym (ap stored (entries_are_rows enc ps rises) ∙ stored_rows enc ps)) (index_has _ k l))

  -- where no code is a prefix of q no pair is above q
  pub above_none : (q : List ℕ) (r : ℕ) → r ≡ 0 → IsLastPrefix (codes_of enc ps) (length (codes_of enc ps)) q r → IsPairAbove (map_of_pairs enc ps) q None
  above_none q r z last = (None, (λ x s p. let i = stored_index x s in last.none i.0 (omega (arith, z)) i.1 (subst (λ l. IsPrefix l q) (sym i.2) p)), refl)

  -- the pair at the last code that is a prefix of q is the one above q
  pub above_some : (q : List ℕ) (r : ℕ) (x : K × V) → 0 < r → IsLastPrefix (codes_of enc ps) (length (codes_of enc ps)) q r
      → x ≡ get_or ps (r - 1) x → IsPairAbove (map_of_pairs enc ps) q (Some x)
  above_some q r x some last at = (
    Some (code_at (codes_of enc ps) (r - 1)),
    record {
      member = index_stored (r - 1) inside;
      above = last.holds some;
      longest = λ y s p. let i = stored_index y s in
          subst (λ l. length l ≤ length (code_at (codes_of enc ps) (r - 1))) i.2
          (longer_later (codes_of enc ps) q i.0 (r - 1) rises (at_most i.0 (r - 1) (λ g. last.none i.0 (omega (arith, g)) i.1 (subst (λ l. IsPrefix l q) (sym i.2) p)))
          inside (subst (λ l. IsPrefix l q) (sym i.2) p) (last.holds some));
    },
    sym (get_at enc ps (code_at (codes_of enc ps) (r - 1)) (r - 1) x rises (omega (arith, inside, as_many)) at refl),
  )
    where
      inside : r - 1 < length (codes_of enc ps)
      inside = omega (arith, some, last.within)
