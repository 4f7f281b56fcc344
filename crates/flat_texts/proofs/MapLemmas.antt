-- The map of an image: what it answers, by the pairs' indices.
use Rattle.std.proofs.Common.{max, ◌≡◌, ℕ, zero, suc, ◌+◌, ◌-◌, ◌<◌, ◌≤◌, List, [], ◌∷◌, ◌++◌, Some, None, length, map as each, reverse, take, drop, set, get_or, slice_get, option_map, refl, sym, ap, subst, ◌∙◌, arith}
use Rattle.std.proofs.lemmas.List.{map_push}
use Rattle.std.proofs.lemmas.Option.{get_or_from_slice_get}
use Rattle.std.specs.declared.ops.Bound.TheVariants.{Excluded, Included}
use Rattle.nibble_map.specs.Lists.{IsPrefix, IsRising}
use Rattle.nibble_map.specs.Maps.{value_at}
use Rattle.nibble_map.specs.Nibbles.{nibbles}
use Rattle.radix_keys.specs.Distinct.{nibbles-injective}
use Rattle.radix_trie.specs.Views.{IsPairAbove, pairs_above, pairs_before, pairs_below, pairs_within}
use Rattle.sorted_tables.specs.Tables.{IsLastOf}
use Rattle.encoded_keys.specs.Codes.{IsCut, IsLastPrefix, code_at, is_before, is_until}
use Rattle.frozen_trie.specs.Frozen.{codes_of, prefixes_up}
use Rattle.frozen_trie.proofs.FrozenLemmas.Prefixes.{step_up, walk_up_whole}
use Rattle.frozen_trie.proofs.FrozenLemmas.Queries.{above_none, above_some, below_is, count_before_is, within_is}
use Rattle.frozen_trie.proofs.FrozenLemmas.Spans.{cut_from, span_between}
use Rattle.frozen_trie.proofs.FrozenLemmas.Rows.{get_at, get_none}
use Rattle.image_parts.specs.Parts.{listed, row_count}
use Rattle.image_parts.proofs.ByteLemmas.{length-listed, listed_at, none_past}
use Rattle.flat_texts.specs.TextImages.{IsTextImage, image_map, image_pairs, key_code, key_codes, key_in, pair_in, stored_link, stored_value}
use Rattle.flat_texts.proofs.ImageLemmas.{code_is, codes_rise, last_of_codes, length-codes}

-- a function of each listed value
listed_map : {X Y : Type 0} (f : X → Y) (g : ℕ → X) (n : ℕ) → each f (listed g n) ≡ listed (λ i. f (g i)) n
unfolding listed
listed_map f g zero = refl
listed_map f g (suc n) = map_push f (listed g n) (g n) ∙ ap (λ ys. ys ++ f (g n) ∷ []) (listed_map f g n)

-- as many pairs as the head says
pub length-pairs : (bs : List ℕ) → length (image_pairs bs) ≡ row_count bs
length-pairs bs = length-listed (pair_in bs) (row_count bs)

-- the pair at an index
pub pair_at : (bs : List ℕ) (i : ℕ) → i < row_count bs → slice_get (image_pairs bs) i ≡ Some (pair_in bs i)
pair_at bs i l = listed_at (pair_in bs) (row_count bs) i l

-- and none behind the last
pub no_pair : (bs : List ℕ) (i : ℕ) → row_count bs ≤ i → None ≡ slice_get (image_pairs bs) i
no_pair bs i l = sym (none_past (image_pairs bs) i (omega (arith, l, length-pairs bs)))

-- the encodings of the pairs
codes_are : (bs : List ℕ) → key_codes bs ≡ codes_of nibbles (image_pairs bs)
codes_are bs = sym (listed_map (λ (p : List ℕ × ℕ). nibbles p.0) (pair_in bs) (row_count bs))

module _ (bs : List ℕ) (image : IsTextImage bs) where
  -- rise
  rises : IsRising (codes_of nibbles (image_pairs bs))
  rises = subst IsRising (codes_are bs) (codes_rise bs image.pairs)

  own : (i : ℕ) → i < row_count bs → pair_in bs i ≡ get_or (image_pairs bs) i (pair_in bs i)
  own i l = sym (get_or_from_slice_get (image_pairs bs) i (pair_in bs i) (pair_in bs i) (pair_at bs i l))

  -- the value at a key that stands at an index
  pub value_found : (i : ℕ) (key : List ℕ) → i < row_count bs → code_at (key_codes bs) i ≡ nibbles key → Some (stored_value bs i) ≡ value_at (image_map bs) (nibbles key)
  value_found i key l code =
      sym (ap (option_map (λ (p : List ℕ × ℕ). p.1)) (get_at nibbles (image_pairs bs) (nibbles key) i (pair_in bs i) rises
      (omega (arith, l, length-pairs bs)) (own i l) (subst (λ cs. code_at cs i ≡ nibbles key) (codes_are bs) code)))

  -- the key there is this one
  pub key_found : (i : ℕ) (key : List ℕ) → i < row_count bs → code_at (key_codes bs) i ≡ nibbles key → key_in bs i ≡ key
  key_found i key l code = nibbles-injective (key_in bs i) key (sym (code_is bs i l) ∙ code)

  -- at a list that stands at none there is none
  pub no_value : (q : List ℕ) → ((i : ℕ) → i < length (key_codes bs) → code_at (key_codes bs) i ≡ q → ⊥) → None ≡ value_at (image_map bs) q
  no_value q none =
      sym (ap (option_map (λ (p : List ℕ × ℕ). p.1)) (get_none nibbles (image_pairs bs) q rises
      (subst (λ cs. (i : ℕ) → i < length cs → code_at cs i ≡ q → ⊥) (codes_are bs) none)))

  module _ (q : List ℕ) (r : ℕ) (last : IsLastPrefix (key_codes bs) (length (key_codes bs)) q r) where
    told : IsLastPrefix (codes_of nibbles (image_pairs bs)) (length (codes_of nibbles (image_pairs bs))) q r
    told = subst (λ cs. IsLastPrefix cs (length cs) q r) (codes_are bs) last

    -- where no key is a prefix of q no pair is above q
    pub none_above : r ≡ 0 → IsPairAbove (image_map bs) q None
    none_above z = above_none nibbles (image_pairs bs) rises q r z told

    -- the pair at the last key that is one is the one above q
    pub pair_above : 0 < r → IsPairAbove (image_map bs) q (Some (pair_in bs (r - 1)))
    pair_above some =
        above_some nibbles (image_pairs bs) rises q r (pair_in bs (r - 1)) some told (own (r - 1) (omega (arith, some, last.within, length-codes bs)))

    -- the walk up from it
    pub walk_up : prefixes_up nibbles (image_map bs) r ≡ reverse (pairs_above (image_map bs) q)
    walk_up = walk_up_whole nibbles (image_pairs bs) rises q r told

  -- one step up: a pair, and the walk from its link on
  pub pair_step : (i r : ℕ) → i < row_count bs → IsLastOf (λ k. IsPrefix (key_code bs k) (key_code bs i)) i r
      → prefixes_up nibbles (image_map bs) (i + 1) ≡ pair_in bs i ∷ prefixes_up nibbles (image_map bs) r
  pair_step i r l last =
      let more : i + 1 ≡ suc i = omega arith in
      ap (prefixes_up nibbles (image_map bs)) more
      ∙ step_up nibbles (image_pairs bs) rises i r (pair_in bs i) (omega (arith, l, length-pairs bs)) (pair_at bs i l)
      (subst (λ cs. IsLastPrefix cs i (code_at cs i) r) (codes_are bs)
      (subst (λ c. IsLastPrefix (key_codes bs) i c r) (sym (code_is bs i l)) (last_of_codes bs i r (key_code bs i) (omega (arith, l)) last)))

  -- the cut before q counts the pairs before it
  pub pairs_counted : (q : List ℕ) (lo : ℕ) → IsCut (λ c. is_before c q) (key_codes bs) lo → lo ≡ length (pairs_before (image_map bs) [] q)
  pairs_counted q lo low = count_before_is nibbles (image_pairs bs) rises q lo (subst (λ cs. IsCut (λ c. is_before c q) cs lo) (codes_are bs) low)

  -- the pairs between the cuts before and behind what begins with q are those below q
  pub pairs_cut : (q : List ℕ) (lo hi : ℕ) → IsCut (λ c. is_before c q) (key_codes bs) lo → IsCut (λ c. is_until c q) (key_codes bs) hi
      → take (hi - lo) (drop lo (image_pairs bs)) ≡ pairs_below (image_map bs) q
  pairs_cut q lo hi low high =
      below_is nibbles (image_pairs bs) rises q lo hi (subst (λ cs. IsCut (λ c. is_before c q) cs lo) (codes_are bs) low)
      (subst (λ cs. IsCut (λ c. is_until c q) cs hi) (codes_are bs) high)

  -- and those between the cuts before a and before b are within these bounds
  pub pairs_bounded : (a b : List ℕ) (lo hi : ℕ) → IsCut (λ c. is_before c a) (key_codes bs) lo → IsCut (λ c. is_before c b) (key_codes bs) hi
      → take (hi - lo) (drop lo (image_pairs bs)) ≡ pairs_within (image_map bs) [] (Included a) (Excluded b)
  pairs_bounded a b lo hi low high =
      let count : hi - lo ≡ max hi lo - lo = omega arith in
      ap (λ n. take n (drop lo (image_pairs bs))) count
      ∙ within_is nibbles (image_pairs bs) rises (Included a) (Excluded b) lo (max hi lo)
      (span_between (Included a) (Excluded b) _ lo hi (max hi lo) (cut_from _ a lo (subst (λ cs. IsCut (λ c. is_before c a) cs lo) (codes_are bs) low))
      (subst (λ cs. IsCut (λ c. is_before c b) cs hi) (codes_are bs) high) refl)

  -- the walk up from a place that isn't 0
  pub walk_from : (at link : ℕ) → 0 < at → at ≤ row_count bs → link ≡ stored_link bs (at - 1)
      → prefixes_up nibbles (image_map bs) at ≡ pair_in bs (at - 1) ∷ prefixes_up nibbles (image_map bs) link
  walk_from at link some within is =
      let back : at - 1 + 1 ≡ at = omega (arith, some) in
      let inside : at - 1 < row_count bs = omega (arith, some, within) in
      subst (λ n. prefixes_up nibbles (image_map bs) n ≡ pair_in bs (at - 1) ∷ prefixes_up nibbles (image_map bs) link) back
      (pair_step (at - 1) link inside (subst (IsLastOf (λ k. IsPrefix (key_code bs k) (key_code bs (at - 1))) (at - 1)) (sym is) (image.pairs (at - 1) inside).link))

-- the walk up from an index and one more
pub place_back : (r : ℕ) → 0 < r → suc (r - 1) ≡ r
place_back r some = omega (arith, some)

-- a value of what is put behind the first n numbers
pub put_next : {X : Type 0} (f : ℕ → X) (xs : List ℕ) (n v : ℕ) (rest : List X) → n < length xs
    → each f (take (suc n) (set xs n v)) ++ rest ≡ each f (take n xs) ++ f v ∷ rest
put_next f [] n v rest l = absurd (omega (arith, l))
put_next f (x ∷ xs) zero v rest l = refl
put_next f (x ∷ xs) (suc n) v rest l = ap (λ ys. f x ∷ ys) (put_next f xs n v rest (omega (arith, l)))
