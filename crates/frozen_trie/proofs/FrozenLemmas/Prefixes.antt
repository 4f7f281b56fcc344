-- The pairs whose encodings are prefixes of a list, by the links.
use Rattle.std.proofs.Common.{◌≡◌, ℕ, zero, suc, ◌+◌, ◌<◌, ◌≤◌, inl, inr, false, List, [], ◌∷◌, length, map, reverse, take, get_or, slice_get, Some, refl, sym, ap, subst, ◌∙◌, arith}
use Rattle.std.proofs.lemmas.Bool.{cases_lt}
use Rattle.std.proofs.lemmas.Cmp.{nat_list_cmp_total}
use Rattle.std.proofs.lemmas.List.{reverse-reverse, take_all}
use Rattle.std.proofs.lemmas.Option.{get_or_from_slice_get}
use Rattle.std.specs.List.{filter}
use Rattle.nibble_map.specs.Lists.{IsBefore, IsPrefix, IsRising, is_prefix}
use Rattle.nibble_map.proofs.ListLemmas.Parted.{is_prefix_true, prefix_by_test, prefix_itself, prefix_through}
use Rattle.nibble_map.proofs.ListLemmas.Sorted.{tied_lists_equal}
use Rattle.nibble_map.proofs.MapLemmas.Bridge.{entries-retain_keys}
use Rattle.nibble_map.proofs.MapLemmas.SameTests.{equal_tests}
use Rattle.radix_trie.specs.Views.{pairs_above}
use Rattle.encoded_keys.specs.Codes.{IsLastPrefix, code_at}
use Rattle.frozen_trie.specs.Frozen.{codes_of, map_of_pairs, pairs_up_from, prefixes_up}
use Rattle.encoded_keys.proofs.CodeLemmas.Order.{begun_not_before, between_begins, prefix_before}
use Rattle.encoded_keys.proofs.CodeLemmas.Parts.{rising_at}
use Rattle.frozen_trie.proofs.FrozenLemmas.Queries.{as_many, not_true, whole_is}
use Rattle.sorted_tables.specs.Tables.{items_up}
use Rattle.sorted_tables.proofs.TableLemmas.Parts.{cut_filter}
use Rattle.sorted_tables.proofs.TableLemmas.Walks.{walk_up as walk_by_links, one_up as step_by_links}
use Rattle.frozen_trie.proofs.FrozenLemmas.Rows.{code_of_pair, entries_are_rows, filter_rows, test_at}

-- of two prefixes of a list the one that comes before is a prefix of the other
shorter_begins : (r x q : List ℕ) → IsPrefix r q → IsPrefix x q → IsBefore r x → IsPrefix r x
shorter_begins r x q p s b = elim (prefix_before x q s) [
  | inl e ↦ subst (IsPrefix r) (sym e) p
  | inr c ↦ between_begins r x q p b c
]

-- what stands at an index
pair_at_index : {A : Type 0} (xs : List A) (i : ℕ) → i < length xs → (x : A) × (x ≡ get_or xs i x) × (slice_get xs i ≡ Some x)
pair_at_index [] i l = absurd (omega (arith, l))
pair_at_index (x ∷ xs) zero l = (x, refl, refl)
pair_at_index (x ∷ xs) (suc i) l = pair_at_index xs i (omega (arith, l))

module _ {K V : Type 0} (enc : K → List ℕ) (ps : List (K × V)) (rises : IsRising (codes_of enc ps)) where
  -- the code at an index
  abbrev code : ℕ → List ℕ
  code k = code_at (codes_of enc ps) k

  -- of the first n pairs those whose codes are prefixes of q
  abbrev above : List ℕ → ℕ → List (K × V)
  above q n = filter (λ p. is_prefix (enc p.0) q) (take n ps)

  -- of the pairs up to an index those whose codes are prefixes of the one there, from the longest up
  abbrev ups : ℕ → List (K × V)
  ups n = items_up (λ i p. is_prefix (enc p.0) (code i)) ps n

  -- of all
  above_is : (q : List ℕ) → pairs_above (map_of_pairs enc ps) q ≡ above q (length ps)
  above_is q =
      ap (map (λ e. e.1)) (entries-retain_keys _ nat_list_cmp_total tied_lists_equal (map_of_pairs enc ps) (λ p. is_prefix p q) ∙ ap (filter (λ e. is_prefix e.0 q)) (entries_are_rows enc ps rises))
      ∙ filter_rows enc (λ c. is_prefix c q) ps
      ∙ ap (filter (λ p. is_prefix (enc p.0) q)) (sym (take_all (length ps) ps (omega arith)))

  -- a code is later than its prefixes
  later : (i k : ℕ) → i < k → k < length ps → is_prefix (code k) (code i) ≡ false
  later i k l m = not_true _ (λ t. begun_not_before (code k) (code i) (prefix_by_test _ _ t) (rising_at (codes_of enc ps) rises i k l (omega (arith, m, as_many enc ps rises))))

  -- so the walk up from a pair goes over those up to it
  ups_are : (n : ℕ) → n ≤ length ps → prefixes_up enc (map_of_pairs enc ps) n ≡ ups n
  ups_are zero l = refl
  ups_are (suc i) l =
      let within : i < length ps = omega (arith, l) in
      let here = pair_at_index ps i within in
      ap (pairs_up_from enc (map_of_pairs enc ps)) (ap (λ x. slice_get x i) (whole_is enc ps rises) ∙ here.2)
      ∙ ap reverse (ap (pairs_above (map_of_pairs enc ps)) (sym (code_of_pair enc ps i here.0 within here.1))
      ∙ above_is (code i)
      ∙ cut_filter (λ p. is_prefix (enc p.0) (code i)) (suc i) (length ps) ps l (λ k a b d. test_at enc (λ c. is_prefix c (code i)) ps k d ∙ later i k (omega (arith, a)) d))

  -- of the codes up to one that begins q those that begin q begin this one
  begins_too : (q : List ℕ) (i k : ℕ) → i < length ps → IsPrefix (code i) q → k ≤ i → IsPrefix (code k) q → IsPrefix (code k) (code i)
  begins_too q i k within h le p = elim (cases_lt k i) [
    | inl lt ↦ shorter_begins (code k) (code i) q p h (rising_at (codes_of enc ps) rises k i lt (omega (arith, within, as_many enc ps rises)))
    | inr ge ↦ let same : i ≡ k = omega (arith, ge, le) in subst (λ j. IsPrefix (code j) (code i)) same (prefix_itself (code i))
  ]

  -- the walk up from the last prefix of q among the first n codes
  walk_up : (q : List ℕ) (n r : ℕ) → n ≤ length ps → IsLastPrefix (codes_of enc ps) n q r → reverse (above q n) ≡ ups r
  walk_up q n r l last = walk_by_links (λ i p. is_prefix (enc p.0) (code i)) ps (λ p. is_prefix (enc p.0) q) (λ k. IsPrefix (code k) q) n r l
      (λ k within apart. test_at enc (λ c. is_prefix c q) ps k within ∙ not_true _ (λ t. apart (prefix_by_test _ _ t)))
      (λ i k within h le.
      let before : k < length ps = omega (arith, le, within) in
      test_at enc (λ c. is_prefix c q) ps k before
      ∙ equal_tests _ _
      (λ t. is_prefix_true _ _ (begins_too q i k within h le (prefix_by_test _ _ t)))
      (λ t. is_prefix_true _ _ (prefix_through _ _ _ (prefix_by_test _ _ t) h))
      ∙ sym (test_at enc (λ c. is_prefix c (code i)) ps k before)) last

  -- all pairs that are prefixes of q, from the last one on
  pub walk_up_whole : (q : List ℕ) (r : ℕ) → IsLastPrefix (codes_of enc ps) (length (codes_of enc ps)) q r
      → prefixes_up enc (map_of_pairs enc ps) r ≡ reverse (pairs_above (map_of_pairs enc ps) q)
  walk_up_whole q r last =
      let whole : IsLastPrefix (codes_of enc ps) (length ps) q r = subst (λ n. IsLastPrefix (codes_of enc ps) n q r) (as_many enc ps rises) last in
      ups_are r whole.within ∙ sym (walk_up q (length ps) r (omega arith) whole) ∙ ap reverse (sym (above_is q))

  -- the other way round they are those above q, the shortest first
  pub walk_down_whole : (q : List ℕ) (r : ℕ) → IsLastPrefix (codes_of enc ps) (length (codes_of enc ps)) q r
      → reverse (prefixes_up enc (map_of_pairs enc ps) r) ≡ pairs_above (map_of_pairs enc ps) q
  walk_down_whole q r last = ap reverse (walk_up_whole q r last) ∙ reverse-reverse (pairs_above (map_of_pairs enc ps) q)

  -- one step up: a pair, and the walk from its link on
  pub step_up : (i r : ℕ) (p : K × V) → i < length ps → slice_get ps i ≡ Some p → IsLastPrefix (codes_of enc ps) i (code_at (codes_of enc ps) i) r
      → prefixes_up enc (map_of_pairs enc ps) (suc i) ≡ p ∷ prefixes_up enc (map_of_pairs enc ps) r
  step_up i r p l found last =
      let at = sym (get_or_from_slice_get ps i p p found) in
      let more : suc i ≡ i + 1 = omega arith in
      let own = is_prefix_true _ _ (subst (λ c. IsPrefix c (code i)) (code_of_pair enc ps i p l at) (prefix_itself (code i))) in
      ups_are (suc i) (omega (arith, l))
      ∙ ap ups more
      ∙ step_by_links (λ j x. is_prefix (enc x.0) (code j)) ps i r p l at own (walk_up (code i) i r (omega (arith, l)) last)
      ∙ ap (λ x. p ∷ x) (sym (ups_are r (omega (arith, last.within, l))))
