-- The map without what is below a path.
use Rattle.std.proofs.Common.{◌≡◌, ℕ, suc, ◌+◌, ◌≤◌, ◌⊎◌, inl, inr, Bool, true, false, cond, not, T, List, [], ◌∷◌, ◌++◌, filter, length, is_some, Option, None, refl, sym, ap, ◌∙◌, subst, arith, nat_cmp}
use Rattle.std.proofs.lemmas.List.{length-append}
use Rattle.std.proofs.lemmas.List.Elements.{filter-append}
use Rattle.std.proofs.lemmas.List.Filters.{length-filter_both}
use Rattle.std.specs.Cmp.Lexicographic.{slice_cmp}
use Rattle.std.proofs.lemmas.Cmp.{nat_list_cmp_total}
use Rattle.std.specs.FinMap as map
use Rattle.std.specs.FinMap.{is_sorted}
use Rattle.std.specs.FinMap.Entries.{is_sorted-where_key}
use Rattle.nibble_map.specs.Lists.{IsRising, IsPrefix, is_prefix}
use Rattle.nibble_map.specs.Maps.{NibbleMap, IsStored, below, without_below, walk}
use Rattle.nibble_map.specs.Stored.{stored}
use Rattle.nibble_map.specs.Swaps.{Swaps}
use Rattle.nibble_map.proofs.MapLemmas.Below.{get-retained_lists}
use Rattle.nibble_map.proofs.ListLemmas.Parted.{prefix_by_test, is_prefix_true}
use Rattle.nibble_map.proofs.MapLemmas.Rebuilt.{put_rows, get-put_rows, cond-is_some}
use Rattle.nibble_map.proofs.MapLemmas.Bridge.{entries-retain_keys}
use Rattle.nibble_map.proofs.ListLemmas.Sorted.{tied_lists_equal, sorted_of_rising}

-- tests of lists
module _ {A : Type 0} (t : A → Bool) where
  -- a test passes or fails
  split_test : (x : A) → (t x ≡ true) ⊎ (t x ≡ false)
  split_test x = go (t x) refl
    where
      go : (b : Bool) → t x ≡ b → (t x ≡ true) ⊎ (t x ≡ false)
      go true e = inl e
      go false e = inr e

  -- a filter leaves at most as many elements
  filter_is_shorter : (xs : List A) → length (filter t xs) ≤ length xs
  filter_is_shorter xs = omega (arith, length-filter_both t (λ x. not (t x)) (λ x. refl) xs)

  -- what is kept is kept again
  filter_again : (xs : List A) → filter t (filter t xs) ≡ filter t xs
  filter_again [] = refl
  filter_again (x ∷ xs) = elim (split_test x) [ inl e ↦ rw (e, e) (ap (λ ys. x ∷ ys) (filter_again xs)) | inr e ↦ rw e (filter_again xs) ]

  -- where nothing is kept all is kept by the other test
  none_others : (xs : List A) → length (filter t xs) ≡ 0 → filter (λ x. not (t x)) xs ≡ xs
  none_others [] e = refl
  none_others (x ∷ xs) e = elim (split_test x) [
    | inl s ↦ (let n : suc (length (filter t xs)) ≡ 0 = rw s at e in absurd (omega (arith, n)))
    | inr s ↦ (let n : length (filter t xs) ≡ 0 = rw s at e in rw s (ap (λ ys. x ∷ ys) (none_others xs n)))
  ]

  -- where all is kept nothing is kept by the other test
  all_others : (xs : List A) → filter t xs ≡ xs → filter (λ x. not (t x)) xs ≡ []
  all_others [] e = refl
  all_others (x ∷ xs) e = elim (split_test x) [
    | inl s ↦ (let k : x ∷ filter t xs ≡ x ∷ xs = rw s at e in rw s (all_others xs (tail_same _ _ k)))
    | inr s ↦ (let k : filter t xs ≡ x ∷ xs = rw s at e in let l = ap length k in absurd (omega (arith, l, filter_is_shorter xs)))
  ]
    where
      tail_same : {x : A} (ys zs : List A) → x ∷ ys ≡ x ∷ zs → ys ≡ zs
      tail_same ys zs e = cc e

  -- a run that goes, of all that the test keeps, leaves what the other test keeps
  swap_others : (gone old new : List A) → Swaps gone [] old new → filter t old ≡ gone → filter (λ x. not (t x)) old ≡ new
  swap_others gone old new s is =
      let again : filter t gone ≡ gone = ap (filter t) (sym is) ∙ filter_again old ∙ is in
      let parts : filter t s.before ++ (gone ++ filter t s.after) ≡ gone =
      ap (λ g. filter t s.before ++ (g ++ filter t s.after)) (sym again) ∙ ap (λ r. filter t s.before ++ r) (sym (filter-append t gone s.after))
      ∙ sym (filter-append t s.before (gone ++ s.after)) ∙ ap (filter t) (sym s.was) ∙ is in
      let size = ap length parts in
      let a = length-append (filter t s.before) (gone ++ filter t s.after) in
      let b = length-append gone (filter t s.after) in
      let front = none_others s.before (omega (arith, size, a, b)) in
      let back = none_others s.after (omega (arith, size, a, b)) in
      ap (filter (λ x. not (t x))) s.was
      ∙ filter-append (λ x. not (t x)) s.before (gone ++ s.after)
      ∙ (let mid = filter-append (λ x. not (t x)) gone s.after ∙ ap (λ r. r ++ filter (λ x. not (t x)) s.after) (all_others gone again) in λ i. front i ++ (mid ∙ back) i)
      ∙ sym s.is

module _ {P : Type 0} (p : List ℕ) where
  -- the entries left where the run of all below p goes
  -- a run of all entries below p, cut from a list of entries, leaves the map without them
  pub from_sorted-run_cut : (gone old new : List (List ℕ × P)) → IsRising (stored old) → Swaps gone [] old new → filter (λ e. is_prefix p e.0) old ≡ gone
      → map.from_sorted {R = slice_cmp nat_cmp} new ≡ without_below (map.from_sorted old) p
  from_sorted-run_cut gone old new rises s is =
      let left : filter (λ (e : List ℕ × P). not (is_prefix p e.0)) old ≡ new = swap_others (λ e. is_prefix p e.0) gone old new s is in
      let g = sorted_of_rising old rises in
      let h : T (is_sorted (slice_cmp nat_cmp) new) = subst (λ es. T (is_sorted (slice_cmp nat_cmp) es)) left (is_sorted-where_key (slice_cmp nat_cmp) (λ e. not (is_prefix p e)) old g) in
      map.same_entries_map _ _
      (map.entries-from_sorted (slice_cmp nat_cmp) new h
      ∙ sym (entries-retain_keys _ nat_list_cmp_total tied_lists_equal (map.from_sorted old) (λ e. not (is_prefix p e))
      ∙ ap (filter (λ e. not (is_prefix p e.0))) (map.entries-from_sorted (slice_cmp nat_cmp) old g) ∙ left))

  -- what the rest answers
  -- the rest answers none at lists with the prefix p, and elsewhere as the map does
  pub get-without_below : (m : NibbleMap P) (e : List ℕ) → map.get (without_below m p) e ≡ cond (is_prefix p e) None (map.get m e)
  get-without_below m e = get-retained_lists m (λ q. not (is_prefix p q)) e ∙ turned (is_prefix p e) (map.get m e)
    where
      turned : (b : Bool) (o : Option P) → cond (not b) o None ≡ cond b None o
      turned true o = refl
      turned false o = refl

  -- the rest and the part below p have together as many entries as the map
  pub len-without_below : (m : NibbleMap P) → map.len (without_below m p) + map.len (below m p) ≡ map.len m
  len-without_below m =
      let a = map.len-entries (without_below m p) in let b = map.len-entries (below m p) in let c = map.len-entries m in
      let d = ap length (entries-retain_keys _ nat_list_cmp_total tied_lists_equal m (λ e. not (is_prefix p e))) in
      let e = ap length (entries-retain_keys _ nat_list_cmp_total tied_lists_equal m (is_prefix p)) in
      let f = length-filter_both (λ (e : List ℕ × P). is_prefix p e.0) (λ e. not (is_prefix p e.0)) (λ e. refl) (map.entries m) in
      omega (arith, a, b, c, d, e, f)

  -- where nothing is below p nothing changes
  pub without_below-nothing : (m : NibbleMap P) → map.len (below m p) ≡ 0 → without_below m p ≡ m
  without_below-nothing m none =
      let b = map.len-entries (below m p) in
      let e = ap length (entries-retain_keys _ nat_list_cmp_total tied_lists_equal m (is_prefix p)) in
      map.same_entries_map _ _ (entries-retain_keys _ nat_list_cmp_total tied_lists_equal m (λ e. not (is_prefix p e))
      ∙ none_others (λ (e : List ℕ × P). is_prefix p e.0) (map.entries m) (omega (arith, none, b, e)))

  -- the rest holds what the map holds elsewhere
  pub stored_without : (m : NibbleMap P) (e : List ℕ) → IsStored (without_below m p) e → IsStored m e × (IsPrefix p e → ⊥)
  stored_without m e h = by (is_prefix p e) refl
    where
      by : (b : Bool) → is_prefix p e ≡ b → IsStored m e × (IsPrefix p e → ⊥)
      by true t = absurd (subst (λ o. T (is_some o)) (get-without_below m e ∙ ap (λ c. cond c None (map.get m e)) t) h)
      by false t = (
        subst (λ o. T (is_some o)) (get-without_below m e ∙ ap (λ c. cond c None (map.get m e)) t) h,
        λ i. (let both : true ≡ false = sym (is_prefix_true p e i) ∙ t in cc both),
      )

  -- a stored list that hasn't the prefix p is stored in the rest
  pub without_stored : (m : NibbleMap P) (e : List ℕ) → IsStored m e → (IsPrefix p e → ⊥) → IsStored (without_below m p) e
  without_stored m e h apart = by (is_prefix p e) refl
    where
      by : (b : Bool) → is_prefix p e ≡ b → IsStored (without_below m p) e
      by true t = absurd (apart (prefix_by_test p e t))
      by false t = subst (λ o. T (is_some o)) (sym (get-without_below m e ∙ ap (λ c. cond c None (map.get m e)) t)) h

  -- nothing is below p any more
  pub below-without_below : (m : NibbleMap P) → below (without_below m p) p ≡ map.empty
  below-without_below m = map.same_map nat_list_cmp_total tied_lists_equal _ _ (λ q. get-retained_lists (without_below m p) (is_prefix p) q
      ∙ ap (λ o. cond (is_prefix p q) o None) (get-without_below m q) ∙ gone (is_prefix p q) (map.get m q) ∙ sym (map.get-empty (slice_cmp nat_cmp) q))
    where
      gone : (b : Bool) (o : Option P) → cond b (cond b None o) None ≡ None
      gone true o = refl
      gone false o = refl

  -- what was below p, put back, makes the map
  pub put_rows-walk : (m : NibbleMap P) → put_rows (without_below m p) (walk m p) ≡ m
  put_rows-walk m = map.same_map nat_list_cmp_total tied_lists_equal _ _ (λ q.
      get-put_rows (walk m p) (without_below m p) q (map.entries_sorted (below m p))
      ∙ ap (λ o. cond (is_some o) o (map.get (without_below m p) q)) (sym (map.get-entries (below m p) q) ∙ get-retained_lists m (is_prefix p) q)
      ∙ ap (λ o. cond (is_some (cond (is_prefix p q) (map.get m q) None)) (cond (is_prefix p q) (map.get m q) None) o) (get-without_below m q)
      ∙ joined (is_prefix p q) (map.get m q))
    where
      joined : (b : Bool) (o : Option P) → cond (is_some (cond b o None)) (cond b o None) (cond b None o) ≡ o
      joined true o = cond-is_some o
      joined false o = refl
