-- From a change of a sorted list of entries to the same change of its map.
use Rattle.std.proofs.Common.{◌≡◌, Bool, true, false, cond, not, ◌&&◌, T, List, [], ◌∷◌, ◌++◌, Option, Some, None, refl, sym, ap, ◌∙◌, subst, Less, Equal, Greater, Ordering, is_lt, is_eq, length}
use Rattle.std.specs.Ordering.{eq_by_cmp, ordering_reverse}
use Rattle.std.specs.Cmp.{IsTotalOrder, tied_itself, eq_by_cmp_equiv}
use Rattle.std.specs.FinMap.{FinMap, is_sorted, find, put, IsAntisymmetric, entries, entries-insert, entries-from_sorted, entries_sorted, from_sorted, get-from_sorted, get-remove, get-retain_keys, get-entries, len-entries, same_map, same_entries_map, insert, remove, retain_keys, get, get_tied, empty, empty_of_len}
use Rattle.std.specs.FinMap.Entries.{below_all, by_order, where_key, is_sorted-where_key, is_sorted-put, find-put, find-where_key}
use Rattle.nibble_map.specs.Swaps.{Swaps, entry}

-- where `a && b` holds, a holds
pub first_of_both : (a b : Bool) → T (a && b) → T a
first_of_both true b p = tt
first_of_both false b p = p

-- where `a && b` holds, b holds
pub second_of_both : (a b : Bool) → T (a && b) → T b
second_of_both true b p = p
second_of_both false b p = absurd p

-- `a && b` holds where both do
pub both_hold : (a b : Bool) → T a → T b → T (a && b)
both_hold true b p q = q
both_hold false b p q = p

-- an order that passes the test `is_lt` is `Less`
pub less_by_test : (o : Ordering) → T (is_lt o) → o ≡ Less
less_by_test Less p = refl
less_by_test Equal p = absurd p
less_by_test Greater p = absurd p

-- `cond` on the opposite of a test has its branches changed over
cond-not : {A : Type 0} (b : Bool) (x y : A) → cond b x y ≡ cond (not b) y x
cond-not true x y = refl
cond-not false x y = refl

-- a test says the same of two keys that compare as equal
pub test-tied_keys : {K : Type 0} (R : K → K → Ordering) (same : IsAntisymmetric R) (t : K → Bool) (q x : K) → R q x ≡ Equal → t x ≡ t q
test-tied_keys R same t q x e = ap t (sym (same q x e))

-- where q is less than p, p compares to q as greater
pub greater_by_less : {K : Type 0} (R : K → K → Ordering) → IsTotalOrder R → (q p : K) → T (is_lt (R q p)) → R p q ≡ Greater
greater_by_less R o q p h = o.antisymm p q ∙ ap ordering_reverse (less_by_test _ h)

module _ {K X : Type 0} (R : K → K → Ordering) (o : IsTotalOrder R) where
  -- where q is less than all entries, a key in the middle compares to q as greater
  below_mid : (q : K) (before : List (K × X)) (p : K) (x : X) (after : List (K × X)) → T (below_all R q (before ++ (p, x) ∷ after)) → R p q ≡ Greater
  below_mid q [] p x after h = greater_by_less R o q p (first_of_both _ _ h)
  below_mid q (e ∷ es) p x after h = below_mid q es p x after (second_of_both _ _ h)

  -- an entry whose key is less than all the others is put first
  put_first : (p : K) (x : X) (after : List (K × X)) → T (below_all R p after) → put R p x after ≡ (p, x) ∷ after
  put_first p x [] h = refl
  put_first p x (a ∷ bs) h = ap (λ r. by_order r ((p, x) ∷ a ∷ bs) ((a.0, x) ∷ bs) (a ∷ put R p x bs)) (less_by_test _ (first_of_both _ _ h))

  -- an entry put at p, between lower and higher ones, takes the place of what was at p, if any
  pub put-middle : (before : List (K × X)) (p : K) (w : Option X) (x : X) (after : List (K × X)) → T (is_sorted R (before ++ (p, x) ∷ after)) → put R p x (before ++ (entry p w ++ after)) ≡ before ++ (p, x) ∷ after
  put-middle [] p None x after h = put_first p x after (first_of_both _ _ h)
  put-middle [] p (Some w) x after h = ap (λ r. by_order r ((p, x) ∷ (p, w) ∷ after) ((p, x) ∷ after) ((p, w) ∷ put R p x after)) (tied_itself o p)
  put-middle (e ∷ es) p w x after h =
      ap (λ r. by_order r ((p, x) ∷ e ∷ (es ++ (entry p w ++ after))) ((e.0, x) ∷ (es ++ (entry p w ++ after))) (e ∷ put R p x (es ++ (entry p w ++ after)))) (below_mid e.0 es p x after (first_of_both _ _ h))
      ∙ ap (λ t. e ∷ t) (put-middle es p w x after (second_of_both _ _ h))

  -- the entries but the one at p
  abbrev others : K → List (K × X) → List (K × X)
  others p es = where_key R (λ k. not (eq_by_cmp R p k)) es

  -- where p is less than all entries, none is left out at p
  others_above : (p : K) (after : List (K × X)) → T (below_all R p after) → others p after ≡ after
  others_above p [] h = refl
  others_above p (a ∷ bs) h = ap (λ r. cond (not (is_eq r)) (a ∷ others p bs) (others p bs)) (less_by_test _ (first_of_both _ _ h)) ∙ ap (λ t. a ∷ t) (others_above p bs (second_of_both _ _ h))

  -- the entries but the one at p are those before it and those after it
  others-middle : (before : List (K × X)) (p : K) (x : X) (after : List (K × X)) → T (is_sorted R (before ++ (p, x) ∷ after)) → others p (before ++ (p, x) ∷ after) ≡ before ++ after
  others-middle [] p x after h = ap (λ r. cond (not (is_eq r)) ((p, x) ∷ others p after) (others p after)) (tied_itself o p) ∙ others_above p after (first_of_both _ _ h)
  others-middle (e ∷ es) p x after h =
      let rest = others p (es ++ (p, x) ∷ after) in
      ap (λ r. cond (not (is_eq r)) (e ∷ rest) rest) (below_mid e.0 es p x after (first_of_both _ _ h)) ∙ ap (λ t. e ∷ t) (others-middle es p x after (second_of_both _ _ h))

  -- the entries are sorted by the order R
  abbrev IsSortedList : List (K × X) → Type 0
  IsSortedList es = T (is_sorted R es)

  -- the list's own answers
  -- an entry put at p makes of the old list the new one, where the two differ by that swap
  put-swapped_over : (p : K) (w : Option X) (x : X) (old new : List (K × X)) → Swaps (entry p w) ((p, x) ∷ []) old new → IsSortedList new → put R p x old ≡ new
  put-swapped_over p w x old new s h = ap (put R p x) s.was ∙ put-middle s.before p w x s.after (subst IsSortedList s.is h) ∙ sym s.is

  -- the old list but for p is the new one, where they differ by the entry at p being gone
  others-swapped_out : (p : K) (x : X) (old new : List (K × X)) → Swaps ((p, x) ∷ []) [] old new → IsSortedList old → others p old ≡ new
  others-swapped_out p x old new s h = ap (others p) s.was ∙ others-middle s.before p x s.after (subst IsSortedList s.was h) ∙ sym s.is

  -- a sorted list stays sorted where the entry at p goes
  sorted_others : (p : K) (x : X) (old new : List (K × X)) → Swaps ((p, x) ∷ []) [] old new → IsSortedList old → IsSortedList new
  sorted_others p x old new s h = subst IsSortedList (others-swapped_out p x old new s h) (is_sorted-where_key R _ old h)

  -- the entry in the middle of a sorted list is found at its key
  find-middle : (before : List (K × X)) (p : K) (x : X) (after : List (K × X)) → T (is_sorted R (before ++ (p, x) ∷ after)) → find R p (before ++ (p, x) ∷ after) ≡ Some x
  find-middle before p x after h =
      let es = before ++ (p, x) ∷ after in
      ap (find R p) (sym (put-middle before p (Some x) x after h)) ∙ find-put R o p p x es ∙ ap (λ r. cond (is_eq r) (Some x) (find R p es)) (tied_itself o p)

  -- where the entry at p goes, the old list has it at p
  pub find-swapped_out : (p : K) (x : X) (old new : List (K × X)) → Swaps ((p, x) ∷ []) [] old new → IsSortedList old → find R p old ≡ Some x
  find-swapped_out p x old new s h = ap (find R p) s.was ∙ find-middle s.before p x s.after (subst IsSortedList s.was h)

  module _ (same : IsAntisymmetric R) where
    -- among the entries but the one at p nothing is found at p
    find_others : (es : List (K × X)) (p : K) → find R p (others p es) ≡ None
    find_others es p = find-where_key R (λ k. not (eq_by_cmp R p k)) p (test-tied_keys R same _ p) es ∙ ap (λ r. cond (not (is_eq r)) (find R p es) None) (tied_itself o p)

    -- what an insertion, or a removal, finds at its list
    -- where an entry is put at p, the old list has at p what it replaces, or none
    pub find-swapped_over : (p : K) (w : Option X) (x : X) (old new : List (K × X)) → Swaps (entry p w) ((p, x) ∷ []) old new → IsSortedList old → IsSortedList new → find R p old ≡ w
    find-swapped_over p None x old new s g h = ap (find R p) (s.was ∙ sym (others-middle s.before p x s.after (subst IsSortedList s.is h))) ∙ find_others _ p
    find-swapped_over p (Some w) x old new s g h = ap (find R p) s.was ∙ find-middle s.before p w s.after (subst IsSortedList s.was g)

    -- the map restricted to a test is made from the entries that pass the test
    retained_by_entries : (m : FinMap R X) (t : K → Bool) → retain_keys m t ≡ from_sorted (where_key R t (entries m))
    retained_by_entries m t = same_map o same _ _ (λ q. get-retain_keys m t q (test-tied_keys R same t q) ∙ ap (λ v. cond (t q) v None) (get-entries m q)
        ∙ sym (get-from_sorted R _ q (is_sorted-where_key R t (entries m) (entries_sorted m)) ∙ find-where_key R t q (test-tied_keys R same t q) (entries m)))

    -- the entries of a map restricted to a test are those that pass the test
    pub entries-retain_keys : (m : FinMap R X) (t : K → Bool) → entries (retain_keys m t) ≡ where_key R t (entries m)
    entries-retain_keys m t = ap entries (retained_by_entries m t) ∙ entries-from_sorted R _ (is_sorted-where_key R t (entries m) (entries_sorted m))

    -- a removal at p is the restriction to the keys other than p
    remove_is : (m : FinMap R X) (p : K) → remove m p ≡ retain_keys m (λ k. not (eq_by_cmp R p k))
    remove_is m p = same_map o same _ _ (λ q. get-remove o m p q ∙ ap (λ b. cond b None (get m q)) ((eq_by_cmp_equiv o).symm q p) ∙ cond-not (eq_by_cmp R p q) None (get m q) ∙ sym (get-retain_keys m _ q (test-tied_keys R same _ q)))

    -- the entries after a removal at p are those but the one at p
    pub entries-remove : (m : FinMap R X) (p : K) → entries (remove m p) ≡ others p (entries m)
    entries-remove m p = ap entries (remove_is m p) ∙ entries-retain_keys m _

  -- the map's answers
  -- the map of the entries after a put is the map of the old ones after an insertion
  from_sorted-put : (p : K) (x : X) (old new : List (K × X)) → put R p x old ≡ new → IsSortedList old → from_sorted {R = R} new ≡ insert (from_sorted old) p x
  from_sorted-put p x old new e g = same_entries_map _ _
      (entries-from_sorted R new (subst IsSortedList e (is_sorted-put R o p x old g)) ∙ sym (entries-insert o (from_sorted old) p x ∙ ap (put R p x) (entries-from_sorted R old g) ∙ e))

  -- the map of the new list is that of the old after an insertion, where an entry is put at p
  pub from_sorted-swapped_over : (p : K) (w : Option X) (x : X) (old new : List (K × X)) → Swaps (entry p w) ((p, x) ∷ []) old new → IsSortedList old → IsSortedList new → from_sorted {R = R} new ≡ insert (from_sorted old) p x
  from_sorted-swapped_over p w x old new s g h = from_sorted-put p x old new (put-swapped_over p w x old new s h) g

  module _ (same : IsAntisymmetric R) where
    -- the map of the new list is that of the old after a removal, where the entry at p goes
    pub from_sorted-swapped_out : (p : K) (x : X) (old new : List (K × X)) → Swaps ((p, x) ∷ []) [] old new → IsSortedList old → from_sorted {R = R} new ≡ remove (from_sorted old) p
    from_sorted-swapped_out p x old new s g =
        let kept : others p old ≡ new = others-swapped_out p x old new s g in
        let h : IsSortedList new = sorted_others p x old new s g in
        same_entries_map _ _ (entries-from_sorted R new h ∙ sym (entries-remove same (from_sorted old) p ∙ ap (others p) (entries-from_sorted R old g) ∙ kept))

-- at a key that the map lacks, a removal does nothing
-- `cond b None v` is v where v is none whenever b holds
cut_absent : {A : Type 0} (b : Bool) (v : Option A) → (T b → v ≡ None) → cond b None v ≡ v
cut_absent true v h = sym (h tt)
cut_absent false v h = refl

-- an order that passes the test `is_eq` is `Equal`
pub equal_by_test : (r : Ordering) → T (is_eq r) → r ≡ Equal
equal_by_test Less h = absurd h
equal_by_test Equal h = refl
equal_by_test Greater h = absurd h

-- the removal of a key that the map lacks changes nothing
pub remove-absent : {K X : Type 0} (R : K → K → Ordering) (o : IsTotalOrder R) (same : IsAntisymmetric R) (m : FinMap R X) (p : K) → get m p ≡ None → remove m p ≡ m
remove-absent R o same m p none = same_map o same _ _ (λ q. get-remove o m p q ∙ cut_absent _ _ (λ t. get_tied o m p q (equal_by_test _ (subst T ((eq_by_cmp_equiv o).symm q p) t)) ∙ none))

-- the map of no entries is the empty map
pub from_sorted-nil : {K X : Type 0} (R : K → K → Ordering) → from_sorted {X = X} {R = R} [] ≡ empty
from_sorted-nil R = empty_of_len _ (len-entries _ ∙ ap length (entries-from_sorted R [] tt))
