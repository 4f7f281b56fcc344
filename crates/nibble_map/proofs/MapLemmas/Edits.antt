-- Insertions and removals, entry by entry.
use Rattle.std.proofs.Common.{◌≡◌, ℕ, ◌≢◌, ◌↔◌, ◌⊎◌, inl, inr, Bool, true, false, cond, T, List, [], ◌∷◌, Option, Some, None, refl, sym, ap, ◌∙◌, subst, nat_cmp, is_lt, is_eq, unwrap_or, is_some}
use Rattle.std.specs.Ordering.{eq_by_cmp}
use Rattle.std.specs.Cmp.{tied_itself}
use Rattle.std.specs.Cmp.Lexicographic.{slice_cmp}
use Rattle.std.proofs.lemmas.Cmp.{nat_list_cmp_total}
use Rattle.std.specs.FinMap as map
use Rattle.std.specs.FinMap.{find, is_sorted}
use Rattle.std.specs.FinMap.Entries.{below_all}
use Rattle.nibble_map.specs.Lists.{Has, IsRising, Lists, is_prefix}
use Rattle.nibble_map.specs.Stored as stored
use Rattle.nibble_map.specs.Stored.{IsSetAt, IsCutAt}
use Rattle.nibble_map.specs.Maps.{IsStored, NibbleMap, walk}
use Rattle.nibble_map.specs.Rows.{insert_all, inserted, removed}
use Rattle.nibble_map.specs.Swaps.{Swaps, entry}
use Rattle.nibble_map.proofs.MapLemmas.Bridge.{first_of_both, second_of_both, greater_by_less, equal_by_test, entries-remove, entries-retain_keys, from_sorted-swapped_over, find-swapped_over, from_sorted-swapped_out, find-swapped_out}
use Rattle.nibble_map.proofs.ListLemmas.Sorted.{tied_lists_equal, rising_of_sorted, sorted_of_rising, has_any, any_has}

-- what two equal options hold is equal
pub same_Some : {A : Type 0} (x y : A) → Some x ≡ Some y → x ≡ y
same_Some x y e = ap (λ o. unwrap_or o x) e

-- none is no option that holds something
pub not_None : {A : Type 0} (x : A) → None ≡ Some x → ⊥
not_None x e = subst T (sym (ap is_some e)) tt

-- two options that hold the same are equal
same_options : {A : Type 0} (o p : Option A) → ((w : A) → o ≡ Some w → p ≡ Some w) → ((w : A) → p ≡ Some w → o ≡ Some w) → o ≡ p
same_options None None f g = refl
same_options None (Some x) f g = g x refl
same_options (Some x) p f g = sym (f x refl)

module _ {P : Type 0} where
  -- a list that is less than all entries is less than each entry's list
  before_has : (x y : List ℕ) (w : P) (es : List (List ℕ × P)) → T (below_all (slice_cmp nat_cmp) y es) → Has es (x, w) → T (is_lt (slice_cmp nat_cmp y x))
  before_has x y w [] h i = absurd i
  before_has x y w (e ∷ es) h (inl q) = subst (λ (z : List ℕ × P). T (is_lt (slice_cmp nat_cmp y z.0))) (sym q) (first_of_both _ _ h)
  before_has x y w (e ∷ es) h (inr i) = before_has x y w es (second_of_both _ _ h) i

  -- each of the sorted entries is found at its list
  found_has : (x : List ℕ) (w : P) (es : List (List ℕ × P)) → T (is_sorted (slice_cmp nat_cmp) es) → Has es (x, w) → find (slice_cmp nat_cmp) x es ≡ Some w
  found_has x w [] h i = absurd i
  found_has x w (e ∷ es) h (inl q) = ap (λ r. cond (is_eq r) (Some e.1) (find (slice_cmp nat_cmp) x es)) (ap (λ (z : List ℕ × P). slice_cmp nat_cmp x z.0) (sym q) ∙ tied_itself nat_list_cmp_total x) ∙ ap (λ (z : List ℕ × P). Some z.1) (sym q)
  found_has x w (e ∷ es) h (inr i) =
      ap (λ r. cond (is_eq r) (Some e.1) (find (slice_cmp nat_cmp) x es)) (greater_by_less _ nat_list_cmp_total e.0 x (before_has x e.0 w es (first_of_both _ _ h) i)) ∙ found_has x w es (second_of_both _ _ h) i

  -- what is found at x is an entry at x
  has_found : (x : List ℕ) (w : P) (es : List (List ℕ × P)) → find (slice_cmp nat_cmp) x es ≡ Some w → Has es (x, w)
  has_found x w [] f = absurd (not_None w f)
  has_found x w (e ∷ es) f = by (eq_by_cmp (slice_cmp nat_cmp) x e.0) refl f (has_found x w es)
    where
      by : (b : Bool) → eq_by_cmp (slice_cmp nat_cmp) x e.0 ≡ b → cond b (Some e.1) (find (slice_cmp nat_cmp) x es) ≡ Some w → (find (slice_cmp nat_cmp) x es ≡ Some w → Has es (x, w)) → Has (e ∷ es) (x, w)
      by true t k later = inl (λ i. (tied_lists_equal x e.0 (equal_by_test _ (subst T (sym t) tt)) i, sym (same_Some _ _ k) i))
      by false t k later = inr (later k)

  -- the entries have w at x exactly where the map answers w at x
  pub has_get : (m : NibbleMap P) (x : List ℕ) (w : P) → Has (map.entries m) (x, w) ↔ (map.get m x ≡ Some w)
  has_get m x w = (λ i. map.get-entries m x ∙ found_has x w _ (map.entries_sorted m) i, λ e. has_found x w _ (sym (map.get-entries m x) ∙ e))

  -- a map that answers v at e, and otherwise as m does
  at_insert : (x e : List ℕ) (v w : P) (o : Option P) → (cond (eq_by_cmp (slice_cmp nat_cmp) x e) (Some v) o ≡ Some w) ↔ (((x ≡ e) × (w ≡ v)) ⊎ ((x ≢ e) × (o ≡ Some w)))
  at_insert x e v w o = by (eq_by_cmp (slice_cmp nat_cmp) x e) refl
    where
      by : (b : Bool) → eq_by_cmp (slice_cmp nat_cmp) x e ≡ b → (cond b (Some v) o ≡ Some w) ↔ (((x ≡ e) × (w ≡ v)) ⊎ ((x ≢ e) × (o ≡ Some w)))
      by true t = let q : x ≡ e = tied_lists_equal x e (equal_by_test _ (subst T (sym t) tt)) in (λ k. inl (q, sym (same_Some _ _ k)), λ s. elim s [ inl k ↦ ap (λ z. Some z) (sym k.1) | inr k ↦ absurd (k.0 q) ])
      by false t =
          let n : x ≢ e = (λ q. subst T (ap (λ l. eq_by_cmp (slice_cmp nat_cmp) x l) q ∙ t) (subst (λ r. T (is_eq r)) (sym (tied_itself nat_list_cmp_total x)) tt)) in
          (λ k. inr (n, k), λ s. elim s [ inl k ↦ absurd (n k.0) | inr k ↦ k.1 ])

  -- a map that answers none at e, and otherwise as m does
  at_remove : (x e : List ℕ) (w : P) (o : Option P) → (cond (eq_by_cmp (slice_cmp nat_cmp) x e) None o ≡ Some w) ↔ ((x ≢ e) × (o ≡ Some w))
  at_remove x e w o = by (eq_by_cmp (slice_cmp nat_cmp) x e) refl
    where
      by : (b : Bool) → eq_by_cmp (slice_cmp nat_cmp) x e ≡ b → (cond b None o ≡ Some w) ↔ ((x ≢ e) × (o ≡ Some w))
      by true t = let q : x ≡ e = tied_lists_equal x e (equal_by_test _ (subst T (sym t) tt)) in (λ k. absurd (not_None w k), λ k. absurd (k.0 q))
      by false t =
          let n : x ≢ e = (λ q. subst T (ap (λ l. eq_by_cmp (slice_cmp nat_cmp) x l) q ∙ t) (subst (λ r. T (is_eq r)) (sym (tied_itself nat_list_cmp_total x)) tt)) in
          (λ k. (n, k), λ k. k.1)

  -- after an insertion at e the map answers v there, and elsewhere by the old entries
  get_insert : (m : NibbleMap P) (e : List ℕ) (v : P) (x : List ℕ) (w : P) → (map.get (map.insert m e v) x ≡ Some w) ↔ (((x ≡ e) × (w ≡ v)) ⊎ ((x ≢ e) × Has (map.entries m) (x, w)))
  get_insert m e v x w =
      let a = at_insert x e v w (map.get m x) in
      let g = map.get-insert nat_list_cmp_total m e v x in
      let h = has_get m x w in
      (λ k. elim (a.0 (sym g ∙ k)) [ inl s ↦ inl s | inr s ↦ inr (s.0, h.1 s.1) ], λ s. g ∙ a.1 (elim s [ inl k ↦ inl k | inr k ↦ inr (k.0, h.0 k.1) ]))

  -- after a removal at e the map answers none there, and elsewhere by the old entries
  get_remove : (m : NibbleMap P) (e x : List ℕ) (w : P) → (map.get (map.remove m e) x ≡ Some w) ↔ ((x ≢ e) × Has (map.entries m) (x, w))
  get_remove m e x w =
      let a = at_remove x e w (map.get m x) in
      let g = map.get-remove nat_list_cmp_total m e x in
      let h = has_get m x w in
      (λ k. let s = a.0 (sym g ∙ k) in (s.0, h.1 s.1), λ s. g ∙ a.1 (s.0, h.0 s.1))

  -- an insertion sets one entry, that at e, and leaves the others
  pub insert_sets_entry : (m : NibbleMap P) (e : List ℕ) (v : P) → IsSetAt (map.entries m) e v (map.entries (map.insert m e v))
  insert_sets_entry m e v = record {
    rising = rising_of_sorted _ (map.entries_sorted (map.insert m e v));
    exactly = λ x w. let h = has_get (map.insert m e v) x w in let g = get_insert m e v x w in (λ i. g.0 (h.0 i), λ s. h.1 (g.1 s));
  }

  -- a removal cuts one entry, that at e, and leaves the others
  pub remove_cuts_entry : (m : NibbleMap P) (e : List ℕ) → IsCutAt (map.entries m) e (map.entries (map.remove m e))
  remove_cuts_entry m e = record {
    rising = rising_of_sorted _ (map.entries_sorted (map.remove m e));
    exactly = λ x w. let h = has_get (map.remove m e) x w in let g = get_remove m e x w in (λ i. g.0 (h.0 i), λ s. h.1 (g.1 s));
  }

  -- a map whose entries are those of m with v at e is m after an insertion
  pub set_is_insert : (m n : NibbleMap P) (e : List ℕ) (v : P) → IsSetAt (map.entries m) e v (map.entries n) → n ≡ map.insert m e v
  set_is_insert m n e v s = map.same_map nat_list_cmp_total tied_lists_equal n (map.insert m e v) (λ x. same_options _ _
      (λ w k. (get_insert m e v x w).1 ((s.exactly x w).0 ((has_get n x w).1 k)))
      (λ w k. (has_get n x w).0 ((s.exactly x w).1 ((get_insert m e v x w).0 k))))

  -- a map whose entries are those of m with nothing at e is m after a removal
  pub cut_is_remove : (m n : NibbleMap P) (e : List ℕ) → IsCutAt (map.entries m) e (map.entries n) → n ≡ map.remove m e
  cut_is_remove m n e s = map.same_map nat_list_cmp_total tied_lists_equal n (map.remove m e) (λ x. same_options _ _
      (λ w k. (get_remove m e x w).1 ((s.exactly x w).0 ((has_get n x w).1 k)))
      (λ w k. (has_get n x w).0 ((s.exactly x w).1 ((get_remove m e x w).0 k))))

  -- the keys of a map are exactly its stored lists, in rising order
  pub keys_list_stored : (m : NibbleMap P) → Lists (IsStored m) (map.keys m)
  keys_list_stored m = record {
    rising = rising_of_sorted _ (map.entries_sorted m);
    exactly = λ p. (λ i. subst T (sym (map.contains_key-keys m p)) (any_has p _ i), λ t. has_any p _ (subst T (map.contains_key-keys m p) t));
  }

  -- a list is stored by the map's entries exactly where it is stored in the map
  pub stored_by_entries : (m : NibbleMap P) (e : List ℕ) → stored.IsStored (map.entries m) e ↔ IsStored m e
  stored_by_entries m e = (keys_list_stored m).exactly e

  -- the walk below p is the entries of the map whose lists have the prefix p
  pub walk-by_entries : (m : NibbleMap P) (p : List ℕ) → walk m p ≡ stored.below (map.entries m) p
  walk-by_entries m p = entries-retain_keys _ nat_list_cmp_total tied_lists_equal m (is_prefix p)

-- one entry swapped in a rising list of entries
module _ {P : Type 0} (p : List ℕ) where
  -- the map of the new entries is that of the old after an insertion, where one is put at p
  pub from_sorted-lists_swapped_over : (was : Option P) (x : P) (old new : List (List ℕ × P)) → IsRising (stored.stored old) → IsRising (stored.stored new)
      → Swaps (entry p was) (entry p (Some x)) old new → map.from_sorted {R = slice_cmp nat_cmp} new ≡ map.insert (map.from_sorted old) p x
  from_sorted-lists_swapped_over was x old new g h s = from_sorted-swapped_over _ nat_list_cmp_total p was x old new s (sorted_of_rising old g) (sorted_of_rising new h)

  -- the map of the old entries answers at p what the entry put there replaces, or none
  pub get-lists_swapped_over : (was : Option P) (x : P) (old new : List (List ℕ × P)) → IsRising (stored.stored old) → IsRising (stored.stored new)
      → Swaps (entry p was) (entry p (Some x)) old new → map.get (map.from_sorted {R = slice_cmp nat_cmp} old) p ≡ was
  get-lists_swapped_over was x old new g h s = map.get-from_sorted _ old p (sorted_of_rising old g) ∙ find-swapped_over _ nat_list_cmp_total tied_lists_equal p was x old new s (sorted_of_rising old g) (sorted_of_rising new h)

  -- the map of the new entries is that of the old after a removal, where the one at p goes
  pub from_sorted-lists_swapped_out : (x : P) (old new : List (List ℕ × P)) → IsRising (stored.stored old)
      → Swaps (entry p (Some x)) (entry p None) old new → map.from_sorted {R = slice_cmp nat_cmp} new ≡ map.remove (map.from_sorted old) p
  from_sorted-lists_swapped_out x old new g s = from_sorted-swapped_out _ nat_list_cmp_total tied_lists_equal p x old new s (sorted_of_rising old g)

  -- the map of the old entries answers at p the pair that goes
  pub get-lists_swapped_out : (x : P) (old new : List (List ℕ × P)) → IsRising (stored.stored old)
      → Swaps (entry p (Some x)) (entry p None) old new → map.get (map.from_sorted {R = slice_cmp nat_cmp} old) p ≡ Some x
  get-lists_swapped_out x old new g s = map.get-from_sorted _ old p (sorted_of_rising old g) ∙ find-swapped_out _ nat_list_cmp_total p x old new s (sorted_of_rising old g)

-- entries as the worked rows compute them
-- the entries after insertions into a map are what the rows compute
pub entries-insert_all : (m : NibbleMap ℕ) (es : List (List ℕ × ℕ)) → map.entries (insert_all m es) ≡ inserted (map.entries m) es
entries-insert_all m [] = refl
entries-insert_all m (e ∷ es) = entries-insert_all (map.insert m e.0 e.1) es ∙ ap (λ l. inserted l es) (map.entries-insert nat_list_cmp_total m e.0 e.1)

-- the entries after a removal from a map are what the rows compute
pub entries-remove_row : (m : NibbleMap ℕ) (e : List ℕ) → map.entries (map.remove m e) ≡ removed e (map.entries m)
entries-remove_row m e = entries-remove _ nat_list_cmp_total tied_lists_equal m e
