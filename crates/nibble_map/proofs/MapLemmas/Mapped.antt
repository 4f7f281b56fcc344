-- The map with a function's values in place of what it holds.
use Rattle.std.proofs.Common.{◌≡◌, ℕ, ◌↔◌, Bool, true, false, cond, T, List, [], ◌∷◌, length, Option, Some, None, is_some, option_map, refl, sym, ap, ◌∙◌, subst, nat_cmp, is_lt, ◌&&◌, map as each}
use Rattle.std.proofs.lemmas.List.{length-map}
use Rattle.std.specs.Ordering.{eq_by_cmp}
use Rattle.std.specs.Cmp.Lexicographic.{slice_cmp}
use Rattle.std.proofs.lemmas.Cmp.{nat_list_cmp_total}
use Rattle.std.specs.FinMap as map
use Rattle.std.specs.FinMap.{find, is_sorted}
use Rattle.std.specs.FinMap.Entries.{below_all}
use Rattle.nibble_map.specs.Maps.{NibbleMap, IsStored, mapped}
use Rattle.nibble_map.proofs.ListLemmas.Sorted.{tied_lists_equal}
use Rattle.nibble_map.proofs.MapLemmas.Below.{get-retained_lists}

-- f of what `cond` picks is what `cond` picks of f of both
map_cond : {A B : Type 0} (f : A → B) (b : Bool) (x y : Option A) → option_map f (cond b x y) ≡ cond b (option_map f x) (option_map f y)
map_cond f true x y = refl
map_cond f false x y = refl

-- f of an option is there exactly where the option is
is_some-map : {A B : Type 0} (f : A → B) (o : Option A) → is_some (option_map f o) ≡ is_some o
is_some-map f None = refl
is_some-map f (Some x) = refl

module _ {P Q : Type 0} (f : P → Q) where
  -- with f of each pair in place of the pairs, a list is less than all entries as before
  below_mapped : (p : List ℕ) (es : List (List ℕ × P)) → below_all (slice_cmp nat_cmp) p (each (λ e. (e.0, f e.1)) es) ≡ below_all (slice_cmp nat_cmp) p es
  below_mapped p [] = refl
  below_mapped p (e ∷ es) = ap (λ b. is_lt (slice_cmp nat_cmp p e.0) && b) (below_mapped p es)

  -- with f of each pair in place of the pairs, entries are sorted as before
  sorted_mapped : (es : List (List ℕ × P)) → is_sorted (slice_cmp nat_cmp) (each (λ e. (e.0, f e.1)) es) ≡ is_sorted (slice_cmp nat_cmp) es
  sorted_mapped [] = refl
  sorted_mapped (e ∷ es) = rw (below_mapped e.0 es, sorted_mapped es) refl

  -- among the entries with f of each pair, f of what is held at q is found
  find_mapped : (q : List ℕ) (es : List (List ℕ × P)) → find (slice_cmp nat_cmp) q (each (λ e. (e.0, f e.1)) es) ≡ option_map f (find (slice_cmp nat_cmp) q es)
  find_mapped q [] = refl
  find_mapped q (e ∷ es) =
      ap (cond (eq_by_cmp (slice_cmp nat_cmp) q e.0) (Some (f e.1))) (find_mapped q es) ∙ sym (map_cond f (eq_by_cmp (slice_cmp nat_cmp) q e.0) (Some e.1) (find (slice_cmp nat_cmp) q es))

  -- a map's entries with f of each pair are sorted
  in_order : (m : NibbleMap P) → T (is_sorted (slice_cmp nat_cmp) (each (λ e. (e.0, f e.1)) (map.entries m)))
  in_order m = subst T (sym (sorted_mapped (map.entries m))) (map.entries_sorted m)

  -- the entries of a mapped map are the map's entries with f of each pair
  pub entries-mapped : (m : NibbleMap P) → map.entries (mapped f m) ≡ each (λ e. (e.0, f e.1)) (map.entries m)
  entries-mapped m = map.entries-from_sorted _ _ (in_order m)

  -- a mapped map has as many entries as the map
  pub len-mapped : (m : NibbleMap P) → map.len (mapped f m) ≡ map.len m
  len-mapped m = map.len-entries _ ∙ ap length (entries-mapped m) ∙ length-map (map.entries m) (λ e. (e.0, f e.1)) ∙ sym (map.len-entries m)

  -- a mapped map answers f of what the map answers
  pub get-mapped : (m : NibbleMap P) (e : List ℕ) → map.get (mapped f m) e ≡ option_map f (map.get m e)
  get-mapped m e = map.get-from_sorted _ _ e (in_order m) ∙ find_mapped e (map.entries m) ∙ ap (option_map f) (sym (map.get-entries m e))

  -- a mapped map stores the same lists as the map
  pub mapped_stored : (m : NibbleMap P) (e : List ℕ) → IsStored (mapped f m) e ↔ IsStored m e
  mapped_stored m e = let i : map.contains_key (mapped f m) e ≡ map.contains_key m e = ap is_some (get-mapped m e) ∙ is_some-map f (map.get m e) in (subst T i, subst T (sym i))

  -- the empty map, mapped, is empty
  pub mapped-empty : mapped f map.empty ≡ map.empty
  mapped-empty = map.empty_of_len _ (len-mapped map.empty ∙ map.len-empty _ P)

  -- mapped after an insertion, a map is the mapped map after an insertion of f of the pair
  pub mapped-insert : (m : NibbleMap P) (e : List ℕ) (p : P) → mapped f (map.insert m e p) ≡ map.insert (mapped f m) e (f p)
  mapped-insert m e p = map.same_map nat_list_cmp_total tied_lists_equal _ _ (λ q. get-mapped _ q ∙ ap (option_map f) (map.get-insert nat_list_cmp_total m e p q)
      ∙ map_cond f (eq_by_cmp (slice_cmp nat_cmp) q e) (Some p) (map.get m q)
      ∙ ap (cond (eq_by_cmp (slice_cmp nat_cmp) q e) (Some (f p))) (sym (get-mapped m q)) ∙ sym (map.get-insert nat_list_cmp_total (mapped f m) e (f p) q))

  -- mapped after a removal, a map is the mapped map after that removal
  pub mapped-remove : (m : NibbleMap P) (e : List ℕ) → mapped f (map.remove m e) ≡ map.remove (mapped f m) e
  mapped-remove m e = map.same_map nat_list_cmp_total tied_lists_equal _ _ (λ q. get-mapped _ q ∙ ap (option_map f) (map.get-remove nat_list_cmp_total m e q)
      ∙ map_cond f (eq_by_cmp (slice_cmp nat_cmp) q e) None (map.get m q)
      ∙ ap (cond (eq_by_cmp (slice_cmp nat_cmp) q e) None) (sym (get-mapped m q)) ∙ sym (map.get-remove nat_list_cmp_total (mapped f m) e q))

  -- the lists of a test
  -- mapped, the part of a map that passes a test is that part of the mapped map
  pub mapped-retain_keys : (m : NibbleMap P) (t : List ℕ → Bool) → mapped f (map.retain_keys m t) ≡ map.retain_keys (mapped f m) t
  mapped-retain_keys m t = map.same_map nat_list_cmp_total tied_lists_equal _ _ (λ q. get-mapped _ q ∙ ap (option_map f) (get-retained_lists m t q)
      ∙ map_cond f (t q) (map.get m q) None
      ∙ ap (λ o. cond (t q) o None) (sym (get-mapped m q)) ∙ sym (get-retained_lists (mapped f m) t q))
