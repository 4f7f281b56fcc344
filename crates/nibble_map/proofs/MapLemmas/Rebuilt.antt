-- A map's entries, inserted one after another, give the map.
use Rattle.std.proofs.Common.{◌≡◌, ℕ, Bool, true, false, cond, T, List, [], ◌∷◌, fold, Option, Some, None, is_some, is_eq, nat_cmp, refl, sym, ap, subst, ◌∙◌}
use Rattle.std.proofs.lemmas.Cmp.{nat_list_cmp_total}
use Rattle.std.specs.Cmp.Lexicographic.{slice_cmp}
use Rattle.std.specs.FinMap as map
use Rattle.std.specs.FinMap.{find, is_sorted}
use Rattle.std.specs.FinMap.Entries.{below_all}
use Rattle.std.specs.Ordering.{eq_by_cmp}
use Rattle.nibble_map.specs.Maps.{NibbleMap}
use Rattle.nibble_map.proofs.MapLemmas.Bridge.{first_of_both, second_of_both, less_by_test, equal_by_test}
use Rattle.nibble_map.proofs.ListLemmas.Sorted.{tied_lists_equal}

module _ {P : Type 0} where
  -- what comes before all entries is none of their lists
  find-before_all : (q : List ℕ) (es : List (List ℕ × P)) → T (below_all (slice_cmp nat_cmp) q es) → find (slice_cmp nat_cmp) q es ≡ None
  find-before_all q [] h = refl
  find-before_all q (e ∷ es) h =
      ap (λ o. cond (is_eq o) (Some e.1) (find (slice_cmp nat_cmp) q es)) (less_by_test _ (first_of_both _ _ h)) ∙ find-before_all q es (second_of_both _ _ h)

  -- the map with rows inserted one after another
  abbrev pub put_rows : NibbleMap P → List (List ℕ × P) → NibbleMap P
  put_rows m es = fold (λ n e. map.insert n e.0 e.1) m es

  -- after sorted rows are inserted a map answers as the rows do, and where they don't, as before
  pub get-put_rows : (es : List (List ℕ × P)) (m : NibbleMap P) (q : List ℕ) → T (is_sorted (slice_cmp nat_cmp) es)
      → map.get (put_rows m es) q ≡ cond (is_some (find (slice_cmp nat_cmp) q es)) (find (slice_cmp nat_cmp) q es) (map.get m q)
  get-put_rows [] m q h = refl
  get-put_rows (e ∷ es) m q h =
      get-put_rows es (map.insert m e.0 e.1) q (second_of_both _ _ h)
      ∙ ap (cond (is_some (find (slice_cmp nat_cmp) q es)) (find (slice_cmp nat_cmp) q es)) (map.get-insert nat_list_cmp_total m e.0 e.1 q)
      ∙ by (eq_by_cmp (slice_cmp nat_cmp) q e.0) refl
    where
      by : (b : Bool) → eq_by_cmp (slice_cmp nat_cmp) q e.0 ≡ b
          → cond (is_some (find (slice_cmp nat_cmp) q es)) (find (slice_cmp nat_cmp) q es) (cond b (Some e.1) (map.get m q)) ≡ cond (is_some (cond b (Some e.1) (find (slice_cmp nat_cmp) q es))) (cond b (Some e.1) (find (slice_cmp nat_cmp) q es)) (map.get m q)
      by true t =
          let none = ap (λ l. find (slice_cmp nat_cmp) l es) (tied_lists_equal q e.0 (equal_by_test _ (subst T (sym t) tt))) ∙ find-before_all e.0 es (first_of_both _ _ h) in
          ap (λ o. cond (is_some o) o (Some e.1)) none
      by false t = refl

  -- an option, with none in its place where it is none, is itself
  pub cond-is_some : (o : Option P) → cond (is_some o) o None ≡ o
  cond-is_some None = refl
  cond-is_some (Some x) = refl

  -- the entries of a map, inserted one after another into the empty map, give the map
  pub put_rows-entries : (m : NibbleMap P) → put_rows map.empty (map.entries m) ≡ m
  put_rows-entries m = map.same_map nat_list_cmp_total tied_lists_equal _ _ (λ q. get-put_rows (map.entries m) map.empty q (map.entries_sorted m)
      ∙ ap (cond (is_some (find (slice_cmp nat_cmp) q (map.entries m))) (find (slice_cmp nat_cmp) q (map.entries m))) (map.get-empty (slice_cmp nat_cmp) q)
      ∙ cond-is_some (find (slice_cmp nat_cmp) q (map.entries m)) ∙ sym (map.get-entries m q))
