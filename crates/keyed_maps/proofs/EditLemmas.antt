-- Two edits of a map, one after the other.
use Rattle.std.proofs.Common.{◌≡◌, ◌≢◌, ℕ, Bool, true, false, cond, T, List, Option, Some, None, nat_cmp, refl, ap, sym, subst, ◌∙◌}
use Rattle.std.proofs.lemmas.Cmp.{nat_list_cmp_total}
use Rattle.std.specs.Cmp.Lexicographic.{slice_cmp}
use Rattle.std.specs.FinMap as map
use Rattle.std.specs.Ordering.{eq_by_cmp}
use Rattle.nibble_map.specs.Maps.{NibbleMap}
use Rattle.nibble_map.proofs.ListLemmas.Sorted.{tied_lists_equal}
use Rattle.nibble_map.proofs.MapLemmas.Bridge.{equal_by_test}

-- whether two lists are one, as a map sees it
abbrev is_one : List ℕ → List ℕ → Bool
is_one = eq_by_cmp (slice_cmp nat_cmp)

cond_twice : {A : Type 0} (b : Bool) (u v o : A) → cond b u (cond b v o) ≡ cond b u o
cond_twice true u v o = refl
cond_twice false u v o = refl

cond_commute : {A : Type 0} (b c : Bool) (u v o : A) → (b ≡ true → c ≡ true → ⊥) → cond b u (cond c v o) ≡ cond c v (cond b u o)
cond_commute true true u v o not_both = absurd (not_both refl refl)
cond_commute true false u v o not_both = refl
cond_commute false true u v o not_both = refl
cond_commute false false u v o not_both = refl

module _ {P : Type 0} where
  -- the map n is m with o at the list e, a pair or none
  abbrev IsEdited : NibbleMap P → List ℕ → Option P → NibbleMap P → Type 0
  IsEdited m e o n = (q : List ℕ) → map.get n q ≡ cond (is_one q e) o (map.get m q)

  pub inserted : (m : NibbleMap P) (e : List ℕ) (p : P) → IsEdited m e (Some p) (map.insert m e p)
  inserted m e p = map.get-insert nat_list_cmp_total m e p

  pub removed : (m : NibbleMap P) (e : List ℕ) → IsEdited m e None (map.remove m e)
  removed m e = map.get-remove nat_list_cmp_total m e

  -- of two edits at one list the second counts
  pub edited_over : (m n r s : NibbleMap P) (e : List ℕ) (o u : Option P) → IsEdited m e o n → IsEdited n e u r → IsEdited m e u s → r ≡ s
  edited_over m n r s e o u first second only =
      map.same_map nat_list_cmp_total tied_lists_equal r s
      (λ q. second q ∙ ap (cond (is_one q e) u) (first q) ∙ cond_twice (is_one q e) u o (map.get m q) ∙ sym (only q))

  -- two edits at different lists may be turned around
  pub edited_apart : (m n r : NibbleMap P) (e : List ℕ) (o : Option P) → IsEdited m e o n → (d : List ℕ) (u : Option P) → IsEdited n d u r → d ≢ e
      → (t s : NibbleMap P) → IsEdited m d u t → IsEdited t e o s → r ≡ s
  edited_apart m n r e o first d u second differ t s turned last =
      map.same_map nat_list_cmp_total tied_lists_equal r s (λ q.
      second q ∙ ap (cond (is_one q d) u) (first q)
      ∙ cond_commute (is_one q d) (is_one q e) u o (map.get m q) (λ there here. differ (sym (one q d there) ∙ one q e here))
      ∙ sym (last q ∙ ap (cond (is_one q e) o) (turned q)))
    where
      one : (q l : List ℕ) → is_one q l ≡ true → q ≡ l
      one q l is = tied_lists_equal q l (equal_by_test _ (subst T (sym is) tt))
