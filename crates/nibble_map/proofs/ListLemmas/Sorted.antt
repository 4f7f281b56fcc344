-- A sorted list of entries, and the rising list of its lists.
use Rattle.std.proofs.Common.{◌≡◌, ℕ, ◌<◌, Bool, true, false, T, ◌||◌, ◌⊎◌, inl, inr, List, [], ◌∷◌, map, refl, sym, ap, ◌∙◌, subst, Less, Equal, Greater, nat_cmp, is_lt, is_eq, arith}
use Rattle.std.specs.Ordering.{ordering_then, eq_by_cmp}
use Rattle.std.specs.Cmp.{ranked, tied_itself}
use Rattle.std.specs.Cmp.Lexicographic.{slice_cmp}
use Rattle.std.specs.List.{list_any}
use Rattle.std.proofs.lemmas.Cmp.{nat_list_cmp_total}
use Rattle.std.specs.FinMap.{is_sorted, IsAntisymmetric, slice_cmp-IsAntisymmetric, nat_cmp-IsAntisymmetric}
use Rattle.std.specs.FinMap.Entries.{below_all}
use Rattle.nibble_map.specs.Lists.{IsBefore, Each, IsRising, Has}
use Rattle.nibble_map.proofs.MapLemmas.Bridge.{first_of_both, second_of_both, both_hold, less_by_test, equal_by_test}

-- lists that the map's order finds equal are equal
pub tied_lists_equal : IsAntisymmetric (slice_cmp nat_cmp)
tied_lists_equal = slice_cmp-IsAntisymmetric nat_cmp-IsAntisymmetric

-- a list that the map's order finds equal is equal, and the other way round
pub equal_at : (e x : List ℕ) → eq_by_cmp (slice_cmp nat_cmp) e x ≡ true → e ≡ x
equal_at e x is = tied_lists_equal e x (equal_by_test _ (subst T (sym is) tt))

pub not_equal_at : (e x : List ℕ) → eq_by_cmp (slice_cmp nat_cmp) e x ≡ false → e ≡ x → ⊥
not_equal_at e x is q =
    let same : eq_by_cmp (slice_cmp nat_cmp) e x ≡ true = ap (λ z. eq_by_cmp (slice_cmp nat_cmp) z x) q ∙ ap is_eq (tied_itself nat_list_cmp_total x) in
    let no : false ≡ true = sym is ∙ same in
    cc no

-- `Equal` isn't `Less`
not_less : Equal ≡ Less → ⊥
not_less e = subst (λ r. T (is_eq r)) e tt

-- `Greater` isn't `Less`
more_not_less : Greater ≡ Less → ⊥
more_not_less e = subst T (sym (ap is_lt e)) tt

-- a list that compares as less comes before the other
less_before : (p q : List ℕ) → slice_cmp nat_cmp p q ≡ Less → IsBefore p q
less_before [] [] e = not_less e
less_before [] (b ∷ q) e = tt
less_before (a ∷ p) [] e = more_not_less e
less_before (a ∷ p) (b ∷ q) is =
    elim (nat_cmp a b) as (λ r. nat_cmp a b ≡ r → ordering_then r (slice_cmp nat_cmp p q) ≡ Less → IsBefore (a ∷ p) (b ∷ q)) [
      | Less ↦ λ k e. inl (ranked a b Less (sym k))
      | Equal ↦ λ k e. inr (ranked a b Equal (sym k), less_before p q e)
      | Greater ↦ λ k e. absurd (more_not_less e)
    ] refl is

-- a smaller number compares as less
below_number : (a b : ℕ) → a < b → nat_cmp a b ≡ Less
below_number a b l =
    elim (nat_cmp a b) as (λ r. nat_cmp a b ≡ r → r ≡ Less) [
      | Less ↦ λ k. refl
      | Equal ↦ λ k. absurd (let e : a ≡ b = ranked a b Equal (sym k) in omega arith)
      | Greater ↦ λ k. absurd (let g : b < a = ranked a b Greater (sym k) in omega arith)
    ] refl

-- equal numbers compare as equal
same_number : (a b : ℕ) → a ≡ b → nat_cmp a b ≡ Equal
same_number a b e =
    elim (nat_cmp a b) as (λ r. nat_cmp a b ≡ r → r ≡ Equal) [
      | Less ↦ λ k. absurd (let g : a < b = ranked a b Less (sym k) in omega arith)
      | Equal ↦ λ k. refl
      | Greater ↦ λ k. absurd (let g : b < a = ranked a b Greater (sym k) in omega arith)
    ] refl

-- a list that comes before the other compares as less
before_less : (p q : List ℕ) → IsBefore p q → slice_cmp nat_cmp p q ≡ Less
before_less [] [] h = absurd h
before_less (a ∷ p) [] h = absurd h
before_less [] (b ∷ q) h = refl
before_less (a ∷ p) (b ∷ q) (inl l) = ap (λ r. ordering_then r (slice_cmp nat_cmp p q)) (below_number a b l)
before_less (a ∷ p) (b ∷ q) (inr h) = ap (λ r. ordering_then r (slice_cmp nat_cmp p q)) (same_number a b h.0) ∙ before_less p q h.1

module _ {P : Type 0} where
  -- a list that compares as less than all entries' lists comes before each of them
  each_before : (x : List ℕ) (es : List (List ℕ × P)) → T (below_all (slice_cmp nat_cmp) x es) → Each (IsBefore x) (map (λ e. e.0) es)
  each_before x [] h = tt
  each_before x (e ∷ es) h = (less_before x e.0 (less_by_test _ (first_of_both _ _ h)), each_before x es (second_of_both _ _ h))

  -- the lists of sorted entries rise
  pub rising_of_sorted : (es : List (List ℕ × P)) → T (is_sorted (slice_cmp nat_cmp) es) → IsRising (map (λ e. e.0) es)
  rising_of_sorted [] h = tt
  rising_of_sorted (e ∷ es) h = (each_before e.0 es (first_of_both _ _ h), rising_of_sorted es (second_of_both _ _ h))

  -- a list that comes before each entry's list compares as less than all of them
  all_below : (x : List ℕ) (es : List (List ℕ × P)) → Each (IsBefore x) (map (λ e. e.0) es) → T (below_all (slice_cmp nat_cmp) x es)
  all_below x [] h = tt
  all_below x (e ∷ es) h = both_hold _ _ (subst (λ r. T (is_lt r)) (sym (before_less x e.0 h.0)) tt) (all_below x es h.1)

  -- entries whose lists rise are sorted
  pub sorted_of_rising : (es : List (List ℕ × P)) → IsRising (map (λ e. e.0) es) → T (is_sorted (slice_cmp nat_cmp) es)
  sorted_of_rising [] h = tt
  sorted_of_rising (e ∷ es) h = both_hold _ _ (all_below e.0 es h.0) (sorted_of_rising es h.1)

-- what a list of lists holds
-- where `a || b` holds, one of the two holds
or_one : (a b : Bool) → T (a || b) → T a ⊎ T b
or_one true b h = inl tt
or_one false b h = inr h

-- where a list of ks compares as equal to q, q is an element of ks
pub has_any : (q : List ℕ) (ks : List (List ℕ)) → T (list_any (eq_by_cmp (slice_cmp nat_cmp) q) ks) → Has ks q
has_any q [] h = absurd h
has_any q (k ∷ ks) h = elim (or_one _ _ h) [ inl t ↦ inl (tied_lists_equal q k (equal_by_test _ t)) | inr r ↦ inr (has_any q ks r) ]

-- `a || b` holds where a does
or_first : (a b : Bool) → T a → T (a || b)
or_first true b h = tt
or_first false b h = absurd h

-- `a || b` holds where b does
or_second : (a b : Bool) → T b → T (a || b)
or_second true b h = tt
or_second false b h = h

-- where q is an element of ks, a list of ks compares as equal to q
pub any_has : (q : List ℕ) (ks : List (List ℕ)) → Has ks q → T (list_any (eq_by_cmp (slice_cmp nat_cmp) q) ks)
any_has q [] h = absurd h
any_has q (k ∷ ks) (inl e) = or_first _ _ (subst (λ l. T (is_eq (slice_cmp nat_cmp q l))) e (subst (λ r. T (is_eq r)) (sym (tied_itself nat_list_cmp_total q)) tt))
any_has q (k ∷ ks) (inr h) = or_second _ _ (any_has q ks h)
