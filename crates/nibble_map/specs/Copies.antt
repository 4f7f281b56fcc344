-- When two maps are the same, as a test, and when one is a copy of another.
use Rattle.std.specs.Prelude.{◌≡◌, ◌↔◌, ℕ, Bool, List, nat_eq, Some}
use Rattle.std.specs.Cmp.Lexicographic.{pointwise}
use Rattle.std.specs.Ordering.{on, eq_of_both}
use Rattle.std.specs.FinMap as fin
use Rattle.nibble_map.specs.Maps.{NibbleMap, PairMap, IsStored}

-- whether two lists of rows hold the same lists in the same order, and equal values at each
abbrev pub same_rows : {K V : Type 0} → (V → V → Bool) → List (List ℕ × (K × V))
    → List (List ℕ × (K × V)) → Bool
same_rows eq = pointwise (eq_of_both (on (λ e. e.0) (pointwise nat_eq)) (on (λ e. e.1.1) eq))

-- whether two maps are the same, as a test
abbrev pub same_maps : {K V : Type 0} → (V → V → Bool) → PairMap K V → PairMap K V → Bool
same_maps eq m n = same_rows eq (fin.entries m) (fin.entries n)

-- y's key and value are clones of x's, as their types' own `clone` gives them
abbrev pub IsPairClone : {K V : Type 0} → (K → K → Type 0) → (V → V → Type 0) → K × V
    → K × V → Type 0
IsPairClone is_key_clone is_value_clone x y = is_key_clone x.0 y.0 × is_value_clone x.1 y.1

-- the same stored lists, and R holds of the pairs at each
pub record IsMapCopy {P Q : Type 0} (R : P → Q → Type 0) (m : NibbleMap P) (n : NibbleMap Q) :
    Type 0 where
  pub same_lists : (e : List ℕ) → IsStored m e ↔ IsStored n e
  pub copied_pairs : (e : List ℕ) (x : P) (y : Q) → fin.get m e ≡ Some x
      → fin.get n e ≡ Some y → R x y
