-- The answers of queries over the finite map, and when two maps are the same.
use Rattle.std.specs.Prelude.{◌≡◌, ℕ, ◌↔◌, List, [], ◌∷◌, Option, Some, Bool, IsTrue, ⊤}
use Rattle.nibble_map.specs.Lists.{IsStrictPrefix}
use Rattle.nibble_map.specs.Answers as answers
use Rattle.nibble_map.specs.Maps.{NibbleMap, PairMap, IsStored, value_at}

-- the words of `Answers`, of the lists that the map holds
module _ {P : Type 0} where
  abbrev pub IsAncestor : NibbleMap P → List ℕ → Option (List ℕ) → Type 0
  IsAncestor m e a = answers.IsAncestor (IsStored m) e a

  abbrev pub IsRawAncestor : NibbleMap P → List ℕ → List ℕ → Type 0
  IsRawAncestor m e p = answers.IsRawAncestor (IsStored m) e p

  abbrev pub IsRawDescendant : NibbleMap P → List ℕ → Option (List ℕ) → Type 0
  IsRawDescendant m e a = answers.IsRawDescendant (IsStored m) e a

  abbrev pub IsFragment : NibbleMap P → List ℕ → List ℕ → Type 0
  IsFragment m p f = answers.IsFragment (IsStored m) p f

  abbrev pub IsChild : NibbleMap P → List ℕ → List ℕ → Type 0
  IsChild m p q = answers.IsChild (IsStored m) p q

  abbrev pub AreChildren : NibbleMap P → List ℕ → List (List ℕ) → Type 0
  AreChildren m p qs = answers.AreChildren (IsStored m) p qs

  abbrev pub IsCompared : NibbleMap P → List ℕ → ℕ → Type 0
  IsCompared m e n = answers.IsCompared (IsStored m) e n

  abbrev pub IsVisited : NibbleMap P → List ℕ → ℕ → Type 0
  IsVisited m e n = answers.IsVisited (IsStored m) e n

-- no stored list is strictly below p
abbrev pub IsLeaf : {P : Type 0} → NibbleMap P → List ℕ → Type 0
IsLeaf m p = (e : List ℕ) → IsStored m e → IsStrictPrefix p e → ⊥

-- the same stored lists, and at each the values equal by `eq`, the value type's own `==`
pub record IsSame {K V : Type 0} (eq : V → V → Bool) (m n : PairMap K V) : Type 0 where
  pub same_lists : (e : List ℕ) → IsStored m e ↔ IsStored n e
  pub same_values : (e : List ℕ) (v w : V) → value_at m e ≡ Some v → value_at n e ≡ Some w
      → IsTrue (eq v w)

-- the same of two lists of entries, entry by entry
abbrev pub AreSame : {K V : Type 0} → (V → V → Bool) → List (List ℕ × (K × V))
    → List (List ℕ × (K × V)) → Type 0
AreSame eq [] [] = ⊤
AreSame eq [] (d ∷ ds) = ⊥
AreSame eq (e ∷ es) [] = ⊥
AreSame eq (e ∷ es) (d ∷ ds) = (e.0 ≡ d.0) × IsTrue (eq e.1.1 d.1.1) × AreSame eq es ds
