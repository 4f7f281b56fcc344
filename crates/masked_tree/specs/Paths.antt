-- The nodes of a kept tree by their paths.
use Rattle.std.specs.Prelude.{◌≡◌, ℕ, ◌+◌, ◌⊎◌, max, List, [], ◌++◌, length}
use Rattle.nibble_map.specs.Lists.{IsPrefix}
use Rattle.nibble_map.specs.Stored.{IsStored}
use Rattle.masked_tree.specs.Tree.{Tree, Children, none, more, entries_at}

module _ {P : Type 0} where
  -- u is the node at path x below these children's parent
  abbrev pub IsChildAt : Children P → List ℕ → Tree P → Type 0
  IsChildAt none x u = ⊥
  IsChildAt (more f o m children others) x u =
      ((x ≡ f) × (u ≡ record { fragment = f; pair = o; mask = m; children = children }))
      ⊎ (((y : List ℕ) × (x ≡ f ++ y) × IsChildAt children y u) ⊎ IsChildAt others x u)

  -- u is the node at path x
  abbrev pub IsNodeAt : Tree P → List ℕ → Tree P → Type 0
  IsNodeAt t x u = ((x ≡ t.fragment) × (u ≡ t))
      ⊎ ((y : List ℕ) × (x ≡ t.fragment ++ y) × IsChildAt t.children y u)

  -- a node stands at path x
  abbrev pub IsPath : Tree P → List ℕ → Type 0
  IsPath t x = (u : Tree P) × IsNodeAt t x u

  -- a node stands at or below path p
  abbrev pub IsOccupied : Tree P → List ℕ → Type 0
  IsOccupied t p = (q : List ℕ) × IsPath t q × IsPrefix p q

  -- none does
  abbrev pub IsVacant : Tree P → List ℕ → Type 0
  IsVacant t p = (q : List ℕ) → IsPath t q → IsPrefix p q → ⊥

  -- a node stands at path x, which begins the list
  abbrev pub IsOnWay : Tree P → List ℕ → List ℕ → Type 0
  IsOnWay t rest x = IsPath t x × IsPrefix x rest

  -- no node below the tree's own has a path that begins the list
  abbrev pub IsStuck : Tree P → List ℕ → Type 0
  IsStuck t rest = (x : List ℕ) (u : Tree P) → IsChildAt t.children x u → IsPrefix x rest → ⊥

  -- a pair stands at path x
  abbrev pub IsHeld : Tree P → List ℕ → Type 0
  IsHeld t x = IsStored (entries_at [] t) x

  -- how many nibbles the longest path below has
  abbrev pub reach : Children P → ℕ
  reach none = 0
  reach (more f o m children others) = max (length f + reach children) (reach others)
