-- The tree that the kept fields stand for, with its masks, as plain data.
use Rattle.std.specs.Prelude.{◌≡◌, ℕ, zero, suc, ◌+◌, ◌≤◌, ◌≢◌, ◌⊎◌, List, [], ◌∷◌, ◌++◌, length, Option, IsSome, ⊤}
use Rattle.nibble_map.specs.Trees.{Forest, bare, grow, AreMany, IsFull, first}
use Rattle.masked_tree.specs.Mask.{IsMask}
use Rattle.nibble_map.specs.Swaps.{entry}

-- children in order: none, or a first one, with its fragment, pair, mask and own children, and the
-- others
pub data Children (P : Type 0) : Type 0 where
  none : Children P
  more : List ℕ → Option P → ℕ → Children P → Children P → Children P

pub record Tree (P : Type 0) : Type 0 where
  pub fragment : List ℕ
  pub pair : Option P
  pub mask : ℕ
  pub children : Children P

module _ {P : Type 0} where
  -- the same without masks
  abbrev pub plain : Children P → Forest P
  plain none = bare
  plain (more f o m children others) = grow f o (plain children) (plain others)

  -- the nibbles that the children begin with
  abbrev pub firsts : Children P → List ℕ
  firsts none = []
  firsts (more f o m children others) = first f ∷ firsts others

  -- fragments aren't empty, first nibbles rise from `low` on, and each mask names them
  abbrev pub IsPlaced : ℕ → Children P → Type 0
  IsPlaced low none = ⊤
  IsPlaced low (more f o m children others) =
      (f ≢ []) × (low ≤ first f) × IsMask m (firsts children) × IsPlaced 0 children
      × IsPlaced (suc (first f)) others

  abbrev pub IsTreePlaced : Tree P → Type 0
  IsTreePlaced t = IsMask t.mask (firsts t.children) × IsPlaced 0 t.children

  -- each node below the root has a pair or two children
  abbrev pub IsFullBelow : Tree P → Type 0
  IsFullBelow t = IsFull (plain t.children)

  -- and so has the root
  abbrev pub IsTreeFull : Tree P → Type 0
  IsTreeFull t = (IsSome t.pair ⊎ AreMany (plain t.children)) × IsFull (plain t.children)

  abbrev pub entries_in : List ℕ → Children P → List (List ℕ × P)
  entries_in q none = []
  entries_in q (more f o m children others) = entry (q ++ f) o ++ entries_in (q ++ f) children
      ++ entries_in q others

  -- the pairs of a tree that hangs below path q
  abbrev pub entries_at : List ℕ → Tree P → List (List ℕ × P)
  entries_at q t = entry (q ++ t.fragment) t.pair ++ entries_in (q ++ t.fragment) t.children

  abbrev pub nodes_in : Children P → ℕ
  nodes_in none = 0
  nodes_in (more f o m children others) = suc (nodes_in children + nodes_in others)

  abbrev pub nibbles_in : Children P → ℕ
  nibbles_in none = 0
  nibbles_in (more f o m children others) = length f + nibbles_in children + nibbles_in others

  abbrev pub front : Tree P → Children P → Children P
  front t others = more t.fragment t.pair t.mask t.children others

  abbrev pub join : List (Tree P) → Children P
  join [] = none
  join (t ∷ ts) = front t (join ts)

  -- the child at i is t
  abbrev pub IsAt : ℕ → Children P → Tree P → Type 0
  IsAt i none t = ⊥
  IsAt zero (more f o m children others) t =
      t ≡ record { fragment = f; pair = o; mask = m; children = children }
  IsAt (suc i) (more f o m children others) t = IsAt i others t
