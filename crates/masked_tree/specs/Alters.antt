-- What a change does to a tree: a run of entries goes, and another comes in its place.
use Rattle.std.specs.Prelude.{◌≡◌, ℕ, ◌+◌, ◌≢◌, List, [], ◌++◌, length, Option, Some}
use Rattle.nibble_map.specs.Trees.{first}
use Rattle.nibble_map.specs.Swaps.{Swaps, entry}
use Rattle.masked_tree.specs.Tree.{Tree, IsTreePlaced, IsTreeFull, IsFullBelow, entries_at, nodes_in, nibbles_in}

-- entries that follow one another, by the path that leads to the tree which holds them
abbrev pub Run : Type 0 → Type 0
Run P = List ℕ → List (List ℕ × P)

module _ {P : Type 0} where
  -- the entry at p, or none
  abbrev pub entry_at : List ℕ → Option P → Run P
  entry_at p o q = entry (q ++ p) o

  -- all entries of a tree that hangs below path s
  abbrev pub all_of : List ℕ → Tree P → Run P
  all_of s u q = entries_at (q ++ s) u

  abbrev pub none_of : Run P
  none_of q = []

-- `gone` goes and `come` comes in its place; n nodes and k nibbles of fragments come, m nodes and l
-- nibbles go
pub record Alters {P : Type 0} (gone come : Run P) (n m k l : ℕ) (old new : Tree P) : Type 0 where
  -- the parent's mask stays
  pub start : first new.fragment ≡ first old.fragment
  pub some : old.fragment ≢ [] → new.fragment ≢ []
  pub placed : IsTreePlaced new
  -- whatever path q leads to the tree
  pub swaps : (q : List ℕ) → Swaps (gone q) (come q) (entries_at q old) (entries_at q new)
  pub nodes : nodes_in new.children + m ≡ nodes_in old.children + n
  pub nibbles : length new.fragment + nibbles_in new.children + l
      ≡ length old.fragment + nibbles_in old.children + k

-- the same of a child, which keeps a pair or two children
pub record AltersChild {P : Type 0} (gone come : Run P) (n m k l : ℕ) (old new : Tree P) :
    Type 0 where
  pub full : IsTreeFull old → IsTreeFull new
  pub alters : Alters gone come n m k l old new

-- the same of a root, which keeps its fragment and may be left with neither a pair nor two children
pub record AltersRoot {P : Type 0} (gone come : Run P) (n m k l : ℕ) (old new : Tree P) :
    Type 0 where
  pub fragment : new.fragment ≡ old.fragment
  pub below : IsFullBelow old → IsFullBelow new
  pub alters : Alters gone come n m k l old new

-- the same of a node that may be the one or the other
pub record AltersNode {P : Type 0} (gone come : Run P) (n m k l : ℕ) (old new : Tree P) :
    Type 0 where
  pub full : IsTreeFull old → IsTreeFull new
  pub root : AltersRoot gone come n m k l old new

-- x is written at p, where `was` stood: n nodes and k nibbles come
abbrev pub Replaces : {P : Type 0} → List ℕ → P → Option P → ℕ → ℕ → Tree P → Tree P → Type 0
Replaces p x was n k old new = AltersChild (entry_at p was) (entry_at p (Some x)) n 0 k 0 old new

abbrev pub Edits : {P : Type 0} → List ℕ → P → Option P → ℕ → ℕ → Tree P → Tree P → Type 0
Edits p x was n k old new = AltersNode (entry_at p was) (entry_at p (Some x)) n 0 k 0 old new

-- at p stood `was`, and stands `now`, in the same nodes
abbrev pub Rewrites : {P : Type 0} → List ℕ → Option P → Option P → Tree P → Tree P → Type 0
Rewrites p was now old new = AltersNode (entry_at p was) (entry_at p now) 0 0 0 0 old new

-- x is taken from p: n nodes and k nibbles go
abbrev pub Cuts : {P : Type 0} → List ℕ → P → ℕ → ℕ → Tree P → Tree P → Type 0
Cuts p x n k old new = AltersChild (entry_at p (Some x)) none_of 0 n 0 k old new

abbrev pub CutsRoot : {P : Type 0} → List ℕ → P → ℕ → ℕ → Tree P → Tree P → Type 0
CutsRoot p x n k old new = AltersRoot (entry_at p (Some x)) none_of 0 n 0 k old new

-- u is taken with all below it from where it hangs below path s: n nodes and k nibbles go
abbrev pub Prunes : {P : Type 0} → List ℕ → Tree P → ℕ → ℕ → Tree P → Tree P → Type 0
Prunes s u n k old new = AltersChild (all_of s u) none_of 0 n 0 k old new

abbrev pub PrunesRoot : {P : Type 0} → List ℕ → Tree P → ℕ → ℕ → Tree P → Tree P → Type 0
PrunesRoot s u n k old new = AltersRoot (all_of s u) none_of 0 n 0 k old new

-- u comes with all below it, and hangs below path s then: n nodes and k nibbles come
abbrev pub Grafts : {P : Type 0} → List ℕ → Tree P → ℕ → ℕ → Tree P → Tree P → Type 0
Grafts s u n k old new = AltersNode none_of (all_of s u) n 0 k 0 old new

abbrev pub GraftsChild : {P : Type 0} → List ℕ → Tree P → ℕ → ℕ → Tree P → Tree P → Type 0
GraftsChild s u n k old new = AltersChild none_of (all_of s u) n 0 k 0 old new
