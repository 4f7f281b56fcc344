-- The ends of the order of walks, and what the removal of the pair there returns and does.
use Rattle.std.specs.Prelude.{◌≡◌, ◌⊎◌, ℕ, ◌-◌, List, [], ◌++◌, length, slice_get, Option, Some, None, MatchOption, Result, Ok}
use Rattle.masked_tree.specs.Tree.{Tree, none, IsAt, entries_at}
use Rattle.radix_keys.specs.declared.nibbles.Memory.{Memory}
use Rattle.radix_nodes.specs.Nodes.{CutOutcome, RootOutcome}
use Rattle.radix_nodes.specs.declared.removal.pop.End.{End}
use Rattle.radix_nodes.specs.declared.removal.pop.End.TheVariants.{First, Last}
use Rattle.radix_nodes.specs.declared.removal.remove.Removed.{Removed}
use Rattle.radix_nodes.specs.declared.trie_node.KeyValue.{KeyValue}

-- the item at this end of a list, if there is one
abbrev pub at_end : {A : Type 0} → End → List A → Option A
at_end First xs = slice_get xs 0
at_end Last xs = slice_get xs (length xs - 1)

module _ {P : Type 0} where
  -- the tree's entry at this end is x at p, whatever path leads to the tree
  abbrev pub IsEndEntry : End → Tree P → List ℕ → P → Type 0
  IsEndEntry end t p x = (q : List ℕ) → at_end end (entries_at q t) ≡ Some (q ++ p, x)

  -- the tree has an entry at this end, and O holds of its path
  abbrev pub HasEndEntry : End → Tree P → (List ℕ → Type 0) → Type 0
  HasEndEntry end t O = (p : List ℕ) × (x : P) × IsEndEntry end t p x × O p

  -- the entry at this end is that of the tree's own pair, or there is no entry
  abbrev pub EndsHere : End → Tree P → Type 0
  EndsHere end t = MatchOption t.pair (t.children ≡ none) (λ x. IsEndEntry end t t.fragment x)

  -- the entry at this end is that of the child at i
  abbrev pub EndsInChild : End → Tree P → ℕ → Type 0
  EndsInChild end t i = (u : Tree P) (p : List ℕ) (x : P) → IsAt i t.children u
      → IsEndEntry end u p x → IsEndEntry end t (t.fragment ++ p) x

module _ {K V : Type 0} where
  -- what the removal of the pair at this end returns, and does to a tree that has one
  abbrev pub PopOutcome : End → Result (Option (Removed K V)) Memory → Tree (KeyValue K V)
      → Tree (KeyValue K V) → Type 0
  PopOutcome end r old new = HasEndEntry end old (λ p. CutOutcome r p old new)

  -- the same at the root, which may have none
  abbrev pub RootPopOutcome : End → Result (Option (Removed K V)) Memory → Tree (KeyValue K V)
      → Tree (KeyValue K V) → Type 0
  RootPopOutcome end r old new = ((entries_at [] old ≡ []) × (r ≡ Ok None) × (new ≡ old))
      ⊎ HasEndEntry end old (λ p. RootOutcome r p old new)
