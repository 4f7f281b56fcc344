-- What the grafting of a branch into a tree returns, and does to the tree.
use Rattle.std.specs.Prelude.{◌≡◌, ℕ, ◌+◌, List, [], ◌++◌, length, Result, Ok, Err}
use Rattle.std.specs.declared.boxed.Box.{Box}
use Rattle.std.specs.declared.alloc.Global.{Global}
use Rattle.masked_tree.specs.Alters.{Grafts, GraftsChild}
use Rattle.masked_tree.specs.Edits.{merged, with_fragment}
use Rattle.masked_tree.specs.Tree.{Tree, nodes_in, nibbles_in}
use Rattle.masked_tree.specs.Paths.{IsOccupied, IsVacant}
use Rattle.radix_nodes.specs.Nodes.{tree_of}
use Rattle.radix_nodes.specs.declared.insertion.graft_root.Ungraftable.{Ungraftable}
use Rattle.radix_nodes.specs.declared.insertion.graft_root.Ungraftable.TheVariants as stays
use Rattle.radix_nodes.specs.declared.insertion.graft.Grafted.{Grafted}
use Rattle.radix_nodes.specs.declared.insertion.graft.Ungrafted.{Ungrafted}
use Rattle.radix_nodes.specs.declared.insertion.graft.Ungrafted.TheVariants as why
use Rattle.radix_nodes.specs.declared.trie_node.KeyValue.{KeyValue}
use Rattle.radix_nodes.specs.declared.trie_node.TrieNode.{TrieNode}

module _ {K V : Type 0} where
  -- how many nodes come with a branch, and how many nibbles of fragments
  abbrev pub nodes_come : Grafted → Tree (KeyValue K V) → ℕ
  nodes_come grafted u = grafted.nodes + nodes_in u.children

  abbrev pub nibbles_come : Grafted → Tree (KeyValue K V) → ℕ
  nibbles_come grafted u = grafted.nibbles + (length u.fragment + nibbles_in u.children)

  -- the branch comes below p, or comes back and nothing has changed: to a node, and to a child
  abbrev pub GraftNodeOutcome : Result Grafted (Box (TrieNode K V) Global) → Box (TrieNode K V) Global
      → List ℕ → Tree (KeyValue K V) → Tree (KeyValue K V) → Type 0
  GraftNodeOutcome (Ok grafted) branch p old new = let u = tree_of branch.value in
      Grafts p u (nodes_come grafted u) (nibbles_come grafted u) old new
  GraftNodeOutcome (Err back) branch p old new = (back ≡ branch) × (new ≡ old)

  abbrev pub GraftChildOutcome : Result Grafted (Box (TrieNode K V) Global) → Box (TrieNode K V) Global
      → List ℕ → Tree (KeyValue K V) → Tree (KeyValue K V) → Type 0
  GraftChildOutcome (Ok grafted) branch p old new = let u = tree_of branch.value in
      GraftsChild p u (nodes_come grafted u) (nibbles_come grafted u) old new
  GraftChildOutcome (Err back) branch p old new = (back ≡ branch) × (new ≡ old)

  -- a refusal with the branch alone is one for memory
  abbrev pub told : Result Grafted (Box (TrieNode K V) Global) → Result Grafted (Ungrafted K V)
  told (Ok grafted) = Ok grafted
  told (Err back) = Err (why.Memory back)

  -- the branch comes below p, where no node stood at or below p; or it comes back and nothing has
  -- changed: as occupied exactly where a node stands at or below p
  abbrev pub GraftOutcome : Result Grafted (Ungrafted K V) → Box (TrieNode K V) Global → List ℕ
      → Tree (KeyValue K V) → Tree (KeyValue K V) → Type 0
  GraftOutcome (Ok grafted) branch p old new = let u = tree_of branch.value in
      IsVacant old p × Grafts p u (nodes_come grafted u) (nibbles_come grafted u) old new
  GraftOutcome (Err (why.Occupied back)) branch p old new =
      (back ≡ branch) × (new ≡ old) × IsOccupied old p
  GraftOutcome (Err (why.Memory back)) branch p old new =
      (back ≡ branch) × (new ≡ old) × IsVacant old p

  -- the one child u of the part, whose root has an empty fragment and no pair, comes behind p, where
  -- no node stood at or below u's path; or nothing has changed: as occupied exactly where a node
  -- stands there
  abbrev pub GraftRootOutcome : Result Grafted Ungraftable → List ℕ → (part part' : Tree (KeyValue K V))
      → (old new : Tree (KeyValue K V)) → Type 0
  GraftRootOutcome (Ok grafted) p part part' old new =
      let u = merged part in let branch = with_fragment [] u in
      IsVacant old (p ++ u.fragment) × Grafts (p ++ u.fragment) branch
      (nodes_come grafted branch) (nibbles_come grafted branch) old new
  GraftRootOutcome (Err stays.Occupied) p part part' old new =
      (part' ≡ part) × (new ≡ old) × IsOccupied old (p ++ (merged part).fragment)
  GraftRootOutcome (Err stays.Memory) p part part' old new =
      (part' ≡ part) × (new ≡ old) × IsVacant old (p ++ (merged part).fragment)
