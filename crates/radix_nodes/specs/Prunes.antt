-- What a cut of all that is at and below a path returns, and does to a tree.
use Rattle.std.specs.Prelude.{◌≡◌, ℕ, ◌+◌, ◌<◌, ◌≤◌, ◌^◌, List, [], ◌++◌, length, drop, Option, Some, None, Result, Ok, Err}
use Rattle.masked_tree.specs.Alters.{Prunes, PrunesRoot}
use Rattle.masked_tree.specs.Tree.{Tree, entries_at, nodes_in, nibbles_in}
use Rattle.masked_tree.specs.Paths.{IsPath}
use Rattle.nibble_map.specs.Lists.{IsPrefix}
use Rattle.radix_keys.specs.declared.nibbles.Memory.{Memory}
use Rattle.radix_nodes.specs.Nodes.{tree_of, IsNearest}
use Rattle.radix_nodes.specs.Pairs.{pairs_in}
use Rattle.radix_nodes.specs.declared.removal.cut_child.Branch.{Branch}
use Rattle.radix_nodes.specs.declared.whole.size.Measured.{Measured}
use Rattle.radix_nodes.specs.declared.removal.prune.Pruned.{Pruned}
use Rattle.radix_nodes.specs.declared.trie_node.KeyValue.{KeyValue}

-- what a tree holds can be counted
pub record IsSmall {P : Type 0} (t : Tree P) : Type 0 where
  pub pairs : length (entries_at [] t) < 2 ^ 64
  pub nodes : nodes_in t.children + 2 < 2 ^ 128
  pub nibbles : length t.fragment + nibbles_in t.children < 2 ^ 128

-- what a tree holds can be counted on from so much
pub record CanCount {P : Type 0} (gone : Measured) (t : Tree P) : Type 0 where
  pub nodes : gone.nodes + nodes_in t.children < 2 ^ 128
  pub nibbles : gone.nibbles + (length t.fragment + nibbles_in t.children) < 2 ^ 128

-- u, the node of t whose path is the shortest that p begins, hangs below path s
pub record IsBranch {P : Type 0} (t u : Tree P) (p s : List ℕ) : Type 0 where
  pub covered : ℕ
  pub nearest : IsNearest t u p covered
  pub path : s ++ u.fragment ≡ p ++ drop covered u.fragment

-- the branch at and below p, if there is one, has at most n pairs
abbrev pub HasBranchWithin : {P : Type 0} → ℕ → Tree P → List ℕ → Type 0
HasBranchWithin {P} n t p =
    (u : Tree P) (s : List ℕ) → IsBranch t u p s → length (entries_at [] u) ≤ n

module _ {K V : Type 0} where
  abbrev pub branch_of : Branch K V → Tree (KeyValue K V)
  branch_of b = tree_of b.top.value

  -- how many nodes went with a branch, and how many nibbles of fragments
  abbrev pub nodes_gone : Branch K V → ℕ
  nodes_gone b = b.nodes + nodes_in (branch_of b).children

  abbrev pub nibbles_gone : Branch K V → ℕ
  nibbles_gone b = length (branch_of b).fragment + nibbles_in (branch_of b).children

  -- the branch was cut off a node, or off the root
  abbrev pub CutsBranch : Branch K V → Tree (KeyValue K V) → Tree (KeyValue K V) → Type 0
  CutsBranch b old new = Prunes old.fragment (branch_of b) (nodes_gone b) (nibbles_gone b) old new

  abbrev pub CutsRootBranch : Branch K V → Tree (KeyValue K V) → Tree (KeyValue K V) → Type 0
  CutsRootBranch b old new =
      PrunesRoot old.fragment (branch_of b) (nodes_gone b) (nibbles_gone b) old new

  -- what stands at and below p is cut off as a branch; or nothing stands there; it is refused only
  -- where a path stands there
  abbrev pub BranchOutcome : Result (Option (Branch K V)) Memory → List ℕ → Tree (KeyValue K V)
      → Tree (KeyValue K V) → Type 0
  BranchOutcome (Ok (Some b)) p old new = (s : List ℕ) × IsBranch old (branch_of b) p s
      × Prunes s (branch_of b) (nodes_gone b) (nibbles_gone b) old new × (b.nodes ≤ 2)
  BranchOutcome (Ok None) p old new = (new ≡ old) × ((q : List ℕ) → IsPath old q → IsPrefix p q → ⊥)
  BranchOutcome (Err e) p old new = (new ≡ old) × (q : List ℕ) × IsPath old q × IsPrefix p q

  -- the same from the root
  abbrev pub BranchRootOutcome : Result (Option (Branch K V)) Memory → List ℕ
      → Tree (KeyValue K V) → Tree (KeyValue K V) → Type 0
  BranchRootOutcome (Ok (Some b)) p old new = (s : List ℕ) × IsBranch old (branch_of b) p s
      × PrunesRoot s (branch_of b) (nodes_gone b) (nibbles_gone b) old new × (b.nodes ≤ 2)
  BranchRootOutcome (Ok None) p old new =
      (new ≡ old) × ((q : List ℕ) → IsPath old q → IsPrefix p q → ⊥)
  BranchRootOutcome (Err e) p old new = (new ≡ old) × (q : List ℕ) × IsPath old q × IsPrefix p q

  -- the pairs that stand at and below p are taken from the root; or nothing stands there; it is
  -- refused only where a path stands there
  abbrev pub PruneRootOutcome : Result (Option (Pruned K V)) Memory → List ℕ → Tree (KeyValue K V)
      → Tree (KeyValue K V) → Type 0
  PruneRootOutcome (Ok (Some c)) p old new =
      (u : Tree (KeyValue K V)) × (s : List ℕ) × IsBranch old u p s
      × PrunesRoot s u c.nodes c.nibbles old new × (c.pairs.items ≡ pairs_in u)
  PruneRootOutcome (Ok None) p old new =
      (new ≡ old) × ((q : List ℕ) → IsPath old q → IsPrefix p q → ⊥)
  PruneRootOutcome (Err e) p old new = (new ≡ old) × (q : List ℕ) × IsPath old q × IsPrefix p q
