-- After an insertion the children stand at their places, whether it was refused or not.
use Rattle.std.proofs.Common.{List, ℕ, Result, Ok, Err, sym, subst}
use Rattle.masked_tree.specs.Tree.{Tree, IsTreePlaced}
use Rattle.radix_nodes.specs.declared.trie_node.KeyValue.{KeyValue}
use Rattle.radix_nodes.specs.declared.insertion.change.Change.{Change}
use Rattle.radix_nodes.specs.Nodes.{EditOutcome}

module _ {K V : Type 0} where
  -- after an insertion, done or refused, the children stand at their places if they did before
  pub edit_placed : (r : Result (Change K V) (KeyValue K V)) (x : KeyValue K V) (p : List ℕ) (old new : Tree (KeyValue K V)) → EditOutcome r x p old new → IsTreePlaced old → IsTreePlaced new
  edit_placed (Ok made) x p old new h s = h.root.alters.placed
  edit_placed (Err y) x p old new h s = subst IsTreePlaced (sym h.1) s
