-- After a removal from a root the children stand at their places, whether it was refused or not.
use Rattle.std.proofs.Common.{List, ℕ, Option, Some, None, Result, Ok, Err, sym, subst}
use Rattle.masked_tree.specs.Tree.{Tree, IsTreePlaced}
use Rattle.radix_keys.specs.declared.nibbles.Memory.{Memory}
use Rattle.radix_nodes.specs.declared.trie_node.KeyValue.{KeyValue}
use Rattle.radix_nodes.specs.declared.removal.remove.Removed.{Removed}
use Rattle.radix_nodes.specs.Nodes.{RootOutcome}

module _ {K V : Type 0} where
  -- after a removal from a root, done or not, the children stand at their places as before
  pub root_placed : (r : Result (Option (Removed K V)) Memory) (p : List ℕ) (old new : Tree (KeyValue K V)) → RootOutcome r p old new → IsTreePlaced old → IsTreePlaced new
  root_placed (Ok (Some t)) p old new h s = h.alters.placed
  root_placed (Ok None) p old new h s = subst IsTreePlaced (sym h.0) s
  root_placed (Err e) p old new h s = subst IsTreePlaced (sym h.0) s
