use Rattle.std.proofs.Common.{arith}
use Rattle.radix_nodes.specs.Prunes.{branch_of, nodes_gone, nibbles_gone}
use Rattle.radix_nodes.specs.Nodes.{tree_of}
use Rattle.radix_nodes.proofs.EditLemmas.Branches.{branch_is_small}
use Rattle.radix_nodes.proofs.removal.prune.prune_root.Goals as goal

pub emptied-requires : goal.emptied-requires
emptied-requires g c =
    let b = c.in-Ok-Some.branch in
    let o = rw c.in-Ok-Some.field-0-is at c.in-Ok-Some.ensures in
    record {
      empty = c.requires.empty;
      room = c.requires.room (branch_of b) o.0 o.1;
      small = branch_is_small (tree_of c.args.root.now) (tree_of c.cut_branch.new.root) (branch_of b) o.0 (nodes_gone b) (nibbles_gone b) c.requires.small o.2 (omega arith) (omega arith);
      few = o.3;
    }

pub returns-in-Ok-Some : goal.returns-in-Ok-Some
returns-in-Ok-Some g c =
    let b = c.in-Ok-Some.branch in
    let o = rw c.in-Ok-Some.field-0-is at c.in-Ok-Some.ensures in
    (branch_of b, o.0, o.1, rw (c.emptied.ensures.nodes, c.emptied.ensures.nibbles) o.2, c.emptied.ensures.pairs)
