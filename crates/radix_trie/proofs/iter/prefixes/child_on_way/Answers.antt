use Rattle.std.proofs.Common.{sym}
use Rattle.radix_nodes.specs.Nodes.{tree_of}
use Rattle.radix_nodes.proofs.SearchLemmas.Deepest.{down_placed}
use Rattle.radix_trie.proofs.WalkLemmas.Prefixes.{after_step, none_on_way}
use Rattle.radix_trie.proofs.iter.prefixes.child_on_way.Goals as goal

pub returns-in-Some-clause-pairs : goal.returns-in-Some-clause-pairs
returns-in-Some-clause-pairs g c =
    sym (after_step c.args.node.now c.deref.result.now c.args.list.now c.args.depth c.in-Some.i c.in-Some.next c.requires.placed c.in-Some.ensures c.index.result.now (sym c.index.ensures) c.deref.ensures)

pub returns-in-Some-clause-on_way : goal.returns-in-Some-clause-on_way
returns-in-Some-clause-on_way g c = (
  c.in-Some.ensures.inside,
  down_placed c.args.node.now c.deref.result.now c.args.list.now c.args.depth c.in-Some.i c.in-Some.next c.requires.placed c.in-Some.ensures c.index.result.now (sym c.index.ensures) c.deref.ensures,
)

pub returns-in-None-clause-pairs : goal.returns-in-None-clause-pairs
returns-in-None-clause-pairs g c = sym (none_on_way (tree_of c.args.node.now) _ c.in-None.ensures)
