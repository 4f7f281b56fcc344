use Rattle.std.proofs.Common.{eq-eqb}
use Rattle.trie_examples.proofs.one_tree.have_one_footprint.Goals as goal

pub returns-then-nodes-others : goal.returns-then-nodes-others
returns-then-nodes-others g c = eq-eqb _ _ (c.equal_lists_have_one_tree.ensures.nibbles c.args.a.now c.args.b.now c.requires _ _ c.footprint-nodes.ensures.nibbles c.footprint-others.ensures.nibbles)

pub returns-else-nodes-others : goal.returns-else-nodes-others
returns-else-nodes-others g c = eq-eqb _ _ (c.equal_lists_have_one_tree.ensures.nodes c.args.a.now c.args.b.now c.requires _ _ c.footprint-nodes.ensures.nodes c.footprint-others.ensures.nodes)
