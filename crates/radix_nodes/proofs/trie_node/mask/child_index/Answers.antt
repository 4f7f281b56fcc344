use Rattle.masked_tree.proofs.MaskLemmas.{place_absent, place_present}
use Rattle.radix_nodes.proofs.trie_node.mask.child_index.Goals as goal

pub returns-then-mask-bit-eq0 : goal.returns-then-mask-bit-eq0
returns-then-mask-bit-eq0 c xs is rising = place_absent c.args.mask c.args.nibble xs c.requires is rising c.if-mask-bit-eq0.true

pub returns-else-mask-bit-eq0 : goal.returns-else-mask-bit-eq0
returns-else-mask-bit-eq0 c xs is rising = place_present c.args.mask c.args.nibble xs c.requires is rising c.if-mask-bit-eq0.false
