use Rattle.std.proofs.Common.{◌∙◌}
use Rattle.radix_trie.proofs.CombinationLemmas.Trees.{behind-zero}
use Rattle.radix_trie.proofs.WalkLemmas.Rows.{children_of-row}
use Rattle.radix_trie.proofs.iter.combination.branches.Branch.over.Goals as goal

pub returns-clause-row : goal.returns-clause-row
returns-clause-row g c = behind-zero _ ∙ children_of-row c.args.node.now _ c.deref.ensures.value
