use Rattle.radix_trie.proofs.CombinationLemmas.Nodes.{row_leads}
use Rattle.radix_trie.proofs.iter.combination.branches.Branch.fragment.Goals as goal

pub returns-clause-some : goal.returns-clause-some
returns-clause-some g c = row_leads c.args.self.now.offset c.args.self.now.row.now _ _ _ c.in_ok-node.ensures.cases.0 c.deref.ensures c.requires
