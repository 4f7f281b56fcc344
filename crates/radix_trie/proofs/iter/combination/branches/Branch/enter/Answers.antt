use Rattle.std.proofs.Common.{arith, length}
use Rattle.radix_nodes.specs.Nodes.{tree_of}
use Rattle.radix_trie.specs.Combinations.{lead, row_of_branch}
use Rattle.radix_trie.proofs.CombinationLemmas.Nodes.{row_ahead, row_begins}
use Rattle.radix_trie.proofs.CombinationLemmas.Trees.{behind-zero, whole_cut_off}
use Rattle.radix_trie.proofs.iter.combination.branches.Branch.enter.Goals as goal

pub returns-clause-cut : goal.returns-clause-cut
returns-clause-cut g c =
    let b = c.args.self.now in
    let is = row_begins b.offset b.row.now _ _ _ c.in-Some.ensures.cases.0 c.deref.ensures in
    let ahead = row_ahead b.offset b.row.now _ _ _ c.in-Some.ensures.cases.0 c.deref.ensures c.requires in
    whole_cut_off b.offset (tree_of c.deref.result.now) _ _ is c.requires (length (lead (row_of_branch b))) (omega (arith, ahead.1, ahead.2)) _ _ _ (behind-zero _) ahead.2 c.over.ensures.own c.over.ensures.row
