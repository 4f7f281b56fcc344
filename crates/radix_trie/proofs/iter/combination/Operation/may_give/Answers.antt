use Rattle.std.proofs.Common.{ap, sym, ◌∙◌}
use Rattle.radix_nodes.specs.Pairs.{pairs_of}
use Rattle.radix_trie.proofs.CombinationLemmas.Searches.{nothing_given}
use Rattle.radix_trie.proofs.iter.combination.Operation.may_give.Goals as goal

pub returns-else-in_second : goal.returns-else-in_second
returns-else-in_second g c = λ none.
    ap pairs_of (nothing_given c.args.self _ _ _ _ c.is_empty-in_first.ensures c.is_empty-in_second.ensures c.if-in_second.either (sym c.keeps.ensures ∙ none))
