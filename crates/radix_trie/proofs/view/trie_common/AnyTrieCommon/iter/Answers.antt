use Rattle.std.proofs.Common.{ap, arith, length}
use Rattle.radix_trie.proofs.PathLemmas.Leaves.{leaf_is_small}
use Rattle.radix_trie.proofs.PathLemmas.Loci.{no_pairs_below}
use Rattle.radix_trie.proofs.view.trie_common.AnyTrieCommon.iter.Goals as goal

pub returns-clause-none : goal.returns-clause-none
returns-clause-none g c = λ none.
    c.reserved.ensures.none (omega (arith, ap length (c.cursor.ensures.walk _ _ c.locus.ensures), ap length (no_pairs_below _ _ none)))

pub returns-clause-leaf : goal.returns-clause-leaf
returns-clause-leaf g c = λ leaf.
    c.reserved.ensures.none (omega (arith, ap length (c.cursor.ensures.walk _ _ c.locus.ensures), leaf_is_small g.K.TrieKey.encoding _ _ _ c.locus.ensures.0 leaf))
