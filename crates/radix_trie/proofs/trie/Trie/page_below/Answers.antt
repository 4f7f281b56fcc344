use Rattle.std.proofs.Common.{◌∙◌}
use Rattle.radix_trie.proofs.PathLemmas.Loci.{no_pairs_below}
use Rattle.radix_trie.proofs.trie.Trie.page_below.Goals as goal

pub returns-clause-none : goal.returns-clause-none
returns-clause-none g c = λ none. c.first_pairs.ensures.none (c.cursor.ensures.walk _ _ c.find.ensures ∙ no_pairs_below c.args.self.now c.args.list.now none)
