use Rattle.std.proofs.Common.{ap, ◌∙◌}
use Rattle.radix_trie.specs.Views.{pairs_below}
use Rattle.radix_trie.proofs.trie.Trie.below.Goals as goal

pub returns-clause-walk : goal.returns-clause-walk
returns-clause-walk g c = c.cursor.ensures.walk _ _ c.find.ensures ∙ ap (pairs_below c.args.self.now) c.in_ok-list.ensures.ok
