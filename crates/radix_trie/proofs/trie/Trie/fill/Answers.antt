use Rattle.std.proofs.Common.{refl}
use Rattle.radix_trie.proofs.ChangeLemmas.Filled.{filled-stored}
use Rattle.radix_trie.proofs.trie.Trie.fill.Goals as goal

pub returns-then-contains-clause-filled : goal.returns-then-contains-clause-filled
returns-then-contains-clause-filled g c =
    filled-stored c.args.self.now c.args.list.now c.args.key (goal.F-post g c.args.default) (c.if-contains.ensures.stored.0 refl)
