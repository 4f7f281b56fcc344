use Rattle.std.proofs.Common.{◌≡◌, false, true, subst, sym}
use Rattle.radix_trie.specs.Refusals.{JoinsAreShort}
use Rattle.trie_set.proofs.set.TrieSet.take.Goals as goal

pub returns-in_err-remove_entry-clause-join : goal.returns-in_err-remove_entry-clause-join
returns-in_err-remove_entry-clause-join g c = λ inline short. absurd
    (let never : false ≡ true =
    c.in_err-remove_entry.ensures.join inline
    (subst (λ m. JoinsAreShort m (g.Q.TrieKey.encoding c.args.key.now)) (sym c.self.view_is) short) in
    cc)
