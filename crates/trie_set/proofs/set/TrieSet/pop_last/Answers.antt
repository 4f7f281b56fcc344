use Rattle.std.proofs.Common.{◌≡◌, ◌∙◌, ◌-◌, false, true, length, slice_get, ap, subst, sym}
use Rattle.std.specs.Option.{ForSome}
use Rattle.radix_trie.specs.Refusals.{JoinsAreShort}
use Rattle.trie_set.specs.Sets.{keys_in}
use Rattle.trie_set.proofs.SetLemmas.{last_by_walk, last_holds}
use Rattle.trie_set.proofs.set.TrieSet.pop_last.Goals as goal

pub returns-in_err-pop_last-clause-join : goal.returns-in_err-pop_last-clause-join
returns-in_err-pop_last-clause-join g c =
    let enc = g.K.TrieKey.encoding in
    let m = c.self.inside.trie in
    λ h. absurd
    (let never : false ≡ true =
    c.in_err-pop_last.ensures.join (last_holds m (λ k. JoinsAreShort m (enc k))
    (subst (λ n. ForSome (slice_get (keys_in n) (length (keys_in n) - 1)) (λ k. JoinsAreShort n (enc k))) (sym c.self.view_is) h)) in
    cc)

pub returns-clause-last : goal.returns-clause-last
returns-clause-last g c = c.key_of.ensures ∙ last_by_walk c.self.inside.trie _ c.in_ok-pop_last.ensures.last
    ∙ ap (λ m. slice_get (keys_in m) (length (keys_in m) - 1)) c.self.view_is
