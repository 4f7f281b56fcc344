use Rattle.std.proofs.Common.{◌≡◌, ◌∙◌, false, true, slice_get, ap, subst, sym}
use Rattle.std.specs.Option.{ForSome}
use Rattle.radix_trie.specs.Refusals.{JoinsAreShort}
use Rattle.trie_set.specs.Sets.{keys_in}
use Rattle.trie_set.proofs.SetLemmas.{key_by_walk, key_holds}
use Rattle.trie_set.proofs.set.TrieSet.pop_first.Goals as goal

pub returns-in_err-pop_first-clause-join : goal.returns-in_err-pop_first-clause-join
returns-in_err-pop_first-clause-join g c =
    let enc = g.K.TrieKey.encoding in
    let m = c.self.inside.trie in
    λ h. absurd
    (let never : false ≡ true =
    c.in_err-pop_first.ensures.join (key_holds m (λ k. JoinsAreShort m (enc k)) 0
    (subst (λ n. ForSome (slice_get (keys_in n) 0) (λ k. JoinsAreShort n (enc k))) (sym c.self.view_is) h)) in
    cc)

pub returns-clause-first : goal.returns-clause-first
returns-clause-first g c = c.key_of.ensures ∙ key_by_walk c.self.inside.trie 0 _ c.in_ok-pop_first.ensures.first
    ∙ ap (λ m. slice_get (keys_in m) 0) c.self.view_is
