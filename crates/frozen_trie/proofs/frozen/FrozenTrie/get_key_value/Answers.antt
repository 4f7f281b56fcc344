use Rattle.std.proofs.Common.{◌≡◌, ◌<◌, ℕ, length, arith, get_or, subst, sym, ap, ◌∙◌}
use Rattle.nibble_map.specs.Lists.{IsRising}
use Rattle.encoded_keys.specs.Codes.{code_at}
use Rattle.encoded_keys.specs.Index.{AreKeys}
use Rattle.radix_trie.specs.Walks.{deref_pair}
use Rattle.frozen_trie.proofs.FrozenLemmas.Rows.{get_at, get_none, keys_of_codes}
use Rattle.frozen_trie.proofs.FrozenLemmas.Queries.{as_many}
use Rattle.frozen_trie.proofs.frozen.FrozenTrie.get_key_value.Goals as goal

pub index_of-requires-clause-keyed : goal.index_of-requires-clause-keyed
index_of-requires-clause-keyed g c =
    subst (λ ps. AreKeys g.K.TrieKey.encoding ps c.self.inside.codes) (sym c.deref.ensures.value) (keys_of_codes g.K.TrieKey.encoding _ _ c.self.invariant.keyed)

pub returns-in-Some-clause-pair : goal.returns-in-Some-clause-pair
returns-in-Some-clause-pair g c =
    let enc = g.K.TrieKey.encoding in
    let ps = c.self.inside.pairs.items in
    let rises = subst IsRising c.self.invariant.keyed c.self.invariant.linked.rising in
    let same = c.self.invariant.keyed in
    let x = deref_pair c.entry_at.result in
    rw (← c.self.view_is) (sym (get_at enc ps (g.Q.TrieKey.encoding c.args.key.now) c.in-Some.at x rises
    (omega (arith, c.in-Some.ensures.0, ap length same, as_many enc ps rises))
    (c.entry_at.ensures ∙ ap (λ l. get_or l c.in-Some.at x) c.deref-in-Some.ensures.value)
    (subst (λ cs. code_at cs c.in-Some.at ≡ c.as_slice.result) same c.in-Some.ensures.1 ∙ c.as_slice.ensures ∙ c.in_ok-list.ensures.ok)))

pub returns-clause-pair : goal.returns-clause-pair
returns-clause-pair g c =
    let enc = g.K.TrieKey.encoding in
    let q = g.Q.TrieKey.encoding c.args.key.now in
    let rises = subst IsRising c.self.invariant.keyed c.self.invariant.linked.rising in
    let none = subst (λ q. (k : ℕ) → k < length c.self.inside.codes → code_at c.self.inside.codes k ≡ q → ⊥) (c.as_slice.ensures ∙ c.in_ok-list.ensures.ok) c.in-None.ensures in
    rw (← c.self.view_is) (sym (get_none enc c.self.inside.pairs.items q rises
    (subst (λ cs. (k : ℕ) → k < length cs → code_at cs k ≡ q → ⊥) c.self.invariant.keyed none)))
