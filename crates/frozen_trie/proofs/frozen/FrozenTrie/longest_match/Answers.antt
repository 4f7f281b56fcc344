use Rattle.std.proofs.Common.{◌-◌, length, arith, get_or, subst, ap, ◌∙◌}
use Rattle.nibble_map.specs.Lists.{IsRising}
use Rattle.encoded_keys.specs.Codes.{IsLastPrefix}
use Rattle.radix_trie.specs.Walks.{deref_pair}
use Rattle.frozen_trie.proofs.FrozenLemmas.Queries.{above_none, above_some}
use Rattle.frozen_trie.proofs.frozen.FrozenTrie.longest_match.Goals as goal

pub returns-then-found-eq0-clause-pair : goal.returns-then-found-eq0-clause-pair
returns-then-found-eq0-clause-pair g c =
    let r = c.last_prefix-found.result in
    let cs = c.self.inside.codes in
    let last = subst (λ q. IsLastPrefix cs (length cs) q r) (c.as_slice.ensures ∙ c.in_ok-list.ensures.ok) c.last_prefix-found.ensures in
    rw (← c.self.view_is) (above_none g.K.TrieKey.encoding c.self.inside.pairs.items (subst IsRising c.self.invariant.keyed c.self.invariant.linked.rising)
    _ r c.if-found-eq0.true (subst (λ cs. IsLastPrefix cs (length cs) (g.Q.TrieKey.encoding c.args.key.now) r) c.self.invariant.keyed last))

pub returns-clause-pair : goal.returns-clause-pair
returns-clause-pair g c =
    let x = deref_pair c.entry_at.result in
    let r = c.last_prefix-found.result in
    let cs = c.self.inside.codes in
    let last = subst (λ q. IsLastPrefix cs (length cs) q r) (c.as_slice.ensures ∙ c.in_ok-list.ensures.ok) c.last_prefix-found.ensures in
    rw (← c.self.view_is) (above_some g.K.TrieKey.encoding c.self.inside.pairs.items (subst IsRising c.self.invariant.keyed c.self.invariant.linked.rising)
    _ r x (omega (arith, c.if-found-eq0.false)) (subst (λ cs. IsLastPrefix cs (length cs) (g.Q.TrieKey.encoding c.args.key.now) r) c.self.invariant.keyed last)
    (c.entry_at.ensures ∙ ap (λ l. get_or l (r - 1) x) c.deref-2.ensures.value))
