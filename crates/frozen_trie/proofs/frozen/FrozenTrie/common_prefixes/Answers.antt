use Rattle.std.proofs.Common.{length, subst, ◌∙◌, arith}
use Rattle.nibble_map.specs.Lists.{IsRising}
use Rattle.encoded_keys.specs.Codes.{IsLastPrefix}
use Rattle.frozen_trie.proofs.FrozenLemmas.Prefixes.{walk_down_whole}
use Rattle.frozen_trie.proofs.FrozenLemmas.Queries.{as_many}
use Rattle.frozen_trie.proofs.FrozenLemmas.Rows.{len_is}
use Rattle.frozen_trie.proofs.frozen.FrozenTrie.common_prefixes.Goals as goal

pub new-requires : goal.new-requires
new-requires g c =
    let enc = g.K.TrieKey.encoding in
    let ps = c.self.inside.pairs.items in
    let rises = subst IsRising c.self.invariant.keyed c.self.invariant.linked.rising in
    let last = subst (λ cs. IsLastPrefix cs (length cs) c.as_slice.result c.last_prefix-last.result) c.self.invariant.keyed c.last_prefix-last.ensures in
    rw (← c.self.view_is) (omega (arith, last.within, as_many enc ps rises, len_is enc ps rises))

pub returns-clause-walk : goal.returns-clause-walk
returns-clause-walk g c =
    let enc = g.K.TrieKey.encoding in
    let ps = c.self.inside.pairs.items in
    let rises = subst IsRising c.self.invariant.keyed c.self.invariant.linked.rising in
    let r = c.last_prefix-last.result in
    let cs = c.self.inside.codes in
    let last = subst (λ q. IsLastPrefix cs (length cs) q r) (c.as_slice.ensures ∙ c.in_ok-list.ensures.ok) c.last_prefix-last.ensures in
    c.new.ensures ∙ rw (← c.self.view_is) (walk_down_whole enc ps rises _ r (subst (λ cs. IsLastPrefix cs (length cs) (g.Q.TrieKey.encoding c.args.key.now) r) c.self.invariant.keyed last))
