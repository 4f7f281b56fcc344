use Rattle.std.proofs.Common.{subst, ◌∙◌}
use Rattle.nibble_map.specs.Lists.{IsRising}
use Rattle.encoded_keys.specs.Codes.{IsCut, is_before}
use Rattle.frozen_trie.proofs.FrozenLemmas.Queries.{count_before_is}
use Rattle.frozen_trie.proofs.frozen.FrozenTrie.rank.Goals as goal

pub returns-clause-count : goal.returns-clause-count
returns-clause-count g c =
    let q = g.Q.TrieKey.encoding c.args.key.now in
    let low = subst (λ q. IsCut (λ x. is_before x q) c.self.inside.codes c.lower.result) (c.as_slice.ensures ∙ c.in_ok-list.ensures.ok) c.lower.ensures in
    rw (← c.self.view_is) (count_before_is g.K.TrieKey.encoding c.self.inside.pairs.items (subst IsRising c.self.invariant.keyed c.self.invariant.linked.rising)
    q c.lower.result (subst (λ cs. IsCut (λ x. is_before x q) cs c.lower.result) c.self.invariant.keyed low))
