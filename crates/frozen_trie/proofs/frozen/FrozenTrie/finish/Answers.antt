use Rattle.std.proofs.Common.{ap, arith, length, subst}
use Rattle.std.specs.FinMap as fin
use Rattle.nibble_map.specs.Lists.{IsRising}
use Rattle.frozen_trie.proofs.FrozenLemmas.Queries.{as_many}
use Rattle.frozen_trie.proofs.FrozenLemmas.Rows.{len_is}
use Rattle.frozen_trie.proofs.frozen.FrozenTrie.finish.Goals as goal

pub returns-clause-few : goal.returns-clause-few
returns-clause-few g c = λ few.
    let enc = g.K.TrieKey.encoding in
    let ps = c.self.inside.pairs.items in
    let rises = subst IsRising c.self.invariant.keyed c.self.invariant.linked.rising in
    c.finish.ensures.few (omega (arith, few, ap length c.self.invariant.keyed, as_many enc ps rises, len_is enc ps rises, ap fin.len c.self.view_is))
