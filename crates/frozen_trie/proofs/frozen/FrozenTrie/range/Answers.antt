use Rattle.std.proofs.Common.{◌-◌, length, subst, ap, take, drop, ◌∙◌, arith}
use Rattle.nibble_map.specs.Lists.{IsRising}
use Rattle.radix_trie.specs.Views.{encoded_bound, is_within}
use Rattle.encoded_keys.specs.Codes.{IsSpan}
use Rattle.frozen_trie.proofs.FrozenLemmas.Queries.{as_many, within_is}
use Rattle.frozen_trie.proofs.frozen.FrozenTrie.range.Goals as goal

pub part-requires-clause-within : goal.part-requires-clause-within
part-requires-clause-within g c =
    let ps = c.self.inside.pairs.items in
    let rises = subst IsRising c.self.invariant.keyed c.self.invariant.linked.rising in
    omega (arith, c.within-first.ensures.within, ap length c.self.invariant.keyed, as_many g.K.TrieKey.encoding ps rises, ap length c.deref.ensures.value)

pub returns-clause-pairs : goal.returns-clause-pairs
returns-clause-pairs g c = λ has.
    let enc = g.Q.TrieKey.encoding in
    let ps = c.self.inside.pairs.items in
    let rises = subst IsRising c.self.invariant.keyed c.self.invariant.linked.rising in
    let first = c.within-first.result.0 in
    let end = c.within-first.result.1 in
    let low = c.list_of.ensures ∙ c.in_ok-low.ensures.list ∙ ap (encoded_bound enc) (c.start_bound.ensures has) in
    let high = c.list_of-2.ensures ∙ c.in_ok-high.ensures.list ∙ ap (encoded_bound enc) (c.end_bound.ensures has) in
    let own = subst (λ b. IsSpan (is_within b c.list_of-2.result) c.self.inside.codes first end) low c.within-first.ensures in
    let span = subst (λ b. IsSpan (is_within (encoded_bound enc (g.R.RangeBounds.start_bound c.args.range)) b) c.self.inside.codes first end) high own in
    c.part.ensures ∙ ap (λ xs. take (end - first) (drop first xs)) c.deref.ensures.value
    ∙ rw (← c.self.view_is) (within_is g.K.TrieKey.encoding ps rises _ _ first end
    (subst (λ cs. IsSpan (is_within (encoded_bound enc (g.R.RangeBounds.start_bound c.args.range)) (encoded_bound enc (g.R.RangeBounds.end_bound c.args.range))) cs first end) c.self.invariant.keyed span))
