use Rattle.std.proofs.Common.{subst, sym, ap, take, drop, ◌-◌, ◌∙◌}
use Rattle.nibble_map.specs.Lists.{IsRising}
use Rattle.encoded_keys.specs.Codes.{IsCut, is_before, is_until}
use Rattle.frozen_trie.proofs.FrozenLemmas.Queries.{below_is, cuts_in_order}
use Rattle.frozen_trie.proofs.frozen.FrozenTrie.below.Goals as goal

pub part-requires-clause-order : goal.part-requires-clause-order
part-requires-clause-order g c =
    let list = c.as_slice-2.ensures ∙ sym c.as_slice.ensures in
    let from = c.lower-from.result in
    let to = c.upper-to.result in
    let high = subst (λ q. IsCut (λ x. is_until x q) c.self.inside.codes to) list c.upper-to.ensures in
    cuts_in_order g.K.TrieKey.encoding c.self.inside.pairs.items (subst IsRising c.self.invariant.keyed c.self.invariant.linked.rising)
    c.as_slice.result from to
    (subst (λ cs. IsCut (λ x. is_before x c.as_slice.result) cs from) c.self.invariant.keyed c.lower-from.ensures)
    (subst (λ cs. IsCut (λ x. is_until x c.as_slice.result) cs to) c.self.invariant.keyed high)

pub returns-clause-pairs : goal.returns-clause-pairs
returns-clause-pairs g c =
    let cs = c.self.inside.codes in
    let q = g.Q.TrieKey.encoding c.args.key.now in
    let from = c.lower-from.result in
    let to = c.upper-to.result in
    let low = subst (λ q. IsCut (λ x. is_before x q) cs from) (c.as_slice.ensures ∙ c.in_ok-list.ensures.ok) c.lower-from.ensures in
    let high = subst (λ q. IsCut (λ x. is_until x q) cs to) (c.as_slice-2.ensures ∙ c.in_ok-list.ensures.ok) c.upper-to.ensures in
    c.part.ensures ∙ ap (λ ps. take (to - from) (drop from ps)) c.deref.ensures.value
    ∙ rw (← c.self.view_is) (below_is g.K.TrieKey.encoding c.self.inside.pairs.items (subst IsRising c.self.invariant.keyed c.self.invariant.linked.rising)
    q from to (subst (λ cs. IsCut (λ x. is_before x q) cs from) c.self.invariant.keyed low) (subst (λ cs. IsCut (λ x. is_until x q) cs to) c.self.invariant.keyed high))
