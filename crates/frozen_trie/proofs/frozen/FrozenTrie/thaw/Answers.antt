use Rattle.std.proofs.Common.{◌++◌, [], ◌∷◌, append-nil, arith, length, sym, ap, subst, ◌∙◌}
use Rattle.std.proofs.lemmas.List.{length-append}
use Rattle.std.specs.FinMap as fin
use Rattle.radix_trie.specs.Views.{pairs_below}
use Rattle.frozen_trie.proofs.FrozenLemmas.Queries.{whole_is}
use Rattle.frozen_trie.proofs.FrozenLemmas.Rows.{len_is}
use Rattle.frozen_trie.proofs.FrozenLemmas.Thawed.{IsThawed, none_thawed, one_thawed}
use Rattle.frozen_trie.proofs.frozen.FrozenTrie.thaw.Goals as goal

pub loop-key-init : goal.loop-key-init
loop-key-init g c = none_thawed g.K.TrieKey.encoding _ _ c.new-trie.ensures (append-nil _)

pub loop-key-preserved-in_default-insert : goal.loop-key-preserved-in_default-insert
loop-key-preserved-in_default-insert g c =
    let enc = g.K.TrieKey.encoding in
    let all = c.into_parts-pairs.result.0.items in
    one_thawed enc all c.pop.new.self.items (c.in-Some.key, c.in-Some.value) c.loop-key.trie c.insert.new.self c.into_parts-pairs.ensures.rising
    (subst (λ xs. IsThawed enc all xs c.loop-key.trie) c.in-Some.ensures.items c.loop-key.invariant) c.in_default-insert.ensures.stored

pub loop-key-preserved-in_default-insert-2 : goal.loop-key-preserved-in_default-insert-2
loop-key-preserved-in_default-insert-2 g c =
    let enc = g.K.TrieKey.encoding in
    let all = c.into_parts-pairs.result.0.items in
    one_thawed enc all c.pop.new.self.items (c.in-Some.key, c.in-Some.value) c.loop-key.trie c.insert.new.self c.into_parts-pairs.ensures.rising
    (subst (λ xs. IsThawed enc all xs c.loop-key.trie) c.in-Some.ensures.items c.loop-key.invariant) c.in_default-insert.ensures.stored

pub returns-in-Err-clause-handed_back : goal.returns-in-Err-clause-handed_back
returns-in-Err-clause-handed_back g c =
    let enc = g.K.TrieKey.encoding in
    let all = c.into_parts-pairs.result.0.items in
    let front = c.pop.new.self.items in
    let rest = c.loop-key.rest.items in
    let back = c.push_reserved.ensures.items
    ∙ ap (λ k. front ++ (k, c.in-Err.refused.value) ∷ []) c.in-Err.ensures.handed_back.0
    ∙ ap (λ v. front ++ (c.in-Some.key, v) ∷ []) c.in-Err.ensures.handed_back.1
    ∙ sym c.in-Some.ensures.items in
    ap (λ xs. xs ++ pairs_below c.insert.new.self []) back
    ∙ ap (λ t. rest ++ pairs_below t []) c.in-Err.ensures.unchanged
    ∙ c.loop-key.invariant.order
    ∙ sym (whole_is enc all c.into_parts-pairs.ensures.rising)
    ∙ ap (λ m. pairs_below m []) c.into_parts-pairs.ensures.map

pub returns-in-Err-clause-none : goal.returns-in-Err-clause-none
returns-in-Err-clause-none g c = λ none.
    let enc = g.K.TrieKey.encoding in
    let all = c.into_parts-pairs.result.0.items in
    let front = c.pop.new.self.items in
    let rest = c.loop-key.rest.items in
    absurd (omega (
      arith,
      none,
      ap fin.len c.into_parts-pairs.ensures.map,
      len_is enc all c.into_parts-pairs.ensures.rising,
      ap length c.loop-key.invariant.order,
      length-append rest (pairs_below c.loop-key.trie []),
      ap length c.in-Some.ensures.items,
      length-append front ((c.in-Some.key, c.in-Some.value) ∷ []),
    ))
