use Rattle.std.proofs.Common.{◌≡◌, ◌<◌, ◌++◌, ◌∷◌, [], ap, drop, length, length-append, refl, reverse, slice_get, subst, sym, ◌∙◌, arith}
use Rattle.radix_nodes.specs.Nodes.{tree_of}
use Rattle.radix_nodes.specs.Pairs.{own_pair, pairs_in_all}
use Rattle.radix_nodes.proofs.EditLemmas.Removal.{children_of-no_boxes}
use Rattle.radix_trie.specs.declared.iter.rows.Frame.{Frame}
use Rattle.radix_trie.specs.Walks.{HasFullRows, deref_pair, first_pair, left_in, left_of, left_rows}
use Rattle.radix_trie.proofs.WalkLemmas.Back.{full-down, full-popped, left-down, left-up, own-last, row_left, turns-down, turns-up}
use Rattle.radix_trie.proofs.WalkLemmas.Rows.{children_of-row, first_own}
use Rattle.radix_trie.proofs.WalkLemmas.Walks.{turns_left}
use Rattle.radix_trie.proofs.iter.back.CursorBack.next.Given.{Over}
use Rattle.radix_trie.proofs.iter.back.CursorBack.next.Goals as goal

pub returns-in_err-reserve-clause-end : goal.returns-in_err-reserve-clause-end
returns-in_err-reserve-clause-end g c = λ bare.
    let some : 0 < length c.loop-node.self-inside.at.row.now =
    omega (arith, ap length c.in-Some.ensures.cases.0, length-append c.in-Some.others.now (c.in-Some.node.now ∷ [])) in
    absurd (row_left c.loop-node.self-inside.stack.items c.loop-node.self-inside.at some c.loop-node.invariant.full (c.loop-node.invariant.same ∙ bare))

-- the pair comes first, and then what is left without it
comes_next : (g : Over) (c : goal.After-parts g)
    → c.args.self.now ≡ deref_pair c.parts.result ∷ reverse (left_in (c.loop-node.self-inside.stack.items ++ record { own = c.take.new.self; row = c.loop-node.self-inside.at.row } ∷ []))
comes_next g c =
    let self = c.loop-node.self-inside in
    sym c.loop-node.invariant.same ∙ own-last self.stack.items self.at c.in-Some-take.pair (sym c.in-Some-take.ensures.value) (children_of-no_boxes _ c.in_default.ensures.cases)
    ∙ (λ i. sym c.parts.ensures i ∷ reverse (left_in (self.stack.items ++ record { own = sym c.in-Some-take.ensures.after i; row = self.at.row } ∷ [])))

pub returns-in-Some-take-clause-pair : goal.returns-in-Some-take-clause-pair
returns-in-Some-take-clause-pair g c = sym (ap (λ s. slice_get s 0) (comes_next g c))

pub returns-in-Some-take-clause-rest : goal.returns-in-Some-take-clause-rest
returns-in-Some-take-clause-rest g c = sym (ap (λ s. drop 1 s) (comes_next g c))

pub loop-node-smaller-in-Some : goal.loop-node-smaller-in-Some
loop-node-smaller-in-Some g c =
    let at = c.loop-node.self-inside.at in
    let above : Frame g.row.K.Denot g.row.V.Denot = record { own = at.own; row = c.in-Some.others } in
    let below : Frame g.row.K.Denot g.row.V.Denot = record { own = c.pair.result; row = c.deref-in-Some-2.result } in
    let pushed = c.push_reserved.ensures.items ∙ ap (λ rs. rs ++ above ∷ []) c.in_ok-reserve.ensures.items in
    let children = children_of-row c.deref-in-Some.result.now _ c.deref-in-Some-2.ensures.value ∙ ap (λ n. (tree_of n).children) c.deref-in-Some.ensures in
    turns-down c.loop-node.self-inside.stack.items _ at above below c.in-Some.node.now c.in-Some.ensures.cases.0 pushed children

pub loop-node-preserved-in-Some : goal.loop-node-preserved-in-Some
loop-node-preserved-in-Some g c =
    let at = c.loop-node.self-inside.at in
    let rs = c.loop-node.self-inside.stack.items in
    let above : Frame g.row.K.Denot g.row.V.Denot = record { own = at.own; row = c.in-Some.others } in
    let below : Frame g.row.K.Denot g.row.V.Denot = record { own = c.pair.result; row = c.deref-in-Some-2.result } in
    let pushed = c.push_reserved.ensures.items ∙ ap (λ rs. rs ++ above ∷ []) c.in_ok-reserve.ensures.items in
    let children = children_of-row c.deref-in-Some.result.now _ c.deref-in-Some-2.ensures.value ∙ ap (λ n. (tree_of n).children) c.deref-in-Some.ensures in
    let pair = first_own c.pair.result _ c.pair.ensures ∙ ap (λ n. own_pair (tree_of n).pair) c.deref.ensures in
    record {
      same = ap reverse (left-down rs _ at above below c.in-Some.node.now c.in-Some.ensures.cases.0 pushed children refl pair) ∙ c.loop-node.invariant.same;
      full = full-down rs _ at above below c.in-Some.node.now c.in-Some.ensures.cases.0 pushed children c.loop-node.invariant.full;
    }

pub loop-node-smaller : goal.loop-node-smaller
loop-node-smaller g c =
    let self = c.loop-node.self-inside in
    subst (λ rs. turns_left (left_rows rs) < turns_left (left_rows (self.stack.items ++ self.at ∷ []))) c.in-Some-pop.ensures.items (turns-up self.stack.items self.at)

pub loop-node-preserved : goal.loop-node-preserved
loop-node-preserved g c =
    let self = c.loop-node.self-inside in
    let none = children_of-no_boxes _ c.in_default.ensures.cases in
    let bare : left_of self.at ≡ [] = (λ i. first_pair (sym c.in_default-take.ensures.value i) ++ pairs_in_all (none i)) in
    record {
      same = ap reverse (ap left_in (sym c.in-Some-pop.ensures.items) ∙ sym (left-up self.stack.items self.at bare)) ∙ c.loop-node.invariant.same;
      full = subst (λ rs. HasFullRows (left_rows rs)) c.in-Some-pop.ensures.items (full-popped self.stack.items self.at c.loop-node.invariant.full).0;
    }
