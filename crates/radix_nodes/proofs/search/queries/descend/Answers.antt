use Rattle.std.proofs.Common.{◌+◌, ◌<◌, ◌≡◌, ◌∙◌, length, ap, sym, subst, arith, Some, None}
use Rattle.radix_nodes.specs.Nodes.{tree_of, fragment_of}
use Rattle.radix_nodes.specs.Searches.{FindsShortest}
use Rattle.radix_nodes.proofs.EditLemmas.Steps.{none_stuck}
use Rattle.radix_nodes.proofs.SearchLemmas.Compared.{met_down, met_off}
use Rattle.radix_nodes.proofs.NodeLemmas.Options.{match_implies}
use Rattle.radix_nodes.proofs.SearchLemmas.Deepest.{deepest_here, deepest_through_child, down_placed, end_stuck}
use Rattle.radix_nodes.proofs.SearchLemmas.Nearest.{nearest_here, nearest_none, nearest_inside, nearest_parted, nearest_through_child, none_through_child}
use Rattle.radix_nodes.proofs.search.queries.descend.Goals.{then-done-agreement, else-done-agreement}
use Rattle.radix_nodes.proofs.search.queries.descend.Goals as goal

pub loop-done-init : goal.loop-done-init
loop-done-init g c = record { inside = c.requires.depth; placed = c.requires.placed; deepest = λ r h. h; shortest = λ r h. h }

pub meet-requires-clause-placed : goal.meet-requires-clause-placed
meet-requires-clause-placed g c = c.loop-done.invariant.placed

pub returns-in_default-clause-deepest : goal.returns-in_default-clause-deepest
returns-in_default-clause-deepest g c =
    c.loop-done.invariant.deepest (c.loop-done.at, c.loop-done.done)
    (deepest_here c.loop-done.at.now c.args.list.now c.loop-done.done c.loop-done.invariant.inside (none_stuck c.loop-done.at.now c.args.list.now c.loop-done.done 0 c.loop-done.invariant.placed c.in_default.ensures))

pub returns-in_default-clause-shortest : goal.returns-in_default-clause-shortest
returns-in_default-clause-shortest g c =
    c.loop-done.invariant.shortest None (nearest_none c.loop-done.at.now c.args.list.now c.loop-done.done c.loop-done.invariant.placed (omega arith) c.in_default.ensures)

pub returns-then-agreement-len-clause-deepest : goal.returns-then-agreement-len-clause-deepest
returns-then-agreement-len-clause-deepest g c =
    let n = c.loop-done.at.now in
    let key = c.args.list.now in
    let placed = c.loop-done.invariant.placed in
    c.loop-done.invariant.deepest (c.loop-done.at, c.loop-done.done) (deepest_here n key c.loop-done.done c.loop-done.invariant.inside
    (met_off n key c.loop-done.done placed c.deref.result.now c.in-Some.i c.in-Some.agreement (omega arith) c.in-Some.ensures c.index-child.result.now (sym c.index-child.ensures) c.deref.ensures
    (λ z. c.if-agreement-len.true (z ∙ sym c.len-in-loop-done.ensures))))

pub returns-then-agreement-len-clause-shortest : goal.returns-then-agreement-len-clause-shortest
returns-then-agreement-len-clause-shortest g c =
    let n = c.loop-done.at.now in
    let key = c.args.list.now in
    let placed = c.loop-done.invariant.placed in
    let lt : c.loop-done.done < length key = omega arith in
    elim c.if-done-agreement.branch [
      | then-done-agreement w ↦ subst (λ r. FindsShortest r c.args.node.now key c.args.depth) (sym w.result-is) (c.loop-done.invariant.shortest (Some (w.deref-then-done-agreement.result, c.in-Some.agreement.same))
          (nearest_inside n key c.loop-done.done placed w.deref-then-done-agreement.result.now c.in-Some.i c.in-Some.agreement lt c.in-Some.ensures
          c.index-child.result.now (sym c.index-child.ensures) w.deref-then-done-agreement.ensures (w.if-done-agreement.true ∙ c.len-then-agreement-len.ensures)))
      | else-done-agreement w ↦ subst (λ r. FindsShortest r c.args.node.now key c.args.depth) (sym w.result-is) (c.loop-done.invariant.shortest None
          (nearest_parted n key c.loop-done.done placed c.deref.result.now c.in-Some.i c.in-Some.agreement lt c.in-Some.ensures
          c.index-child.result.now (sym c.index-child.ensures) c.deref.ensures (λ z. c.if-agreement-len.true (z ∙ sym c.len-in-loop-done.ensures)) (λ z. w.if-done-agreement.false (z ∙ sym c.len-then-agreement-len.ensures))))
    ]

pub loop-done-smaller : goal.loop-done-smaller
loop-done-smaller g c =
    let n = c.loop-done.at.now in
    let m = c.deref-at.result.now in
    let key = c.args.list.now in
    let a = c.in-Some.agreement in
    let placed = c.loop-done.invariant.placed in
    let lt : c.loop-done.done < length key = omega arith in
    let is = sym c.index-child.ensures in
    let e : a.same ≡ length (fragment_of m) = c.if-agreement-len.false ∙ c.len-in-loop-done.ensures ∙ ap (λ k. length (fragment_of k)) (c.deref.ensures ∙ sym c.deref-at.ensures) in
    let s = met_down n key c.loop-done.done placed m c.in-Some.i a lt c.in-Some.ensures c.index-child.result.now is c.deref-at.ensures e in
    omega (arith, s.further, s.inside)

pub loop-done-preserved : goal.loop-done-preserved
loop-done-preserved g c =
    let n = c.loop-done.at.now in
    let m = c.deref-at.result.now in
    let key = c.args.list.now in
    let a = c.in-Some.agreement in
    let placed = c.loop-done.invariant.placed in
    let lt : c.loop-done.done < length key = omega arith in
    let is = sym c.index-child.ensures in
    let e : a.same ≡ length (fragment_of m) = c.if-agreement-len.false ∙ c.len-in-loop-done.ensures ∙ ap (λ k. length (fragment_of k)) (c.deref.ensures ∙ sym c.deref-at.ensures) in
    let s = met_down n key c.loop-done.done placed m c.in-Some.i a lt c.in-Some.ensures c.index-child.result.now is c.deref-at.ensures e in
    record {
      inside = s.inside;
      placed = down_placed n m key c.loop-done.done c.in-Some.i (c.loop-done.done + a.same) placed s c.index-child.result.now is c.deref-at.ensures;
      deepest = λ r h. c.loop-done.invariant.deepest r
          (deepest_through_child n m key c.loop-done.done c.in-Some.i (c.loop-done.done + a.same) placed s c.index-child.result.now is c.deref-at.ensures (tree_of r.0.now) r.1 h);
      shortest = λ r h. c.loop-done.invariant.shortest r (match_implies r
          (λ free. none_through_child n key c.loop-done.done placed m c.in-Some.i a lt c.in-Some.ensures c.index-child.result.now is c.deref-at.ensures e free)
          (λ x d. nearest_through_child n key c.loop-done.done placed m c.in-Some.i a lt c.in-Some.ensures c.index-child.result.now is c.deref-at.ensures e (tree_of x.0.now) x.1 d)
          h);
    }

pub returns-clause-deepest : goal.returns-clause-deepest
returns-clause-deepest g c =
    c.loop-done.invariant.deepest (c.loop-done.at, c.loop-done.done)
    (deepest_here c.loop-done.at.now c.args.list.now c.loop-done.done c.loop-done.invariant.inside (end_stuck c.loop-done.at.now c.args.list.now c.loop-done.done c.loop-done.invariant.placed (omega (arith, c.loop-done.invariant.inside))))

pub returns-clause-shortest : goal.returns-clause-shortest
returns-clause-shortest g c =
    c.loop-done.invariant.shortest (Some (c.loop-done.at, c.len-2.result))
    (nearest_here c.loop-done.at.now c.args.list.now c.loop-done.done _ (omega (arith, c.loop-done.invariant.inside)) c.len-2.ensures)
