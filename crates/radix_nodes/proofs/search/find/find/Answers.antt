use Rattle.std.proofs.Common.{sym, arith, Some, None}
use Rattle.radix_nodes.proofs.NodeLemmas.Options.{match_implies}
use Rattle.radix_nodes.proofs.SearchLemmas.Deepest.{node_here, stuck_absent, down_placed, found_from_child, found_in_child}
use Rattle.radix_nodes.proofs.search.find.find.Goals as goal

pub loop-done-init : goal.loop-done-init
loop-done-init g c = record { inside = c.requires.depth; placed = c.requires.placed; leads = λ r h. h }

pub loop-done-preserved : goal.loop-done-preserved
loop-done-preserved g c =
    let n = c.loop-done.at.now in
    let m = c.deref-at.result.now in
    let s = c.in-Some.ensures in
    let is = sym c.index.ensures in
    let placed = c.loop-done.invariant.placed in
    record {
      inside = s.inside;
      placed = down_placed n m c.args.list.now c.loop-done.done c.in-Some.i c.in-Some.next placed s c.index.result.now is c.deref-at.ensures;
      leads = λ r h. c.loop-done.invariant.leads r (match_implies r
          (λ free u d. free u (found_in_child n m c.args.list.now c.loop-done.done c.in-Some.i c.in-Some.next placed s c.index.result.now is c.deref-at.ensures u d))
          (λ x d. found_from_child n m c.args.list.now c.loop-done.done c.in-Some.i c.in-Some.next placed s c.index.result.now is c.deref-at.ensures _ d)
          h);
    }

pub loop-done-smaller : goal.loop-done-smaller
loop-done-smaller g c = omega (arith, c.in-Some.ensures.further, c.in-Some.ensures.inside)

pub returns-in-None : goal.returns-in-None
returns-in-None g c =
    c.loop-done.invariant.leads None (stuck_absent c.loop-done.at.now c.args.list.now c.loop-done.done (omega arith) c.in-None.ensures)

pub returns : goal.returns
returns g c =
    c.loop-done.invariant.leads (Some c.loop-done.at) (node_here c.loop-done.at.now c.args.list.now c.loop-done.done (omega (arith, c.loop-done.invariant.inside)))
