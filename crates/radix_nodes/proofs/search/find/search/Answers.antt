use Rattle.std.proofs.Common.{◌≡◌, ℕ, suc, ◌+◌, ◌<◌, ◌∙◌, length, drop, ap, refl, subst, sym, arith, inl, inr, Some, None}
use Rattle.std.proofs.lemmas.List.{length-drop}
use Rattle.masked_tree.proofs.PathLemmas.Search.{walked_most}
use Rattle.radix_nodes.specs.Nodes.{tree_of, fragment_of}
use Rattle.radix_nodes.specs.Searches.{FindsDeepestPair, Visits}
use Rattle.radix_nodes.proofs.EditLemmas.Steps.{none_stuck}
use Rattle.radix_nodes.proofs.SearchLemmas.Compared.{count_end, count_none, count_most, count_step, count_stop, met_down, met_off}
use Rattle.radix_nodes.proofs.NodeLemmas.Options.{match_implies}
use Rattle.radix_nodes.proofs.SearchLemmas.Deepest.{node_here, end_stuck, stuck_absent, visits_here, visits_through_child, down_placed, found_from_child, found_in_child, option_or-None, best_at_end, best_through_child}
use Rattle.radix_nodes.proofs.search.find.search.Goals.{then-has_pair, else-has_pair}
use Rattle.radix_nodes.proofs.search.find.search.Goals as goal

-- none more can be counted
no_more : (count : ℕ) → count + 0 ≡ count
no_more count = omega arith

-- one is counted, and then more
one_first : (more : ℕ) → suc more ≡ 1 + more
one_first more = omega arith

-- one more can be counted before or after
one_more : (count more : ℕ) → count + suc more ≡ count + 1 + more
one_more count more = omega arith

pub loop-best-init : goal.loop-best-init
loop-best-init g c =
    record {
      inside = c.requires.depth;
      placed = c.requires.placed;
      leads = λ r h. h;
      nearest = λ r h. subst (λ o. FindsDeepestPair o c.args.node.now c.args.list.now c.args.depth) (sym (option_or-None r)) h;
      few = omega arith;
      visits = λ more v. subst (λ k. Visits k c.args.node.now c.args.list.now c.args.depth) (one_first more) v;
      count = omega arith;
    }

pub returns-then-done-len-clause-found : goal.returns-then-done-len-clause-found
returns-then-done-len-clause-found g c =
    let n = c.loop-best.at.now in
    let key = c.args.list.now in
    let placed = c.loop-best.invariant.placed in
    let end : c.loop-best.done ≡ length key = c.if-done-len.true ∙ c.len.ensures in
    c.loop-best.invariant.leads (Some c.loop-best.at) (node_here n key c.loop-best.done end)

pub returns-then-done-len-clause-nearest : goal.returns-then-done-len-clause-nearest
returns-then-done-len-clause-nearest g c =
    let n = c.loop-best.at.now in
    let key = c.args.list.now in
    let placed = c.loop-best.invariant.placed in
    let end : c.loop-best.done ≡ length key = c.if-done-len.true ∙ c.len.ensures in
    best_at_end c.loop-best.at key c.loop-best.done placed c.loop-best.invariant.inside c.loop-best.best c.if-has_pair.best
    (elim c.if-has_pair.branch [
      | then-has_pair w ↦ inl (w.if-has_pair.ensures, w.best-is)
      | else-has_pair w ↦ inr (w.if-has_pair.ensures, w.best-is)
    ])
    (λ o. FindsDeepestPair o c.args.node.now key c.args.depth) c.loop-best.invariant.nearest (end_stuck n key c.loop-best.done placed end)

pub returns-then-done-len-clause-nodes : goal.returns-then-done-len-clause-nodes
returns-then-done-len-clause-nodes g c =
    let n = c.loop-best.at.now in
    let key = c.args.list.now in
    let placed = c.loop-best.invariant.placed in
    let end : c.loop-best.done ≡ length key = c.if-done-len.true ∙ c.len.ensures in
    subst (λ k. Visits k c.args.node.now key c.args.depth) (no_more c.loop-best.cost.nodes) (c.loop-best.invariant.visits 0 (visits_here n key c.loop-best.done
    (end_stuck n key c.loop-best.done placed end)))

pub returns-then-done-len-clause-nibbles : goal.returns-then-done-len-clause-nibbles
returns-then-done-len-clause-nibbles g c =
    let n = c.loop-best.at.now in
    let key = c.args.list.now in
    let placed = c.loop-best.invariant.placed in
    let end : c.loop-best.done ≡ length key = c.if-done-len.true ∙ c.len.ensures in
    let all = count_end n key c.loop-best.done placed end in
    omega (arith, all, c.loop-best.invariant.count)

pub returns-in_default-clause-found : goal.returns-in_default-clause-found
returns-in_default-clause-found g c =
    let n = c.loop-best.at.now in
    let key = c.args.list.now in
    let placed = c.loop-best.invariant.placed in
    let lt : c.loop-best.done < length key = omega (arith, c.loop-best.invariant.inside, c.if-done-len.false, c.len.ensures) in
    c.loop-best.invariant.leads None (stuck_absent n key c.loop-best.done lt (none_stuck n key c.loop-best.done 0 placed c.in_default.ensures))

pub returns-in_default-clause-nearest : goal.returns-in_default-clause-nearest
returns-in_default-clause-nearest g c =
    let n = c.loop-best.at.now in
    let key = c.args.list.now in
    let placed = c.loop-best.invariant.placed in
    best_at_end c.loop-best.at key c.loop-best.done placed c.loop-best.invariant.inside c.loop-best.best c.if-has_pair.best
    (elim c.if-has_pair.branch [
      | then-has_pair w ↦ inl (w.if-has_pair.ensures, w.best-is)
      | else-has_pair w ↦ inr (w.if-has_pair.ensures, w.best-is)
    ])
    (λ o. FindsDeepestPair o c.args.node.now key c.args.depth) c.loop-best.invariant.nearest (none_stuck n key c.loop-best.done 0 placed c.in_default.ensures)

pub returns-in_default-clause-nodes : goal.returns-in_default-clause-nodes
returns-in_default-clause-nodes g c =
    let n = c.loop-best.at.now in
    let key = c.args.list.now in
    let placed = c.loop-best.invariant.placed in
    subst (λ k. Visits k c.args.node.now key c.args.depth) (no_more c.loop-best.cost.nodes) (c.loop-best.invariant.visits 0 (visits_here n key c.loop-best.done
    (none_stuck n key c.loop-best.done 0 placed c.in_default.ensures)))

pub returns-in_default-clause-nibbles : goal.returns-in_default-clause-nibbles
returns-in_default-clause-nibbles g c =
    let n = c.loop-best.at.now in
    let key = c.args.list.now in
    let placed = c.loop-best.invariant.placed in
    let none = count_none n key c.loop-best.done placed c.in_default.ensures in
    omega (arith, none, c.loop-best.invariant.count)

pub overflow_add-cost : goal.overflow_add-cost
overflow_add-cost g c =
    let n = c.loop-best.at.now in
    let key = c.args.list.now in
    let placed = c.loop-best.invariant.placed in
    let lt : c.loop-best.done < length key = omega (arith, c.loop-best.invariant.inside, c.if-done-len.false, c.len.ensures) in
    let part = count_most n key c.loop-best.done placed c.index-child.result.now.value c.in-Some.i c.in-Some.agreement lt c.in-Some.ensures c.index-child.result.now (sym c.index-child.ensures) refl in
    let most = walked_most (tree_of c.args.node.now).children (drop c.args.depth key) in
    let size = length-drop c.args.depth key in
    omega (arith, part, most, size, c.loop-best.invariant.count)

pub returns-then-agreement-len-clause-found : goal.returns-then-agreement-len-clause-found
returns-then-agreement-len-clause-found g c =
    let n = c.loop-best.at.now in
    let key = c.args.list.now in
    let placed = c.loop-best.invariant.placed in
    let lt : c.loop-best.done < length key = omega (arith, c.loop-best.invariant.inside, c.if-done-len.false, c.len.ensures) in
    c.loop-best.invariant.leads None (stuck_absent n key c.loop-best.done lt
    (met_off n key c.loop-best.done placed c.deref.result.now c.in-Some.i c.in-Some.agreement lt c.in-Some.ensures c.index-child.result.now (sym c.index-child.ensures) c.deref.ensures
    (λ z. c.if-agreement-len.true (z ∙ sym c.len-in-loop-best.ensures))))

pub returns-then-agreement-len-clause-nearest : goal.returns-then-agreement-len-clause-nearest
returns-then-agreement-len-clause-nearest g c =
    let n = c.loop-best.at.now in
    let key = c.args.list.now in
    let placed = c.loop-best.invariant.placed in
    let lt : c.loop-best.done < length key = omega (arith, c.loop-best.invariant.inside, c.if-done-len.false, c.len.ensures) in
    best_at_end c.loop-best.at key c.loop-best.done placed c.loop-best.invariant.inside c.loop-best.best c.if-has_pair.best
    (elim c.if-has_pair.branch [
      | then-has_pair w ↦ inl (w.if-has_pair.ensures, w.best-is)
      | else-has_pair w ↦ inr (w.if-has_pair.ensures, w.best-is)
    ])
    (λ o. FindsDeepestPair o c.args.node.now key c.args.depth) c.loop-best.invariant.nearest (met_off n key c.loop-best.done placed c.deref.result.now c.in-Some.i c.in-Some.agreement lt c.in-Some.ensures c.index-child.result.now (sym c.index-child.ensures) c.deref.ensures
    (λ z. c.if-agreement-len.true (z ∙ sym c.len-in-loop-best.ensures)))

pub returns-then-agreement-len-clause-nodes : goal.returns-then-agreement-len-clause-nodes
returns-then-agreement-len-clause-nodes g c =
    let n = c.loop-best.at.now in
    let key = c.args.list.now in
    let placed = c.loop-best.invariant.placed in
    let lt : c.loop-best.done < length key = omega (arith, c.loop-best.invariant.inside, c.if-done-len.false, c.len.ensures) in
    subst (λ k. Visits k c.args.node.now key c.args.depth) (no_more c.loop-best.cost.nodes) (c.loop-best.invariant.visits 0 (visits_here n key c.loop-best.done
    (met_off n key c.loop-best.done placed c.deref.result.now c.in-Some.i c.in-Some.agreement lt c.in-Some.ensures c.index-child.result.now (sym c.index-child.ensures) c.deref.ensures
    (λ z. c.if-agreement-len.true (z ∙ sym c.len-in-loop-best.ensures)))))

pub returns-then-agreement-len-clause-nibbles : goal.returns-then-agreement-len-clause-nibbles
returns-then-agreement-len-clause-nibbles g c =
    let n = c.loop-best.at.now in
    let key = c.args.list.now in
    let placed = c.loop-best.invariant.placed in
    let lt : c.loop-best.done < length key = omega (arith, c.loop-best.invariant.inside, c.if-done-len.false, c.len.ensures) in
    let stop = count_stop n key c.loop-best.done placed c.deref.result.now c.in-Some.i c.in-Some.agreement lt c.in-Some.ensures c.index-child.result.now (sym c.index-child.ensures) c.deref.ensures
    (λ z. c.if-agreement-len.true (z ∙ sym c.len-in-loop-best.ensures)) in
    omega (arith, stop, c.loop-best.invariant.count)

pub loop-best-smaller : goal.loop-best-smaller
loop-best-smaller g c =
    let n = c.loop-best.at.now in
    let key = c.args.list.now in
    let placed = c.loop-best.invariant.placed in
    let lt : c.loop-best.done < length key = omega (arith, c.loop-best.invariant.inside, c.if-done-len.false, c.len.ensures) in
    let m = c.deref-at.result.now in
    let a = c.in-Some.agreement in
    let is = sym c.index-child.ensures in
    let e : a.same ≡ length (fragment_of m) = c.if-agreement-len.false ∙ c.len-in-loop-best.ensures ∙ ap (λ k. length (fragment_of k)) (c.deref.ensures ∙ sym c.deref-at.ensures) in
    let s = met_down n key c.loop-best.done placed m c.in-Some.i a lt c.in-Some.ensures c.index-child.result.now is c.deref-at.ensures e in
    omega (arith, s.further, s.inside)

pub loop-best-preserved : goal.loop-best-preserved
loop-best-preserved g c =
    let n = c.loop-best.at.now in
    let key = c.args.list.now in
    let placed = c.loop-best.invariant.placed in
    let lt : c.loop-best.done < length key = omega (arith, c.loop-best.invariant.inside, c.if-done-len.false, c.len.ensures) in
    let m = c.deref-at.result.now in
    let a = c.in-Some.agreement in
    let is = sym c.index-child.ensures in
    let e : a.same ≡ length (fragment_of m) = c.if-agreement-len.false ∙ c.len-in-loop-best.ensures ∙ ap (λ k. length (fragment_of k)) (c.deref.ensures ∙ sym c.deref-at.ensures) in
    let s = met_down n key c.loop-best.done placed m c.in-Some.i a lt c.in-Some.ensures c.index-child.result.now is c.deref-at.ensures e in
    let count = count_step n key c.loop-best.done placed m c.in-Some.i a lt c.in-Some.ensures c.index-child.result.now is c.deref-at.ensures e in
    record {
      inside = s.inside;
      placed = down_placed n m key c.loop-best.done c.in-Some.i (c.loop-best.done + a.same) placed s c.index-child.result.now is c.deref-at.ensures;
      leads = λ r h. c.loop-best.invariant.leads r (match_implies r
          (λ free u d. free u (found_in_child n m key c.loop-best.done c.in-Some.i (c.loop-best.done + a.same) placed s c.index-child.result.now is c.deref-at.ensures u d))
          (λ x d. found_from_child n m key c.loop-best.done c.in-Some.i (c.loop-best.done + a.same) placed s c.index-child.result.now is c.deref-at.ensures _ d)
          h);
      nearest = best_through_child c.loop-best.at key c.loop-best.done placed c.loop-best.invariant.inside c.loop-best.best c.if-has_pair.best
          (elim c.if-has_pair.branch [
            | then-has_pair w ↦ inl (w.if-has_pair.ensures, w.best-is)
            | else-has_pair w ↦ inr (w.if-has_pair.ensures, w.best-is)
          ])
          (λ o. FindsDeepestPair o c.args.node.now key c.args.depth) c.loop-best.invariant.nearest
          m c.in-Some.i (c.loop-best.done + a.same) s c.index-child.result.now is c.deref-at.ensures;
      few = omega (arith, c.loop-best.invariant.few, s.further);
      visits = λ more v. subst (λ k. Visits k c.args.node.now key c.args.depth) (one_more c.loop-best.cost.nodes more)
          (c.loop-best.invariant.visits (suc more) (visits_through_child n m key c.loop-best.done c.in-Some.i (c.loop-best.done + a.same) placed s c.index-child.result.now is c.deref-at.ensures (suc more) v));
      count = omega (arith, count, c.loop-best.invariant.count);
    }
