use Rattle.std.proofs.Common.{ℕ, Bor, ◌-◌, ◌<◌, ◌≤◌, arith, ap, sym, subst, ◌∙◌, drop, take}
use Rattle.masked_tree.specs.Tree.{plain}
use Rattle.nibble_map.specs.Trees.{IsFull}
use Rattle.radix_nodes.specs.declared.trie_node.TrieNode.{TrieNode, out-TrieNode}
use Rattle.radix_nodes.specs.Nodes.{children_of, tree_of}
use Rattle.radix_nodes.proofs.NodeLemmas.Nodes.{children-tree_of}
use Rattle.radix_trie.specs.Walks.{LeadsOn, bound_now, past}
use Rattle.radix_trie.proofs.WalkLemmas.Spans.{apart, full-part, nothing, past-most, same-child, same-depth}
use Rattle.radix_trie.proofs.iter.span.parting.part.Goals as goal
use Rattle.radix_trie.proofs.iter.span.parting.part.Goals.{in_default-via-in-Some+else-from-last, in_default-via-in_default}

pub returns-then-first-to-clause-pairs : goal.returns-then-first-to-clause-pairs
returns-then-first-to-clause-pairs g c =
    let n = c.loop-below.at.now in
    let done = c.loop-below.done in
    let row = (out-TrieNode g.row.K.Denot g.row.V.Denot n).children in
    sym c.loop-below.invariant.same
    ∙ apart (bound_now c.args.low) (bound_now c.args.high) done (tree_of n) row.items (children-tree_of n) _ _ _ _ _ (omega (arith, c.len.ensures, row.ok.0)) c.cut-from.ensures.parts c.cut-to.ensures.parts (omega (arith, c.cut-from.ensures.past, c.if-first-to.true)) _ _ c.own_within.ensures
    (ap (λ bs. take (c.cut-to.result.0 - c.cut-from.result.1) (drop c.cut-from.result.1 bs)) c.deref.ensures.value
    ∙ ap (λ f. take (c.cut-to.result.0 - f) (drop f row.items)) c.cut-from.ensures.past)

pub returns-then-first-to-clause-row : goal.returns-then-first-to-clause-row
returns-then-first-to-clause-row g c =
    full-part c.cut-from.result.1 (c.cut-to.result.0 - c.cut-from.result.1) c.deref.result.now
    (subst (λ bs. IsFull (plain (children_of bs))) (sym c.deref.ensures.value) (subst (λ k. IsFull (plain k)) (children-tree_of c.loop-below.at.now) c.loop-below.invariant.full))

pub loop-below-preserved : goal.loop-below-preserved
loop-below-preserved g c =
    let n = c.loop-below.at.now in
    let done = c.loop-below.done in
    let row = (out-TrieNode g.row.K.Denot g.row.V.Denot n).children in
    let low = bound_now c.args.low in
    let high = bound_now c.args.high in
    let leads = subst (LeadsOn low (tree_of n)) c.in-Some.is c.cut-from.ensures.leads in
    let crossed : c.cut-to.result.0 < past c.cut-from.result.0 c.cut-from.result.2 = omega (arith, c.cut-from.ensures.past, c.if-first-to.false) in
    let reaches : c.cut-from.result.0 < past c.cut-to.result.0 c.cut-to.result.2 = omega (arith, c.cut-to.ensures.past, c.if-from-last.true) in
    let way : Bor (TrieNode g.row.K.Denot g.row.V.Denot) × ℕ = (c.in-Some.child, c.in-Some.next) in
    record {
      low = leads.0;
      high = same-depth low high done (tree_of n) row.items (children-tree_of n) _ _ _ _ _ (omega (arith, c.len.ensures, row.ok.0)) c.cut-from.ensures.parts c.cut-to.ensures.parts way crossed c.in-Some.is reaches c.cut-to.ensures.leads;
      placed = leads.1;
      full = leads.2;
      same = same-child low high done (tree_of n) row.items (children-tree_of n) _ _ _ _ _ (omega (arith, c.len.ensures, row.ok.0)) c.cut-from.ensures.parts c.cut-to.ensures.parts way crossed c.in-Some.is reaches ∙ c.loop-below.invariant.same;
      lower = omega (arith, leads.3, c.loop-below.invariant.lower);
    }

pub returns-in_default-clause-pairs : goal.returns-in_default-clause-pairs
returns-in_default-clause-pairs g c =
    let n = c.loop-below.at.now in
    let done = c.loop-below.done in
    let row = (out-TrieNode g.row.K.Denot g.row.V.Denot n).children in
    let low = bound_now c.args.low in
    let high = bound_now c.args.high in
    let over : past c.cut-to.result.0 c.cut-to.result.2 ≤ c.cut-from.result.0 = elim c.in_default.branch [
      | in_default-via-in-Some+else-from-last w ↦ omega (arith, c.cut-to.ensures.past, w.if-from-last.false)
      | in_default-via-in_default w ↦ omega (arith, c.cut-from.ensures.past, c.if-first-to.false, past-most c.cut-to.result.0 c.cut-to.result.2, ap (past c.cut-from.result.0) w.in_default.is)
    ] in
    sym c.loop-below.invariant.same
    ∙ sym (nothing low high done (tree_of n) row.items (children-tree_of n) _ _ _ _ _ (omega (arith, c.len.ensures, row.ok.0)) c.cut-from.ensures.parts c.cut-to.ensures.parts (omega (arith, c.cut-from.ensures.past, c.if-first-to.false)) over)
