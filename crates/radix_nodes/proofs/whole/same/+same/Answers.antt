use Rattle.std.proofs.Common.{arith, ◌∙◌, sym}
use Rattle.radix_nodes.specs.Nodes.{out_of}
use Rattle.radix_nodes.specs.SameValues.{same_values}
use Rattle.radix_nodes.proofs.CopyLemmas.Same.{fragments_differ, pairs_differ, children_differ, all_same, same_boxes-other_length, same_boxes-next_child, same_boxes-at_ends, true_by_negation, false_by_negation}
use Rattle.radix_nodes.proofs.whole.same.+same.Goals as goal

pub returns-then-ne : goal.returns-then-ne
returns-then-ne g t c = fragments_differ (same_values {K = g.row.K.Denot} g.V.PartialEq.eq) c.args.left.now c.args.right.now (false_by_negation _ (sym c.if-ne.true ∙ c.ne.ensures))

pub returns-then-not-pairs_match : goal.returns-then-not-pairs_match
returns-then-not-pairs_match g t c =
    pairs_differ (same_values {K = g.row.K.Denot} g.V.PartialEq.eq) c.args.left.now c.args.right.now (sym c.pairs_match.ensures ∙ c.if-not-pairs_match.true)

pub returns-then-len : goal.returns-then-len
returns-then-len g t c =
    let eq = same_values {K = g.row.K.Denot} g.V.PartialEq.eq in
    let xs = (out_of c.args.left.now).children in
    let ys = (out_of c.args.right.now).children in
    children_differ eq c.args.left.now c.args.right.now (same_boxes-other_length eq xs.items ys.items (λ e. omega (arith, e, xs.ok.0, ys.ok.0)))

pub returns-then-not-same : goal.returns-then-not-same
returns-then-not-same g t c =
    let eq = same_values {K = g.row.K.Denot} g.V.PartialEq.eq in
    let xs = (out_of c.args.left.now).children in
    let ys = (out_of c.args.right.now).children in
    children_differ eq c.args.left.now c.args.right.now
    (same_boxes-next_child eq xs.items ys.items c.loop-i.i c.index.result.now c.index-in-loop-i.result.now c.deref.result.now c.deref-in-loop-i.result.now c.same.result _
    (omega (arith, xs.ok.0)) (omega (arith, xs.ok.0, ys.ok.0)) c.index.ensures c.index-in-loop-i.ensures c.deref.ensures c.deref-in-loop-i.ensures c.same.ensures c.if-not-same.true c.loop-i.invariant)

pub loop-i-preserved : goal.loop-i-preserved
loop-i-preserved g t c =
    let eq = same_values {K = g.row.K.Denot} g.V.PartialEq.eq in
    let xs = (out_of c.args.left.now).children in
    let ys = (out_of c.args.right.now).children in
    same_boxes-next_child eq xs.items ys.items c.loop-i.i c.index.result.now c.index-in-loop-i.result.now c.deref.result.now c.deref-in-loop-i.result.now c.same.result _
    (omega (arith, xs.ok.0)) (omega (arith, xs.ok.0, ys.ok.0)) c.index.ensures c.index-in-loop-i.ensures c.deref.ensures c.deref-in-loop-i.ensures c.same.ensures c.if-not-same.false c.loop-i.invariant

pub returns : goal.returns
returns g t c =
    let eq = same_values {K = g.row.K.Denot} g.V.PartialEq.eq in
    let xs = (out_of c.args.left.now).children in
    let ys = (out_of c.args.right.now).children in
    all_same eq c.args.left.now c.args.right.now (true_by_negation _ (sym c.if-ne.false ∙ c.ne.ensures)) (sym c.pairs_match.ensures ∙ c.if-not-pairs_match.false)
    (same_boxes-at_ends eq xs.items ys.items c.loop-i.i (omega (arith, xs.ok.0)) (omega (arith, ys.ok.0, xs.ok.0)) c.loop-i.invariant)
