use Rattle.std.proofs.Common.{◌∙◌, ap, sym, arith, length}
use Rattle.radix_nodes.specs.Nodes.{fragment_of}
use Rattle.radix_nodes.proofs.EditLemmas.Steps.{met_step, met_stuck, none_stuck}
use Rattle.radix_nodes.proofs.SearchLemmas.Deepest.{end_stuck}
use Rattle.radix_nodes.proofs.search.step.step.Goals as goal

pub overflow_add-result : goal.overflow_add-result
overflow_add-result g c =
    omega (arith, c.in-Some.ensures.fits)

pub returns-then-agreement-len : goal.returns-then-agreement-len
returns-then-agreement-len g c =
    met_step c.args.node.now c.args.list.now c.args.depth c.in-Some.i c.requires.placed c.in-Some.agreement c.index.result.now c.in-Some.ensures (omega (arith, c.requires.depth, c.if-depth-len.false, c.len.ensures)) (sym c.index.ensures)
    (c.if-agreement-len.true ∙ c.len-in-Some.ensures ∙ ap (λ m. length (fragment_of m)) c.deref.ensures)

pub returns-else-agreement-len : goal.returns-else-agreement-len
returns-else-agreement-len g c =
    met_stuck c.args.node.now c.args.list.now c.args.depth c.in-Some.i c.requires.placed c.in-Some.agreement c.index.result.now c.in-Some.ensures (omega (arith, c.requires.depth, c.if-depth-len.false, c.len.ensures)) (sym c.index.ensures)
    (λ e. c.if-agreement-len.false (e ∙ sym (c.len-in-Some.ensures ∙ ap (λ m. length (fragment_of m)) c.deref.ensures)))

pub returns-in-None : goal.returns-in-None
returns-in-None g c = none_stuck c.args.node.now c.args.list.now c.args.depth 0 c.requires.placed c.in-None.ensures

pub returns-then-depth-len : goal.returns-then-depth-len
returns-then-depth-len g c = end_stuck c.args.node.now c.args.list.now c.args.depth c.requires.placed (c.if-depth-len.true ∙ c.len.ensures)
