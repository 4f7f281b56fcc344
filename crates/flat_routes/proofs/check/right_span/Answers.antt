use Rattle.std.proofs.Common.{◌≡◌, ◌+◌, ◌-◌, ◌<◌, ◌≤◌, ap, arith, subst, sym, ◌∙◌}
use Rattle.std.specs.Prelude.{IfSome}
use Rattle.flat_routes.specs.Images.{IsKnownAt, answer_in, answer_of, bases, sizes, span_count, start_in, begin_of, width}
use Rattle.flat_routes.specs.declared.head.SpanPlan.{SpanPlan}
use Rattle.flat_routes.proofs.ImageLemmas.{all_rise, length-firsts}
use Rattle.flat_routes.proofs.SpanLemmas.{right_answer, right_end, span_right}
use Rattle.flat_routes.proofs.check.right_span.Goals as goal

pub returns-then-begun-answer_at-clause-right : goal.returns-then-begun-answer_at-clause-right
returns-then-begun-answer_at-clause-right c = λ right.
    let wide = c.args.wide in
    let img = c.args.image.now in
    let w = width wide in
    let fs = bases wide img in
    let bs = sizes wide img in
    let at = c.args.at in
    let is = c.requires.plan.spans in
    let start : c.start_at-start.result ≡ start_in wide img at = c.start_at-start.ensures.value ∙ ap (λ s. begin_of wide s img at) is in
    let counted = ap (λ (s : SpanPlan). s.count) is in
    let rising = all_rise w fs bs c.args.plan.rows.rows c.requires.linked.next (omega (arith, length-firsts wide img, c.requires.plan.rows.rows)) in
    let known = subst (λ a. IsKnownAt w fs bs a c.begun_at-begun.result) start
    (c.begun_at-begun.ensures.begun (start_in wide img (at - 1)) (omega (arith, c.requires.order, start)) c.requires.begun c.requires.last) in
    let same = right_answer w fs bs (start_in wide img) (answer_in wide img) (span_count wide img) at rising c.begun_at-begun.result known
    (omega (arith, c.requires.within, counted)) (omega (arith, c.start_at-start.ensures.fits, start)) right in
    c.if-begun-answer_at.true (same ∙ sym (c.answer_at.ensures ∙ ap (λ s. answer_of wide s img at) is))

pub returns-then-not-ends_by-clause-right : goal.returns-then-not-ends_by-clause-right
returns-then-not-ends_by-clause-right c = λ right.
    let wide = c.args.wide in
    let img = c.args.image.now in
    let w = width wide in
    let fs = bases wide img in
    let bs = sizes wide img in
    let at = c.args.at in
    let end = c.turn-end.result in
    let is = c.requires.plan.spans in
    let start : c.start_at-start.result ≡ start_in wide img at = c.start_at-start.ensures.value ∙ ap (λ s. begin_of wide s img at) is in
    let counted = ap (λ (s : SpanPlan). s.count) is in
    let known = subst (λ a. IsKnownAt w fs bs a c.begun_at-begun.result) start
    (c.begun_at-begun.ensures.begun (start_in wide img (at - 1)) (omega (arith, c.requires.order, start)) c.requires.begun c.requires.last) in
    let same : c.begun_at-begun.result.around ≡ answer_in wide img at = c.if-begun-answer_at.false ∙ c.answer_at.ensures ∙ ap (λ s. answer_of wide s img at) is in
    let ends = right_end w fs bs (start_in wide img) (answer_in wide img) (span_count wide img) at c.begun_at-begun.result.around end (c.turn-end.ensures.turn (start_in wide img at) known)
    (omega (arith, c.requires.within, counted)) same right in
    let yes = c.ends_by.ensures.1 (subst (λ (s : SpanPlan). IfSome end (λ t. (at + 1 < s.count) × (begin_of wide s img (at + 1) ≤ t))) (sym is) ends) in
    let no = c.if-not-ends_by.true in
    cc (yes, no)

pub returns-clause-right : goal.returns-clause-right
returns-clause-right c =
    let wide = c.args.wide in
    let img = c.args.image.now in
    let w = width wide in
    let fs = bases wide img in
    let bs = sizes wide img in
    let at = c.args.at in
    let end = c.turn-end.result in
    let is = c.requires.plan.spans in
    let start : c.start_at-start.result ≡ start_in wide img at = c.start_at-start.ensures.value ∙ ap (λ s. begin_of wide s img at) is in
    let known = subst (λ a. IsKnownAt w fs bs a c.begun_at-begun.result) start
    (c.begun_at-begun.ensures.begun (start_in wide img (at - 1)) (omega (arith, c.requires.order, start)) c.requires.begun c.requires.last) in
    let same : c.begun_at-begun.result.around ≡ answer_in wide img at = c.if-begun-answer_at.false ∙ c.answer_at.ensures ∙ ap (λ s. answer_of wide s img at) is in
    let order = subst (λ (s : SpanPlan). (at ≡ 0 → begin_of wide s img 0 ≡ 0) × (at + 1 < s.count → begin_of wide s img at < begin_of wide s img (at + 1))) is
    (c.is_in_order.ensures.0 c.if-not-is_in_order.false) in
    let ends = subst (λ (s : SpanPlan). IfSome end (λ t. (at + 1 < s.count) × (begin_of wide s img (at + 1) ≤ t))) is (c.ends_by.ensures.0 c.if-not-ends_by.false) in
    span_right w fs bs (start_in wide img) (answer_in wide img) (span_count wide img) at c.begun_at-begun.result.around end (c.turn-end.ensures.turn (start_in wide img at) known)
    order.0 order.1 same ends

pub returns-clause-begun : goal.returns-clause-begun
returns-clause-begun c =
    let wide = c.args.wide in
    let img = c.args.image.now in
    let at = c.args.at in
    let start : c.start_at-start.result ≡ start_in wide img at = c.start_at-start.ensures.value ∙ ap (λ s. begin_of wide s img at) c.requires.plan.spans in
    subst (λ a. IsKnownAt (width wide) (bases wide img) (sizes wide img) a c.begun_at-begun.result) start
    (c.begun_at-begun.ensures.begun (start_in wide img (at - 1)) (omega (arith, c.requires.order, start)) c.requires.begun c.requires.last)
