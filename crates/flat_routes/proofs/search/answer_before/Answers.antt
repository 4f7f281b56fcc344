use Rattle.std.proofs.Common.{◌≡◌, ◌-◌, ◌≤◌, ap, arith, length, subst, sym, ◌∙◌}
use Rattle.frozen_routes.specs.Routes.{IsLastHolder}
use Rattle.sorted_tables.specs.Tables.{IsPartedAt}
use Rattle.flat_routes.specs.declared.head.SpanPlan.{SpanPlan}
use Rattle.flat_routes.specs.Images.{answer_in, answer_of, bases, sizes, span_count, start_in, width}
use Rattle.flat_routes.proofs.ImageLemmas.{length-firsts, longest}
use Rattle.flat_routes.proofs.SpanLemmas.{span_counted}
use Rattle.flat_routes.proofs.search.answer_before.Goals as goal

pub returns-then-count-eq0-clause-row : goal.returns-then-count-eq0-clause-row
returns-then-count-eq0-clause-row c = λ a fits image known.
    let wide = c.args.wide in
    let bs = c.args.image.now in
    let n = c.args.count in
    let counted = ap (λ (s : SpanPlan). s.count) c.requires.plan.spans in
    let parted = subst (λ m. IsPartedAt (λ k. start_in wide bs k ≤ a) (λ k. start_in wide bs k ≤ a → ⊥) m n) counted known in
    let some = image.spans.some in
    let first = (image.spans.each 0 some).first (omega arith) in
    absurd (parted.after 0 (omega (arith, c.if-count-eq0.true)) some (omega (arith, first)))

pub returns-then-count-eq0-clause-last : goal.returns-then-count-eq0-clause-last
returns-then-count-eq0-clause-last c = λ a fits image known.
    let wide = c.args.wide in
    let bs = c.args.image.now in
    let n = c.args.count in
    let counted = ap (λ (s : SpanPlan). s.count) c.requires.plan.spans in
    let parted = subst (λ m. IsPartedAt (λ k. start_in wide bs k ≤ a) (λ k. start_in wide bs k ≤ a → ⊥) m n) counted known in
    let some = image.spans.some in
    let first = (image.spans.each 0 some).first (omega arith) in
    absurd (parted.after 0 (omega (arith, c.if-count-eq0.true)) some (omega (arith, first)))

pub returns-then-found-plan-clause-row : goal.returns-then-found-plan-clause-row
returns-then-found-plan-clause-row c = λ a fits image known.
    let wide = c.args.wide in
    let bs = c.args.image.now in
    let n = c.args.count in
    let counted = ap (λ (s : SpanPlan). s.count) c.requires.plan.spans in
    let parted = subst (λ m. IsPartedAt (λ k. start_in wide bs k ≤ a) (λ k. start_in wide bs k ≤ a → ⊥) m n) counted known in
    let of = span_counted (start_in wide bs) (span_count wide bs) a n parted (omega (arith, c.if-count-eq0.false)) in
    let last = (image.spans.each (n - 1) of.within).answer a fits of in
    let answer : c.answer_at-found.result ≡ answer_in wide bs (n - 1) = c.answer_at-found.ensures ∙ ap (λ s. answer_of wide s bs (n - 1)) c.requires.plan.spans in
    let most = last.within in
    absurd (omega (arith, most, answer, c.if-found-plan.true, length-firsts wide bs, c.requires.plan.rows.rows))

pub returns-then-found-plan-clause-last : goal.returns-then-found-plan-clause-last
returns-then-found-plan-clause-last c = λ a fits image known.
    let wide = c.args.wide in
    let bs = c.args.image.now in
    let n = c.args.count in
    let counted = ap (λ (s : SpanPlan). s.count) c.requires.plan.spans in
    let parted = subst (λ m. IsPartedAt (λ k. start_in wide bs k ≤ a) (λ k. start_in wide bs k ≤ a → ⊥) m n) counted known in
    let of = span_counted (start_in wide bs) (span_count wide bs) a n parted (omega (arith, c.if-count-eq0.false)) in
    let last = (image.spans.each (n - 1) of.within).answer a fits of in
    let answer : c.answer_at-found.result ≡ answer_in wide bs (n - 1) = c.answer_at-found.ensures ∙ ap (λ s. answer_of wide s bs (n - 1)) c.requires.plan.spans in
    let most = last.within in
    absurd (omega (arith, most, answer, c.if-found-plan.true, length-firsts wide bs, c.requires.plan.rows.rows))

pub returns-clause-last : goal.returns-clause-last
returns-clause-last c = λ a fits image known.
    let wide = c.args.wide in
    let bs = c.args.image.now in
    let n = c.args.count in
    let counted = ap (λ (s : SpanPlan). s.count) c.requires.plan.spans in
    let parted = subst (λ m. IsPartedAt (λ k. start_in wide bs k ≤ a) (λ k. start_in wide bs k ≤ a → ⊥) m n) counted known in
    let of = span_counted (start_in wide bs) (span_count wide bs) a n parted (omega (arith, c.if-count-eq0.false)) in
    let last = (image.spans.each (n - 1) of.within).answer a fits of in
    let answer : c.answer_at-found.result ≡ answer_in wide bs (n - 1) = c.answer_at-found.ensures ∙ ap (λ s. answer_of wide s bs (n - 1)) c.requires.plan.spans in
    let all : length (bases wide bs) ≡ c.args.plan.rows.rows = length-firsts wide bs ∙ sym c.requires.plan.rows.rows in
    subst (λ m. IsLastHolder (width wide) (bases wide bs) (sizes wide bs) m a c.answer_at-found.result) all
    (subst (IsLastHolder (width wide) (bases wide bs) (sizes wide bs) (length (bases wide bs)) a) (sym answer) last)

pub returns-clause-row : goal.returns-clause-row
returns-clause-row c = λ a fits image known.
    let wide = c.args.wide in
    let bs = c.args.image.now in
    let n = c.args.count in
    let counted = ap (λ (s : SpanPlan). s.count) c.requires.plan.spans in
    let parted = subst (λ m. IsPartedAt (λ k. start_in wide bs k ≤ a) (λ k. start_in wide bs k ≤ a → ⊥) m n) counted known in
    let of = span_counted (start_in wide bs) (span_count wide bs) a n parted (omega (arith, c.if-count-eq0.false)) in
    let last = (image.spans.each (n - 1) of.within).answer a fits of in
    let answer : c.answer_at-found.result ≡ answer_in wide bs (n - 1) = c.answer_at-found.ensures ∙ ap (λ s. answer_of wide s bs (n - 1)) c.requires.plan.spans in
    longest wide bs a c.answer_at-found.result image (subst (IsLastHolder (width wide) (bases wide bs) (sizes wide bs) (length (bases wide bs)) a) (sym answer) last)
