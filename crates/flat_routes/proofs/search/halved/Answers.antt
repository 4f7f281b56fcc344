use Rattle.std.proofs.Common.{◌≡◌, ℕ, ◌+◌, ◌-◌, ◌/◌, ◌<◌, ◌≤◌, Bool, if◌then◌else◌, inl, inr, ap, arith, subst, sym, ◌∙◌}
use Rattle.std.proofs.lemmas.Bool.{cases_lt, le-leb, lt-leb}
use Rattle.flat_routes.specs.declared.head.SpanPlan.{SpanPlan}
use Rattle.flat_routes.specs.Images.{IsImage, answer_in, bases, sizes, span_count, start_in, begin_of, width}
use Rattle.flat_routes.specs.SpanLaws.{IsCountedBy, starts_rise}
use Rattle.flat_routes.proofs.SpanLemmas.{counted_back, counted_on}
use Rattle.flat_routes.proofs.search.halved.Goals as goal

pub returns : goal.returns
returns c = λ here.
    let wide = c.args.wide in
    let bs = c.args.image.now in
    let starts = start_in wide bs in
    let m = c.args.plan.spans.count in
    let a = c.args.number in
    let from = c.args.from in
    let left = c.args.left in
    let some = c.requires.some in
    let next = c.select_unpredictable.result in
    let chosen = c.select_unpredictable.ensures in
    let counted = ap (λ (s : SpanPlan). s.count) c.requires.plan.spans in
    let start : c.start_at.result ≡ starts (from + (left - left / 2) - 1) = c.start_at.ensures.value ∙ ap (λ s. begin_of wide s bs (from + (left - left / 2) - 1)) c.requires.plan.spans in
    let rise : IsImage wide bs → (j k : ℕ) → j ≤ k → k < m → starts j ≤ starts k = λ h j k l lt. starts_rise (width wide) (bases wide bs) (sizes wide bs) starts (answer_in wide bs) (span_count wide bs) h.spans j k l (omega (arith, lt, counted)) in
    let is_next = λ (b : Bool). next ≡ (if b then from + (left - left / 2) else from) in
    elim (cases_lt a c.start_at.result) [
      | inl gt ↦
          let is : next ≡ from = subst is_next (lt-leb c.start_at.result a gt) chosen in
          subst (λ f. IsCountedBy starts (IsImage wide bs) m a f (left / 2)) (sym is) (counted_back starts (IsImage wide bs) m a from left rise some (omega (arith, start, gt)) here)
      | inr le ↦
          let is : next ≡ from + (left - left / 2) = subst is_next (le-leb c.start_at.result a le) chosen in
          subst (λ f. IsCountedBy starts (IsImage wide bs) m a f (left / 2)) (sym is) (counted_on starts (IsImage wide bs) m a from left rise some (omega (arith, start, le)) here)
    ]
