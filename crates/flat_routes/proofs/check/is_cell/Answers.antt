use Rattle.std.proofs.Common.{◌≡◌, ℕ, ◌+◌, ◌*◌, ◌^◌, ◌≤◌, inl, inr, ap, arith, ◌∙◌}
use Rattle.std.proofs.lemmas.Bool.{cases_lt, eq-eqb, eqb-true}
use Rattle.image_parts.specs.Parts.{u32_in}
use Rattle.flat_routes.specs.Images.{cell_in, low_of, rest_of, span_plan, start_size}
use Rattle.flat_routes.proofs.SpanLemmas.{start_fits}
use Rattle.flat_routes.proofs.check.is_cell.Goals as goal

pub returns-in_default : goal.returns-in_default
returns-in_default c =
    let wide = c.args.wide in
    let bs = c.args.image.now in
    let at = c.args.at in
    let spans = span_plan wide bs in
    let fits = λ (i : ℕ). start_fits wide spans.is_half bs (spans.at + (start_size wide spans.is_half + 4) * i) (λ k. c.type_inv.image k) in
    let counted = ap (λ s. s.count) c.requires.plan.spans in
    let cell : c.cell_at-span.result ≡ cell_in bs at = c.cell_at-span.ensures.value ∙ ap (λ p. u32_in bs (p + 4 * at)) c.requires.plan.cells_at in
    let same = ap (λ e. at * 2 ^ e) c.requires.plan.rest in
    let low = c.requires.plan.low in
    let past : 2 ^ 128 ≤ low_of wide bs + at * 2 ^ rest_of bs = omega (arith, c.in_default.ensures, same, low) in (
      λ yes. let last = eqb-true _ _ yes in record {
        within = omega (arith, c.if-span-plan.false, cell, counted);
        from = (let few = fits (cell_in bs at) in omega (arith, few, past));
        to = λ more. absurd (omega (arith, more, last, cell, counted));
      },
      λ of. eq-eqb _ _ (elim (cases_lt (cell_in bs at + 1) spans.count) [
        | inl lt ↦ let to = of.to lt in let few = fits (cell_in bs at + 1) in absurd (omega (arith, to, few, past))
        | inr ge ↦ let within = of.within in omega (arith, ge, within, cell, counted)
      ]),
    )
