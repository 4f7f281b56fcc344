use Rattle.std.proofs.Common.{◌≡◌, ◌+◌, ◌-◌, ◌*◌, ◌/◌, ◌^◌, ap, arith, ◌∙◌}
use Rattle.std.proofs.Math.Nat.{div-mul-le_self}
use Rattle.std.proofs.lemmas.Nat.{mul-le}
use Rattle.frozen_routes.proofs.RouteLemmas.Directory.{quotient_less}
use Rattle.image_parts.specs.Parts.{u32_in}
use Rattle.flat_routes.specs.Images.{answer_in, bases, cell_in, sizes, span_count, start_in, width}
use Rattle.flat_routes.specs.SpanLaws.{starts_rise}
use Rattle.flat_routes.proofs.search.block_of.Goals.{then-block-last, else-block-last}
use Rattle.flat_routes.proofs.search.block_of.Goals as goal

-- in front of the first block
pub returns-in_default-block_at-clause-above : goal.returns-in_default-block_at-clause-above
returns-in_default-block_at-clause-above c = λ image k l m.
    let wide = c.args.wide in
    let bs = c.args.image.now in
    let some = c.in-Some.ensures in
    let of = image.cells 0 (omega (arith, some, c.requires.plan.cells)) in
    let cell : c.cell_at.result ≡ cell_in bs 0 = c.cell_at.ensures.value ∙ ap (λ p. u32_in bs (p + 0)) c.requires.plan.cells_at in
    let counted = ap (λ s. s.count) c.requires.plan.spans in
    let least = c.min.ensures in
    let up = starts_rise (width wide) (bases wide bs) (sizes wide bs) (start_in wide bs) (answer_in wide bs) (span_count wide bs) image.spans (cell_in bs 0 + 1) k (omega (arith, l, m, cell, least)) (omega (arith, m, counted)) in
    let to = of.to (omega (arith, l, cell, m, counted, least)) in
    let front = c.in_default-block_at.ensures in
    let low = c.requires.plan.low in
    omega (arith, up, to, low, front)

pub returns-clause-below : goal.returns-clause-below
returns-clause-below c = λ image k l.
    let wide = c.args.wide in
    let bs = c.args.image.now in
    let e = c.args.plan.cells.rest in
    let t = c.in-Some-block_at.block in
    let some = c.in-Some.ensures in
    let low_at = c.in-Some-block_at.ensures.0 in
    let least = c.in-Some-block_at.ensures.1 in
    let behind = c.args.number - c.args.plan.cells.low in
    let of = image.cells t (omega (arith, some, least, c.requires.plan.cells)) in
    let cell : c.cell_at-from.result ≡ cell_in bs t = c.cell_at-from.ensures.value ∙ ap (λ p. u32_in bs (p + 4 * t)) c.requires.plan.cells_at in
    let up = starts_rise (width wide) (bases wide bs) (sizes wide bs) (start_in wide bs) (answer_in wide bs) (span_count wide bs) image.spans k (cell_in bs t) (omega (arith, l, cell)) of.within in
    let from = of.from in
    let same = ap (λ n. t * 2 ^ n) c.requires.plan.rest in
    let block = mul-le t (2 ^ e) (behind / 2 ^ e) (2 ^ e) (omega (arith, least)) (omega arith) in
    let low = c.requires.plan.low in
    omega (arith, up, from, block, div-mul-le_self behind (2 ^ e), same, low, low_at)

pub returns-clause-above : goal.returns-clause-above
returns-clause-above c = λ image k l m. elim c.if-block-last.branch [
  | then-block-last w ↦ absurd (omega (arith, w.to-is, l, m))
  | else-block-last w ↦
      let wide = c.args.wide in
      let bs = c.args.image.now in
      let e = c.args.plan.cells.rest in
      let t = c.in-Some-block_at.block + 1 in
      let some = c.in-Some.ensures in
      let low_at = c.in-Some-block_at.ensures.0 in
      let least = c.in-Some-block_at.ensures.1 in
      let behind = c.args.number - c.args.plan.cells.low in
      let other = w.if-block-last in
      let of = image.cells t (omega (arith, some, least, other, c.requires.plan.cells)) in
      let cell : w.cell_at-else-block-last.result ≡ cell_in bs t = w.cell_at-else-block-last.ensures.value ∙ ap (λ p. u32_in bs (p + 4 * t)) c.requires.plan.cells_at in
      let counted = ap (λ s. s.count) c.requires.plan.spans in
      let to_is = w.to-is in
      let up = starts_rise (width wide) (bases wide bs) (sizes wide bs) (start_in wide bs) (answer_in wide bs) (span_count wide bs) image.spans (cell_in bs t + 1) k (omega (arith, l, cell, to_is)) (omega (arith, m, counted)) in
      let to = of.to (omega (arith, l, cell, m, counted, to_is)) in
      let same = ap (λ n. t * 2 ^ n) c.requires.plan.rest in
      let low = c.requires.plan.low in
      omega (arith, up, to, quotient_less behind t e (omega (arith, least, other)), same, low, low_at)
]
