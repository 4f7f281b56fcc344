use Rattle.std.proofs.Common.{◌≡◌, ◌+◌, ◌-◌, ◌<◌, ◌≤◌, inl, inr, Result, Ok, Err, IsOk, IsErr, ap, get_or, length, refl, arith, subst}
use Rattle.image_parts.specs.declared.errors.ImageError.TheVariants.{Cell, Row, Span}
use Rattle.std.proofs.lemmas.Bool.{cases_lt}
use Rattle.frozen_routes.specs.Routes.{IsLastHolder}
use Rattle.image_parts.specs.Parts.{row_count}
use Rattle.flat_routes.specs.declared.head.SpanPlan.{SpanPlan}
use Rattle.flat_routes.specs.Faults.{AreRowsRight, IsCellRight, IsSpanRightIn}
use Rattle.flat_routes.specs.Images.{bases, sizes, start_in, width}
use Rattle.flat_routes.proofs.ImageLemmas.{all_rise, length-firsts, length-links, no_fault, none_of_none}
use Rattle.flat_routes.proofs.check.check.Goals as goal

apart : {T E : Type 0} (r : Result T E) → IsErr r → IsOk r → ⊥
apart (Ok x) e o = cc e
apart (Err x) e o = cc o

pub returns-in_err-plan-clause-image : goal.returns-in_err-plan-clause-image
returns-in_err-plan-clause-image c = (
  λ ok. absurd (apart _ c.from_residual.ensures.0 ok),
  λ image. absurd (no_fault c.args.wide c.args.image.now _ c.in_err-plan.ensures.fault image),
)

pub returns-then-not-is_row-clause-fault : goal.returns-then-not-is_row-clause-fault
returns-then-not-is_row-clause-fault c = record {
  head = c.in_ok-plan.ensures.plan.head;
  parts = c.in_ok-plan.ensures.parts;
  within = omega (arith, c.loop-at-test.true, c.in_ok-plan.ensures.plan.rows.rows);
  before = c.loop-at.invariant;
  wrong = λ right. let yes = c.is_row.ensures.1 right in let no = c.if-not-is_row.true in cc (yes, no);
}

pub returns-then-not-is_row-clause-image : goal.returns-then-not-is_row-clause-image
returns-then-not-is_row-clause-image c = (
  λ e. absurd (cc e),
  λ image. absurd (no_fault c.args.wide c.args.image.now (Row c.loop-at.at) (returns-then-not-is_row-clause-fault c) image),
)

pub right_span-requires-clause-linked : goal.right_span-requires-clause-linked
right_span-requires-clause-linked c =
    let all : c.loop-at.at ≡ c.in_ok-plan.plan.rows.rows = omega (arith, c.loop-at.auto.at-end, c.loop-at-test.false) in
    subst (AreRowsRight c.args.wide c.args.image.now) all c.loop-at.invariant

pub right_span-requires-clause-order : goal.right_span-requires-clause-order
right_span-requires-clause-order c =
    let wide = c.args.wide in
    let bytes = c.args.image.now in
    let i = c.loop-span.span in
    elim (cases_lt 0 i) [
      | inl some ↦
          let counted = ap (λ (s : SpanPlan). s.count) c.in_ok-plan.ensures.plan.spans in
          let next = (c.loop-span.invariant.right (i - 1) (omega (arith, some))).next (omega (arith, some, c.loop-span-test.true, counted)) in
          let here : i - 1 + 1 ≡ i = omega (arith, some) in
          let same = ap (λ j. start_in wide bytes j) here in
          omega (arith, next, same)
      | inr none ↦
          let here : i - 1 ≡ i = omega (arith, none) in
          let same = ap (λ j. start_in wide bytes j) here in
          omega (arith, same)
    ]

pub loop-span-init : goal.loop-span-init
loop-span-init c = record {
  right = λ i l. absurd (omega (arith, l));
  count = omega arith;
  begun = λ k l. absurd (omega (arith, l));
  last = none_of_none _ _ _ _;
}

pub loop-span-preserved : goal.loop-span-preserved
loop-span-preserved c =
    let wide = c.args.wide in
    let bytes = c.args.image.now in
    let i = c.loop-span.span in
    let back : i ≡ i + 1 - 1 = omega arith in
    let begun = c.in-Some.ensures.begun in
    record {
      right = λ j l. elim (cases_lt j i) [
        | inl lt ↦ c.loop-span.invariant.right j lt
        | inr ge ↦ let same : i ≡ j = omega (arith, l, ge) in subst (IsSpanRightIn wide bytes) same c.in-Some.ensures.right
      ];
      count = c.in-Some.ensures.count;
      begun = subst (λ s. (k : _) → k < c.in-Some.begun.count → get_or (bases wide bytes) k 0 ≤ start_in wide bytes s) back begun.count.before;
      last = subst (λ s. IsLastHolder (width wide) (bases wide bytes) (sizes wide bytes) c.in-Some.begun.count (start_in wide bytes s) c.in-Some.begun.around) back begun.around;
    }

pub returns-in-None-clause-fault : goal.returns-in-None-clause-fault
returns-in-None-clause-fault c =
    let wide = c.args.wide in
    let bytes = c.args.image.now in
    let counted = ap (λ (s : SpanPlan). s.count) c.in_ok-plan.ensures.plan.spans in
    let all : c.loop-at.at ≡ row_count bytes = omega (arith, c.loop-at.auto.at-end, c.loop-at-test.false, c.in_ok-plan.ensures.plan.rows.rows) in
    record {
      head = c.in_ok-plan.ensures.plan.head;
      parts = c.in_ok-plan.ensures.parts;
      rows = subst (AreRowsRight wide bytes) all c.loop-at.invariant;
      within = omega (arith, c.loop-span-test.true, counted);
      before = c.loop-span.invariant.right;
      wrong = c.in-None.ensures.right;
    }

pub returns-in-None-clause-image : goal.returns-in-None-clause-image
returns-in-None-clause-image c = (
  λ e. absurd (cc e),
  λ image. absurd (no_fault c.args.wide c.args.image.now (Span c.loop-span.span) (returns-in-None-clause-fault c) image),
)

pub returns-then-not-is_cell-clause-fault : goal.returns-then-not-is_cell-clause-fault
returns-then-not-is_cell-clause-fault c =
    let wide = c.args.wide in
    let bytes = c.args.image.now in
    let counted = ap (λ (s : SpanPlan). s.count) c.in_ok-plan.ensures.plan.spans in
    let all : c.loop-at.at ≡ row_count bytes = omega (arith, c.loop-at.auto.at-end, c.loop-at-test.false, c.in_ok-plan.ensures.plan.rows.rows) in
    record {
      head = c.in_ok-plan.ensures.plan.head;
      parts = c.in_ok-plan.ensures.parts;
      rows = subst (AreRowsRight wide bytes) all c.loop-at.invariant;
      spans = λ j l. c.loop-span.invariant.right j (omega (arith, l, c.loop-span-test.false, counted));
      within = omega (arith, c.loop-cell-test.true, c.in_ok-plan.ensures.plan.cells);
      before = λ s l. c.loop-cell.invariant s l;
      wrong = λ right. let yes = c.is_cell.ensures.1 right in let no = c.if-not-is_cell.true in cc (yes, no);
    }

pub returns-then-not-is_cell-clause-image : goal.returns-then-not-is_cell-clause-image
returns-then-not-is_cell-clause-image c = (
  λ e. absurd (cc e),
  λ image. absurd (no_fault c.args.wide c.args.image.now (Cell c.loop-cell.cell) (returns-then-not-is_cell-clause-fault c) image),
)

pub loop-cell-preserved : goal.loop-cell-preserved
loop-cell-preserved c = λ t l. elim (cases_lt t c.loop-cell.cell) [
  | inl lt ↦ c.loop-cell.invariant t lt
  | inr ge ↦
      let same : c.loop-cell.cell ≡ t = omega (arith, l, ge) in
      subst (IsCellRight c.args.wide c.args.image.now) same (c.is_cell.ensures.0 c.if-not-is_cell.false)
]

pub returns-clause-image : goal.returns-clause-image
returns-clause-image c = (
  λ ok.
      let w = width c.args.wide in
      let bytes = c.args.image.now in
      let fs = bases c.args.wide bytes in
      let bs = sizes c.args.wide bytes in
      let plan = c.in_ok-plan.ensures.plan in
      let counted = ap (λ (s : SpanPlan). s.count) plan.spans in
      let all = length-firsts c.args.wide bytes in
      let end : length fs ≤ c.loop-at.at = omega (arith, all, plan.rows.rows, c.loop-at-test.false) in
      let spans_part = c.in_ok-plan.ensures.parts 1 (omega arith) in
      let cells_part = c.in_ok-plan.ensures.parts 2 (omega arith) in
      record {
        head = plan.head;
        plain = (c.in_ok-plan.ensures.parts 0 (omega arith)).plain;
        whole_spans = spans_part.whole;
        whole_cells = cells_part.whole;
        rising = all_rise w fs bs c.loop-at.at c.loop-at.invariant.next end;
        linked = λ k l. c.loop-at.invariant.links k (omega (arith, l, length-links c.args.wide bytes, all, end));
        spans = record { some = spans_part.some; each = λ i l. c.loop-span.invariant.right i (omega (arith, l, c.loop-span-test.false, counted)) };
        cells = λ t l. c.loop-cell.invariant t (omega (arith, l, c.loop-cell-test.false, plan.cells));
      },
  λ image. refl,
)
