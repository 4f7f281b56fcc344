use Rattle.std.proofs.Common.{◌≡◌, ◌-◌, get_or, map as each, sym, subst, ◌∙◌, refl, arith}
use Rattle.frozen_routes.specs.Routes.{IsEarlier, base_numbers, bit_counts}
use Rattle.radix_keys.specs.Networks.{IsBase}
use Rattle.flat_routes.specs.Images.{width}
use Rattle.flat_routes.proofs.WriteLemmas.{after_by, base_by, next_by, shown_at}
use Rattle.flat_routes.proofs.writing.is_in_place.Goals as goal

pub returns-then-not-is_base : goal.returns-then-not-is_base
returns-then-not-is_base g c =
    let shown = g.R.FlatRow.shown in
    let rows = c.args.rows.now in
    let at = c.args.at in
    let first = shown_at shown (λ r. r.0.base) rows at c.index-rows-at.result c.requires c.index-rows-at.is ∙ sym c.first-first.ensures.value in
    let size = shown_at shown (λ r. r.0.bits) rows at c.index-rows-at-2.result c.requires c.index-rows-at-2.is ∙ sym c.bits-bits.ensures in (
      λ e. absurd (cc e),
      λ next.
          let yes = c.is_base.ensures.1 (subst (λ w. IsBase (width w) c.bits-bits.result c.first-first.result) (sym c.WIDE.ensures)
          (base_by (width g.R.FlatRow.WIDE) _ _ at c.first-first.result c.bits-bits.result first size next)) in
          let no = c.if-not-is_base.true in
          cc (yes, no),
    )

pub returns-then-at-eq0 : goal.returns-then-at-eq0
returns-then-at-eq0 g c =
    let shown = g.R.FlatRow.shown in
    let rows = c.args.rows.now in
    let at = c.args.at in
    let first = shown_at shown (λ r. r.0.base) rows at c.index-rows-at.result c.requires c.index-rows-at.is ∙ sym c.first-first.ensures.value in
    let size = shown_at shown (λ r. r.0.bits) rows at c.index-rows-at-2.result c.requires c.index-rows-at-2.is ∙ sym c.bits-bits.ensures in (
      λ e. next_by (width g.R.FlatRow.WIDE) _ _ at c.first-first.result c.bits-bits.result first size
          (subst (λ w. IsBase (width w) c.bits-bits.result c.first-first.result) c.WIDE.ensures (c.is_base.ensures.0 c.if-not-is_base.false))
          (λ some. absurd (omega (arith, some, c.if-at-eq0.true))),
      λ next. refl,
    )

pub returns : goal.returns
returns g c =
    let shown = g.R.FlatRow.shown in
    let rows = c.args.rows.now in
    let at = c.args.at in
    let fs = base_numbers (λ n. n) (each shown rows) in
    let bs = bit_counts (each shown rows) in
    let first = shown_at shown (λ r. r.0.base) rows at c.index-rows-at.result c.requires c.index-rows-at.is ∙ sym c.first-first.ensures.value in
    let size = shown_at shown (λ r. r.0.bits) rows at c.index-rows-at-2.result c.requires c.index-rows-at-2.is ∙ sym c.bits-bits.ensures in
    let last : get_or fs (at - 1) 0 ≡ c.first.result =
    shown_at shown (λ r. r.0.base) rows (at - 1) c.index-rows-at-3.result (omega arith) c.index-rows-at-3.is ∙ sym c.first.ensures.value in
    let count : get_or bs (at - 1) 0 ≡ c.bits.result =
    shown_at shown (λ r. r.0.bits) rows (at - 1) c.index-rows-at-3.result (omega arith) c.index-rows-at-3.is ∙ sym c.bits.ensures in (
      λ yes. next_by (width g.R.FlatRow.WIDE) fs bs at c.first-first.result c.bits-bits.result first size
          (subst (λ w. IsBase (width w) c.bits-bits.result c.first-first.result) c.WIDE.ensures (c.is_base.ensures.0 c.if-not-is_base.false))
          (λ some. subst (λ x. IsEarlier x (get_or bs (at - 1) 0) c.first-first.result c.bits-bits.result) (sym last)
          (subst (λ y. IsEarlier c.first.result y c.first-first.result c.bits-bits.result) (sym count) (c.is_earlier.ensures.0 yes))),
      λ next. c.is_earlier.ensures.1 (after_by (width g.R.FlatRow.WIDE) fs bs at c.first-first.result c.bits-bits.result _ _ first size last count next (omega (arith, c.if-at-eq0.false))),
    )
