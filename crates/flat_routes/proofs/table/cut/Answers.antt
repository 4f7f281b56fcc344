use Rattle.std.proofs.Common.{◌≡◌, length, subst, sym, ◌∙◌}
use Rattle.sorted_tables.specs.Tables.{IsPartedAt}
use Rattle.frozen_routes.specs.Routes.{AreInFront}
use Rattle.flat_routes.specs.declared.columns.Within.{Within}
use Rattle.flat_routes.specs.Images.{bases, sizes, width}
use Rattle.flat_routes.specs.RowLaws.{AreSorted, FirstRows, IsFrontIn}
use Rattle.flat_routes.proofs.ImageLemmas.{all_sorted, length-firsts}
use Rattle.flat_routes.proofs.table.cut.Goals as goal

pub returns-clause-front : goal.returns-clause-front
returns-clause-front c = λ image.
    let wide = c.args.wide in
    let bs = c.args.image.now in
    let n = c.args.plan.rows in
    let w = width wide in
    let within : Within = record { bits = c.args.bits; quotient = c.first_bits.result; is_through = c.args.is_through } in
    let parted = subst (λ (r : FirstRows). IsPartedAt (IsFrontIn r within) (λ k. IsFrontIn r within k → ⊥) r.rows c.count_in_front.result)
    c.first-rows.ensures (c.count_in_front.ensures.count (subst AreSorted (sym c.first-rows.ensures) (all_sorted wide bs n image c.requires.plan.rows))) in
    let all : n ≡ length (bases wide bs) = c.requires.plan.rows ∙ sym (length-firsts wide bs) in
    subst (λ q. AreInFront w c.args.is_through c.args.bits q (bases wide bs) (sizes wide bs) c.count_in_front.result) c.first_bits.ensures
    (subst (λ m. IsPartedAt (IsFrontIn (record { wide = wide; bytes = bs; rows = n }) within) (λ k. IsFrontIn (record { wide = wide; bytes = bs; rows = n }) within k → ⊥) m c.count_in_front.result) all parted)
