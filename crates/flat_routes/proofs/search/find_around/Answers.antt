use Rattle.std.proofs.Common.{◌-◌, ◌<◌, arith, get_or, subst, sym}
use Rattle.frozen_routes.specs.Routes.{IsLastHolder}
use Rattle.frozen_routes.proofs.RouteLemmas.Links.{around_on}
use Rattle.flat_routes.specs.Images.{IsImage, bases, sizes, width}
use Rattle.flat_routes.proofs.ImageLemmas.{length-firsts, length-links}
use Rattle.flat_routes.proofs.search.find_around.Goals as goal

pub up-preserved : goal.up-preserved
up-preserved c =
    let wide = c.args.wide in
    let bs = c.args.image.now in
    let w = width wide in
    let at = c.up.at in
    let link = c.link_at-link.result in
    let had = c.up.invariant in
    let within = had.within in
    let counted = c.requires.plan.rows.rows in
    let some : 0 < at = omega (arith, c.if-at-gt0.true) in
    let next = λ (image : IsImage wide bs).
    let up = subst (IsLastHolder w (bases wide bs) (sizes wide bs) (at - 1) (get_or (bases wide bs) (at - 1) 0)) (sym c.link_at-link.ensures) (image.linked (at - 1) (omega (arith, some, within, counted, length-links wide bs))) in
    around_on w (bases wide bs) (sizes wide bs) c.args.number c.args.bits c.args.plan.rows.rows at link image.rising some (omega (arith, within, counted, length-firsts wide bs)) (had.holds image some)
    (omega (arith, c.bits_at.ensures, c.if-bits_at-bits.true)) (had.none image) up in
    record {
      within = omega (arith, within, c.if-link-at.false);
      holds = λ image. (next image).0;
      none = λ image. (next image).1;
    }

pub returns-else-bits_at-bits-clause-last : goal.returns-else-bits_at-bits-clause-last
returns-else-bits_at-bits-clause-last c = λ image. record {
  within = c.up.invariant.within;
  holds = λ some. (c.up.invariant.holds image some, omega (arith, c.bits_at.ensures, c.if-bits_at-bits.false));
  none = c.up.invariant.none image;
}

pub returns-after-up-clause-last : goal.returns-after-up-clause-last
returns-after-up-clause-last c = λ image. record {
  within = c.up.invariant.within;
  holds = λ some.
      let wide = c.args.wide in
      let bs = c.args.image.now in
      let base = image.rising.bases (c.up.at - 1) (omega (arith, some, c.up.invariant.within, c.requires.plan.rows.rows, length-firsts wide bs)) in
      let most = base.1 in
      (c.up.invariant.holds image some, omega (arith, most, c.bits_of.ensures.value, c.up-test.false));
  none = c.up.invariant.none image;
}

pub returns-else-at-gt0-clause-last : goal.returns-else-at-gt0-clause-last
returns-else-at-gt0-clause-last c = λ image. record {
  within = c.up.invariant.within;
  holds = λ some. absurd (omega (arith, some, c.if-at-gt0.false));
  none = c.up.invariant.none image;
}

pub returns-then-link-at-clause-last : goal.returns-then-link-at-clause-last
returns-then-link-at-clause-last c = λ image.
    let at = c.up.at in
    let within = c.up.invariant.within in
    let link = image.linked (at - 1) (omega (arith, c.if-at-gt0.true, within, c.requires.plan.rows.rows, length-links c.args.wide c.args.image.now)) in
    let less = link.within in
    absurd (omega (arith, less, c.link_at-link.ensures, c.if-link-at.true, c.if-at-gt0.true))
