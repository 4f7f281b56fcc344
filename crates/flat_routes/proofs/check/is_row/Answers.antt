use Rattle.std.proofs.Common.{arith, get_or, subst, sym, ◌∙◌}
use Rattle.std.proofs.lemmas.Bool.{eq-eqb, eqb-true}
use Rattle.frozen_routes.specs.Routes.{IsLastHolder}
use Rattle.flat_routes.specs.Images.{bases, links, sizes, width}
use Rattle.flat_routes.proofs.ImageLemmas.{at_most_next, linked_more, none_of_none, one_last}
use Rattle.flat_routes.proofs.check.is_row.Goals as goal

pub returns : goal.returns
returns c =
    let w = width c.args.wide in
    let fs = bases c.args.wide c.args.image.now in
    let bs = sizes c.args.wide c.args.image.now in
    let parents = links c.args.wide c.args.image.now in
    let at = c.args.at in
    let next = c.is_next.ensures.0 c.if-not-is_next.false in
    let most = at_most_next w fs bs parents at c.requires.before next in
    let holder = subst (λ a. IsLastHolder w fs bs at a c.follow_parents-link.result) c.first_at-first.ensures.value
    (c.follow_parents-link.ensures.last c.requires.before (λ k l. let le = most k l in omega (arith, le, c.first_at-first.ensures.value)) (none_of_none w fs bs c.first_at-first.result)) in (
      λ yes. linked_more w fs bs parents at c.requires.before next (subst (IsLastHolder w fs bs at (get_or fs at 0)) (eqb-true _ _ yes ∙ c.link_at.ensures) holder),
      λ linked. eq-eqb _ _ (one_last _ at _ _ holder (linked.links at (omega arith)) ∙ sym c.link_at.ensures),
    )
