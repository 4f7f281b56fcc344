use Rattle.std.proofs.Common.{◌-◌, inl, inr, arith, get_or}
use Rattle.std.proofs.lemmas.Bool.{cases_lt}
use Rattle.frozen_routes.specs.Routes.{IsLastHolder}
use Rattle.frozen_routes.proofs.RouteLemmas.Blocks.{sandwich}
use Rattle.flat_routes.specs.Images.{bases, links, sizes, width}
use Rattle.flat_routes.proofs.ImageLemmas.{linked_less, none_of_none}
use Rattle.flat_routes.proofs.search.follow_on.Goals as goal

pub returns-clause-last : goal.returns-clause-last
returns-clause-last c = λ a le linked first most last.
    let w = width c.args.wide in
    let fs = bases c.args.wide c.args.image.now in
    let bs = sizes c.args.wide c.args.image.now in
    let before = c.args.before in
    let few = linked_less w fs bs (links c.args.wide c.args.image.now) before.around c.args.from linked (omega (arith, c.requires.around, c.requires.order)) in
    let up = c.follow_parents-around.ensures.last few (λ k l. most k (omega (arith, l, c.requires.around, c.requires.order))) (none_of_none w fs bs c.args.number) in
    let floor : IsLastHolder w fs bs before.count c.args.number c.follow_parents-around.result = record {
      within = omega (arith, c.follow_parents-around.ensures.within, c.requires.around);
      holds = up.holds;
      none = λ k l m p. elim (cases_lt k before.around) [
        | inl lt ↦ up.none k l lt p
        | inr ge ↦ last.none k ge m (sandwich (get_or fs k 0) a c.args.number (w - get_or bs k 0) (first k m) le p)
      ];
    } in
    c.follow_parents.ensures.last linked most floor
