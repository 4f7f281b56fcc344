use Rattle.std.proofs.Common.{◌≡◌, ◌<◌, arith, length, get_or, subst, sym, ◌∙◌}
use Rattle.std.specs.Prelude.{MatchOption}
use Rattle.flat_routes.specs.Images.{HasNoTurn, IsTurn, bases, sizes, width}
use Rattle.flat_routes.proofs.ImageLemmas.{all_rise, length-firsts}
use Rattle.flat_routes.proofs.SpanLemmas.{turned}
use Rattle.flat_routes.proofs.turns.turn.Goals as goal

pub returns : goal.returns
returns c = record {
  turn = λ a begun.
      let w = width c.args.wide in
      let fs = bases c.args.wide c.args.image.now in
      let bs = sizes c.args.wide c.args.image.now in
      let all : length fs ≡ c.args.plan.rows = length-firsts c.args.wide c.args.image.now ∙ sym c.requires.plan.rows in
      let rising = all_rise w fs bs c.args.plan.rows c.requires.linked.next (omega (arith, all)) in
      let next = subst (λ n. MatchOption c.next_first-next.result (c.args.begun.count ≡ n) (λ f. (c.args.begun.count < n) × (f ≡ get_or fs c.args.begun.count 0))) (sym all) c.next_first-next.ensures in
      subst (λ o. MatchOption o (HasNoTurn w fs bs a c.args.begun.around) (IsTurn w fs bs a c.args.begun.around)) (sym c.earlier.ensures)
      (turned w fs bs rising a c.args.begun.count c.args.begun.around begun.count begun.around c.next_first-next.result c.end_at-end.result next c.end_at-end.ensures);
}
