use Rattle.std.proofs.Common.{sym, arith}
use Rattle.std.proofs.lemmas.List.{get_or_past}
use Rattle.flat_routes.specs.Images.{bases}
use Rattle.flat_routes.proofs.ImageLemmas.{length-firsts}
use Rattle.flat_routes.proofs.rows.first_of_all.Goals as goal

pub returns-then-plan-eq0 : goal.returns-then-plan-eq0
returns-then-plan-eq0 c = record {
  value = sym (get_or_past (bases c.args.wide c.args.image.now) 0 0 (omega (arith, length-firsts c.args.wide c.args.image.now, c.requires.rows, c.if-plan-eq0.true)));
}
