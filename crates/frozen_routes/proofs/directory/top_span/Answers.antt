use Rattle.std.proofs.Common.{◌+◌, ◌/◌, ◌^◌, ◌<◌, length, arith, refl}
use Rattle.std.proofs.lemmas.List.{length-map}
use Rattle.std.proofs.lemmas.Option.{slice_get_read}
use Rattle.frozen_routes.specs.Routes.{base_numbers}
use Rattle.frozen_routes.proofs.RouteLemmas.Directory.{top_above, top_around, top_below, top_order}
use Rattle.frozen_routes.proofs.directory.top_span.Goals as goal

pub returns-then-first-last : goal.returns-then-first-last
returns-then-first-last g c =
    let rows = c.args.rows.now in
    let fs = base_numbers g.A.Address.number rows in
    let all = length-map rows (λ r. g.A.Address.number r.0.base) in
    let e = c.args.directory.now.rest in
    let t = c.args.number / 2 ^ e in
    let cells = c.args.directory.now.cells.items in
    let here : t < length cells = omega (arith, c.if-first-last.true, c.saturating_sub-last.ensures) in
    let after : t + 1 < length cells = omega (arith, c.if-first-last.true, c.saturating_sub-last.ensures) in
    let first = c.requires.cells t c.index.result.now (slice_get_read cells (length cells) t c.index.result.now refl here c.index.ensures) in
    let next = (c.requires.cells (t + 1) c.index-then-first-last.result.now (slice_get_read cells (length cells) (t + 1) c.index-then-first-last.result.now refl after c.index-then-first-last.ensures)).count in
    record {
      order = top_order e fs t _ _ first.count next;
      within = omega (arith, all, next.within);
      below = λ k l. top_below e fs c.args.number t _ k first.count refl l;
      above = λ k l m. top_above e fs c.args.number t _ k next refl l (omega (arith, all, m));
      around = top_around e g.A.Address.BITS fs _ t c.args.number _ first refl;
    }
