use Rattle.std.proofs.Common.{arith}
use Rattle.std.proofs.lemmas.List.{length-map}
use Rattle.frozen_routes.specs.Routes.{base_numbers, bit_counts}
use Rattle.frozen_routes.proofs.RouteLemmas.Directory.{before_next, cells_more}
use Rattle.frozen_routes.proofs.directory.Directory.filled.Goals as goal

pub loop-first-preserved : goal.loop-first-preserved
loop-first-preserved g c =
    let number = g.A.Address.number in
    let rows = c.args.rows.now in
    let fs = base_numbers number rows in
    let e = c.args.self.rest in
    let t = c.loop-first.first in
    let top = c.cell_at-cell.ensures in
    let more = cells_more e g.A.Address.BITS fs (bit_counts rows) c.loop-first.cells.items c.push_reserved.new.self.items t c.cell_at-cell.result c.loop-first.invariant.cells c.loop-first.invariant.many top
    c.push_reserved.ensures.items in
    record {
      many = more.0;
      len = omega (arith, c.push_reserved.ensures.len, c.loop-first.invariant.len);
      room = omega (arith, c.push_reserved.ensures.capacity, c.loop-first.invariant.room);
      cells = more.1;
      within = omega (arith, top.count.within, length-map rows (λ r. number r.0.base));
      below = before_next e fs t c.cell_at-cell.result.count top.count;
    }

pub cell_at-cell-requires-clause-rising : goal.cell_at-cell-requires-clause-rising
cell_at-cell-requires-clause-rising g c = c.requires.rising

pub cell_at-cell-requires-clause-links : goal.cell_at-cell-requires-clause-links
cell_at-cell-requires-clause-links g c = c.requires.links

pub cell_at-cell-requires-clause-below : goal.cell_at-cell-requires-clause-below
cell_at-cell-requires-clause-below g c = c.loop-first.invariant.below
