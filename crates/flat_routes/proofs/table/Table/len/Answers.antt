use Rattle.std.proofs.Common.{sym, ◌∙◌}
use Rattle.flat_routes.proofs.ImageLemmas.{length-rows}
use Rattle.flat_routes.proofs.table.Table.len.Goals as goal

pub returns-clause-count : goal.returns-clause-count
returns-clause-count g c = rw (← c.self.view_is) (c.self.invariant.rows.rows ∙ sym (length-rows g.A.Family.WIDE c.self.inside.image.now))
