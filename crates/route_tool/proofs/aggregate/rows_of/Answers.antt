-- One more row is that of one more route.
use Rattle.std.proofs.Common.{arith, ◌∙◌}
use Rattle.route_tool.specs.Numbers.{IsRowOf}
use Rattle.route_tool.proofs.AggregateLemmas.{rows_more}
use Rattle.route_tool.proofs.aggregate.rows_of.Goals as goal

pub loop-route-preserved : goal.loop-route-preserved
loop-route-preserved g c =
    let before = c.loop-route.invariant in
    record {
      room = c.push_reserved.ensures.capacity ∙ before.room;
      count = omega (arith, c.push_reserved.ensures.len, before.count);
      rows = rows_more (IsRowOf g.A.Address.number c.args.hops.now) c.loop-route.rows.items c.push_reserved.new.self.items c.args.routes.now c.loop-route.route-index c.row_of.result
          (record { base = 0; bits = 0; hop = 0 }) c.loop-route-test.true c.push_reserved.ensures.items before.rows c.row_of.ensures;
    }
