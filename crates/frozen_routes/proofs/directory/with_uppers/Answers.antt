use Rattle.std.proofs.Common.{arith}
use Rattle.frozen_routes.specs.Routes.{base_numbers}
use Rattle.frozen_routes.proofs.RouteLemmas.Directory.{uppers_more}
use Rattle.frozen_routes.proofs.directory.with_uppers.Goals as goal

pub loop-at-preserved : goal.loop-at-preserved
loop-at-preserved g c =
    let fs = base_numbers g.A.Address.number c.args.rows.now in
    let more = uppers_more fs c.loop-at.uppers.items c.push_reserved.new.self.items c.loop-at.at _ c.loop-at.invariant.uppers c.loop-at.invariant.many c.first_at.ensures c.push_reserved.ensures.items in
    record {
      many = more.0;
      len = omega (arith, c.push_reserved.ensures.len, c.loop-at.invariant.len);
      room = omega (arith, c.push_reserved.ensures.capacity, c.loop-at.invariant.room);
      uppers = more.1;
    }
