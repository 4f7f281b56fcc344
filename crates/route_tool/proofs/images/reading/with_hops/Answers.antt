-- One more route, or the first row with no hop.
use Rattle.std.proofs.Common.{MatchOption, rules, arith, map as each, subst}
use Rattle.std.specs.List.{AllZip}
use Rattle.std.proofs.lemmas.List.{length-map, take_all}
use Rattle.flat_routes.specs.Images.{numbered_row}
use Rattle.route_tool.specs.RouteImages.{HasHopAt, IsHopAt, IsOpenedOf}
use Rattle.route_tool.proofs.RouteImageLemmas.{first_hopless, no_hops, one_opened}
use Rattle.route_tool.proofs.images.reading.with_hops.Goals as goal

pub loop-i-init : goal.loop-i-init
loop-i-init g c = record {
  room = search rules;
  count = search rules;
  routes = search rules;
  hops = no_hops c.args.own.now c.new-hops.result c.new-hops.ensures;
}

pub returns-in-Ok-None-clause-fault : goal.returns-in-Ok-None-clause-fault
returns-in-Ok-None-clause-fault g c =
    let own = c.args.own.now in
    let place = c.index-rows-i.result.1 in
    first_hopless g.A.Address.number c.args.own.now c.args.rows.now c.loop-i.i c.index-rows-i.result c.loop-i-test.true c.index-rows-i.is c.loop-i.routes.items c.loop-i.invariant.routes
    (subst (λ found. MatchOption found (HasHopAt own place → ⊥) (λ hop. IsHopAt own place hop)) c.in-Ok-None.field-0-is c.in-Ok-None.ensures.hop)

pub loop-i-preserved : goal.loop-i-preserved
loop-i-preserved g c =
    let before = c.loop-i.invariant in
    let own = c.args.own.now in
    let place = c.index-rows-i.result.1 in
    let is = subst (λ found. MatchOption found (HasHopAt own place → ⊥) (λ hop. IsHopAt own place hop)) c.in-Ok-Some.field-0-is c.in-Ok-Some.ensures.hop in
    record {
      room = omega (arith, c.push_reserved.ensures.capacity, before.room);
      count = omega (arith, c.push_reserved.ensures.len, before.count);
      routes = one_opened g.A.Address.number c.args.own.now c.args.rows.now c.loop-i.i c.index-rows-i.result c.loop-i-test.true c.index-rows-i.is c.loop-i.routes.items before.routes
          c.push_reserved.new.self.items c.in-Ok-Some.hop is c.push_reserved.ensures.items;
      hops = c.in-Ok-Some.ensures.hops;
    }

pub returns-clause-routes : goal.returns-clause-routes
returns-clause-routes g c =
    let number = g.A.Address.number in
    subst (AllZip (IsOpenedOf number c.args.own.now) c.loop-i.routes.items)
    (take_all c.loop-i.i (each (numbered_row number) c.args.rows.now) (omega (arith, length-map c.args.rows.now (numbered_row number), c.loop-i-test.false))) c.loop-i.invariant.routes
