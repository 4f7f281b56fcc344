-- The least list of the numbered routes, and its rows.
use Rattle.std.proofs.Common.{◌<◌, [], length, sym, subst}
use Rattle.std.specs.List.{All, AllZip}
use Rattle.least_routes.specs.Routes as numbers
use Rattle.least_routes.proofs.LeastLemmas.{IsLeast}
use Rattle.route_tool.specs.Numbers.{IsRowOf}
use Rattle.route_tool.specs.Routes.{in_order}
use Rattle.route_tool.proofs.AggregateLemmas.{numbered_table, chosen_fit, is_aggregate}
use Rattle.route_tool.proofs.NumberLemmas.{still_numbered}
use Rattle.route_tool.proofs.aggregate.aggregate.Goals as goal

pub least-requires-clause-table : goal.least-requires-clause-table
least-requires-clause-table g c =
    let w = g.A.Address.BITS in
    let number = g.A.Address.number in
    let m = c.args.routes.now in
    let xs = c.deref.result.now in
    let hops = c.in_ok-numbered.hops.items in
    let are = still_numbered number c.rest.result (in_order m) c.in_ok-numbered.numbered.items xs hops c.rest.ensures.walk c.deref.ensures.value c.in_ok-numbered.ensures in
    subst (λ v. numbers.IsTable v xs) (sym c.BITS.ensures) (numbered_table w number m c.rest.ensures.networks xs [] hops are)

pub rows_of-requires-clause-hops : goal.rows_of-requires-clause-hops
rows_of-requires-clause-hops g c =
    let w = g.A.Address.BITS in
    let number = g.A.Address.number in
    let m = c.args.routes.now in
    let xs = c.deref.result.now in
    let hops = c.in_ok-numbered.hops.items in
    let are = still_numbered number c.rest.result (in_order m) c.in_ok-numbered.numbered.items xs hops c.rest.ensures.walk c.deref.ensures.value c.in_ok-numbered.ensures in
    subst (All (λ x. x.hop < length c.deref-3.result.now)) (sym c.deref-2.ensures.value)
    (subst (λ hs. All (λ x. x.hop < length hs) c.in_ok-chosen.chosen.items) (sym c.deref-3.ensures.value)
    (chosen_fit w number m c.rest.ensures.networks xs c.in_ok-chosen.chosen.items hops are c.in_ok-chosen.ensures.hops))

pub returns : goal.returns
returns g c =
    let w = g.A.Address.BITS in
    let number = g.A.Address.number in
    let m = c.args.routes.now in
    let xs = c.deref.result.now in
    let hops = c.in_ok-numbered.hops.items in
    let out = c.in_ok-chosen.chosen.items in
    let rows = c.in_ok-rows_of.field-0.items in
    let are = still_numbered number c.rest.result (in_order m) c.in_ok-numbered.numbered.items xs hops c.rest.ensures.walk c.deref.ensures.value c.in_ok-numbered.ensures in
    let found : IsLeast w xs out =
    subst (λ v. IsLeast v xs out) c.BITS.ensures
    (record { same = c.in_ok-chosen.ensures.same; least = c.in_ok-chosen.ensures.least; table = c.in_ok-chosen.ensures.table; hops = c.in_ok-chosen.ensures.hops }) in
    let zip : AllZip (IsRowOf number hops) rows out =
    subst (AllZip (IsRowOf number hops) rows) c.deref-2.ensures.value (subst (λ hs. AllZip (IsRowOf number hs) rows c.deref-2.result.now) c.deref-3.ensures.value c.in_ok-rows_of.ensures) in
    is_aggregate w number m c.rest.ensures.networks xs out hops are rows found zip
