-- One more route has its number.
use Rattle.std.proofs.Common.{◌∙◌, ap, option_map, refl, sym, subst}
use Rattle.radix_trie.specs.Walks.{deref_pair}
use Rattle.route_tool.proofs.ListedLemmas.{none_left}
use Rattle.route_tool.proofs.NumberLemmas.{AreBegun, no_places, none_begun, one_more, are_numbered}
use Rattle.route_tool.proofs.RouteImageLemmas.{first_is}
use Rattle.route_tool.proofs.aggregate.numbered.Goals as goal

pub loop-rest-init : goal.loop-rest-init
loop-rest-init g c = record {
  places = no_places c.new-numbers.result c.new-hops.result.items c.new-numbers.ensures;
  begun = none_begun g.A.Address.number c.new-numbers.result c.args.rest c.args.rest c.new-routes.result.items refl c.new-routes.ensures.items;
}

pub loop-rest-preserved : goal.loop-rest-preserved
loop-rest-preserved g c =
    let number = g.A.Address.number in
    record {
      places = c.in_ok-hop.ensures.places;
      begun = one_more number c.loop-rest.numbers c.number_of.new.numbers c.args.rest c.loop-rest.rest c.next.new.self (c.in-Some.network.now, c.in-Some.hop.now)
          (record { base = c.to_number.result; bits = c.bits.result; hop = c.in_ok-hop.hop }) c.loop-rest.routes.items c.push.new.self.items c.loop-rest.invariant.begun
          c.in_ok-hop.ensures.kept (first_is c.loop-rest.rest c.next.new.self (c.in-Some.network.now, c.in-Some.hop.now) (sym c.in_ok-network.ensures.pair ∙ ap (option_map deref_pair) c.in-Some.is) c.in_ok-network.ensures.rest)
          (record { base = ap number (sym c.base.ensures.value) ∙ sym c.to_number.ensures.value; bits = sym c.bits.ensures; hop = c.in_ok-hop.ensures.number }) c.in_ok-push.ensures.items;
    }

pub returns : goal.returns
returns g c =
    let number = g.A.Address.number in
    are_numbered number c.loop-rest.numbers c.loop-rest.hops.items c.args.rest c.loop-rest.routes.items c.loop-rest.invariant.places
    (subst (λ rest. AreBegun number c.loop-rest.numbers c.args.rest rest c.loop-rest.routes.items) (none_left c.loop-rest.rest (sym c.in_ok-network.ensures.pair ∙ ap (option_map deref_pair) c.in_default.is)) c.loop-rest.invariant.begun)
