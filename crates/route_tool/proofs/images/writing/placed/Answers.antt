-- One more route has its row.
use Rattle.std.proofs.Common.{◌∙◌, [], ap, arith, length, option_map, refl, subst, sym}
use Rattle.std.specs.List.{AllZip}
use Rattle.radix_trie.specs.Walks.{deref_pair}
use Rattle.route_tool.specs.RouteImages.{IsWrittenRow}
use Rattle.route_tool.proofs.RouteImageLemmas.{first_is, none_laid, one_row, size_after}
use Rattle.route_tool.proofs.images.writing.placed.Goals as goal

pub loop-rows-init : goal.loop-rows-init
loop-rows-init g c = record {
  laid = none_laid c.new-places.result c.new-own.result.items c.new-places.ensures c.new-own.ensures.items;
  size = omega (arith, ap length c.new-own.ensures.items);
  begun = ([], refl, subst (AllZip (IsWrittenRow c.new-own.result.items) []) (sym c.new-rows.ensures.items) tt);
}

pub loop-rows-preserved : goal.loop-rows-preserved
loop-rows-preserved g c =
    let before = c.loop-rows.invariant in
    let next =
    first_is c.loop-rows.rest c.next.new.self (c.in-Some.network.now, c.in-Some.hop.now) (sym c.in_ok-network.ensures.pair ∙ ap (option_map deref_pair) c.in-Some.is) c.in_ok-network.ensures.rest in
    record {
      laid = c.in_ok-place.ensures.laid;
      size = omega (arith, size_after c.loop-rows.rest c.next.new.self (c.in-Some.network.now, c.in-Some.hop.now) next, c.in_ok-place.ensures.size, before.size);
      begun = one_row c.loop-rows.own.items c.place_of.new.own.items c.args.rest c.loop-rows.rest c.next.new.self (c.in-Some.network.now, c.in-Some.hop.now) (c.in-Some.network.now, c.in_ok-place.place)
          c.loop-rows.rows.items c.push.new.self.items before.begun c.in_ok-place.ensures.kept next (record { network = refl; hop = c.in_ok-place.ensures.place }) c.in_ok-push.ensures.items;
    }
