-- The hop that was made for the place, or one more.
use Rattle.std.proofs.Common.{◌≡◌, ◌∙◌, Some, ap, option_copied, subst, sym}
use Rattle.std.specs.Int.{w64}
use Rattle.nibble_map.specs.Maps.{value_at}
use Rattle.radix_keys.specs.Integers.{unsigned_key}
use Rattle.route_tool.specs.RouteImages.{IsHopAt}
use Rattle.route_tool.proofs.RouteImageLemmas.{hops_more}
use Rattle.route_tool.proofs.images.reading.hop_of.Goals as goal

pub returns-in-Some-clause-hop : goal.returns-in-Some-clause-hop
returns-in-Some-clause-hop c =
    let stored : value_at c.args.hops.now (unsigned_key w64 c.args.place) ≡ Some c.in-Some.hop.now = sym c.in_ok-hop.ensures.value ∙ ap option_copied c.in-Some.is in
    subst (IsHopAt c.args.own.now c.args.place) (sym c.in_ok-clone.ensures.cases) (c.requires c.args.place c.in-Some.hop.now c.ranges.place.fits stored)

pub returns-in-Ok-clause-hops : goal.returns-in-Ok-clause-hops
returns-in-Ok-clause-hops c =
    let own = c.args.own.now in
    let same : c.in_ok-clone-2.field-0 ≡ c.in-Some-hop_at.line.now = c.in_ok-clone-2.ensures.cases ∙ c.in_ok-hop-2.ensures in
    hops_more own c.args.hops.now c.insert.new.self c.args.place c.in_ok-clone-2.field-0 c.ranges.place.fits (subst (IsHopAt own c.args.place) (sym same) c.in-Some-hop_at.ensures)
    c.in-Ok.ensures.stored c.requires
