-- A hop has its place already, or is given the one behind all others.
use Rattle.std.proofs.Common.{◌∙◌, ap, option_copied, sym}
use Rattle.nibble_map.specs.Maps.{value_at}
use Rattle.nibble_map.specs.Nibbles.{nibbles}
use Rattle.route_tool.proofs.RouteImageLemmas.{one_laid}
use Rattle.route_tool.proofs.images.writing.place_of.Goals as goal

pub returns-in-Some-clause-place : goal.returns-in-Some-clause-place
returns-in-Some-clause-place c =
    c.requires.hops c.args.hop.now c.in-Some.place.now
    (ap (λ hop. value_at c.args.places.now (nibbles hop)) (sym c.as_bytes-bytes.ensures) ∙ sym c.in_ok-place.ensures.value ∙ ap option_copied c.in-Some.is)

pub returns-in-Ok-clause-laid : goal.returns-in-Ok-clause-laid
returns-in-Ok-clause-laid c =
    one_laid c.args.places.now c.insert.new.self c.args.own.now.items c.add_line.new.own.items c.as_bytes-bytes.result c.in_ok-place-2.place c.requires
    (c.in_ok-place-2.ensures.place ∙ c.args.own.now.ok.0) c.in-Ok.ensures.stored c.in_ok-place-2.ensures.text
