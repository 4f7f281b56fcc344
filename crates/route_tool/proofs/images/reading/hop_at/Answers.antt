-- The line that begins at the place is the hop.
use Rattle.std.proofs.Common.{get_or, ◌-◌, inl, inr, arith, subst, sym, ap, ◌∙◌, option_copied}
use Rattle.std.proofs.lemmas.List.{take_rest}
use Rattle.route_tool.specs.Loads.{lines_in, lines_left}
use Rattle.route_tool.specs.Requests.{IsHop}
use Rattle.route_tool.proofs.RouteImageLemmas.{fed_before}
use Rattle.route_tool.proofs.images.reading.hop_at.Goals as goal
use Rattle.route_tool.proofs.images.reading.hop_at.Goals.{then-place-gt0, else-place-gt0}

pub returns-then-is_hop : goal.returns-then-is_hop
returns-then-is_hop c =
    let own = c.args.own.now in
    let place = c.args.place in
    record {
      begins = elim c.if-place-gt0.branch [
        | then-place-gt0 w ↦ inr (fed_before (get_or own (place - 1) 0) (sym w.value-is ∙ c.if-own-place-ne10.false))
        | else-place-gt0 w ↦ let none = w.if-place-gt0.false in inl (omega arith)
      ];
      left = lines_left (option_copied c.first_part.result.1);
      lines = ap lines_in (sym (take_rest own place)) ∙ c.first_part.ensures;
      text = c.in-Ok.ensures.cases.1;
      is_hop = subst IsHop c.in-Ok.ensures.cases.0 (c.is_hop.ensures.0 c.if-is_hop.true);
    }
