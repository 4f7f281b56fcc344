-- A hop with no number has the next one.
use Rattle.std.proofs.Common.{◌∙◌, ap, option_copied, sym}
use Rattle.route_tool.proofs.NumberLemmas.{IsNext, is_next}
use Rattle.route_tool.proofs.aggregate.number_of.Goals as goal
use Rattle.route_tool.proofs.aggregate.number_of.Goals.{In-Ok}

-- what the hop is given
next : (c : In-Ok) → IsNext c.args.numbers.now c.insert.new.self c.args.hops.now.items c.push.new.self.items c.args.hop.now c.len-number.result
next c =
    is_next c.args.numbers.now c.insert.new.self c.args.hops.now.items c.push.new.self.items c.as_bytes-bytes.result c.args.hop c.len-number.result c.as_bytes-bytes.ensures
    (sym c.in_ok-number.ensures.value ∙ ap option_copied c.in_default.is) (c.len-number.ensures ∙ c.args.hops.now.ok.0) c.in-Ok.ensures.stored c.in_ok-push.ensures.items

pub returns-in-Ok-clause-number : goal.returns-in-Ok-clause-number
returns-in-Ok-clause-number c = (next c).number

pub returns-in-Ok-clause-kept : goal.returns-in-Ok-clause-kept
returns-in-Ok-clause-kept c = (next c).kept

pub returns-in-Ok-clause-places : goal.returns-in-Ok-clause-places
returns-in-Ok-clause-places c = (next c).places c.requires
