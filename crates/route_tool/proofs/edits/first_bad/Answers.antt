-- One more line is good, or bad.
use Rattle.std.proofs.Common.{option_copied, subst}
use Rattle.route_tool.specs.Commands.{asked_of}
use Rattle.route_tool.proofs.LoadLemmas.{AreRead, all_read, bad_read, none_read, one_read}
use Rattle.route_tool.proofs.edits.first_bad.Goals as goal

pub loop-rest-init : goal.loop-rest-init
loop-rest-init c = record { read = none_read c.args.text.now }

pub returns-in-Err : goal.returns-in-Err
returns-in-Err c =
    let read = subst (λ rest. AreRead c.args.text.now (option_copied rest) c.loop-rest.number) c.in-Some.is c.loop-rest.invariant.read in
    bad_read c.args.text.now c.in-Some.bytes.now c.first_part.result.0.now (option_copied c.first_part.result.1) c.saturating_add-number.result c.loop-rest.number c.in-Err.reason
    read c.first_part.ensures c.in-Err.ensures c.saturating_add-number.ensures

pub loop-rest-preserved : goal.loop-rest-preserved
loop-rest-preserved c =
    let read = subst (λ rest. AreRead c.args.text.now (option_copied rest) c.loop-rest.number) c.in-Some.is c.loop-rest.invariant.read in
    record {
      read = one_read c.args.text.now c.in-Some.bytes.now c.first_part.result.0.now (option_copied c.first_part.result.1) (asked_of c.in_default-edit_of.field-0)
          c.saturating_add-number.result c.loop-rest.number read c.first_part.ensures c.in_default-edit_of.ensures c.saturating_add-number.ensures;
    }

pub returns : goal.returns
returns c = all_read c.args.text.now c.loop-rest.number (subst (λ rest. AreRead c.args.text.now (option_copied rest) c.loop-rest.number) c.in_default.is c.loop-rest.invariant.read)
