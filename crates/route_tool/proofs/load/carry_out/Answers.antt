-- One more line is carried out.
use Rattle.std.proofs.Common.{option_copied, subst}
use Rattle.route_tool.specs.Commands.{asked_of}
use Rattle.route_tool.specs.Loads.{IsLoadedInPart}
use Rattle.route_tool.proofs.LoadLemmas.{AreDone, after_error, all_done, never_bad, none_done, one_done, part_done}
use Rattle.route_tool.proofs.load.carry_out.Goals as goal

pub loop-rest-init : goal.loop-rest-init
loop-rest-init c = record { done = none_done c.args.text.now c.args.table.now }

pub returns-in_err-edit-clause-begun : goal.returns-in_err-edit-clause-begun
returns-in_err-edit-clause-begun c =
    after_error c.from_residual.result (IsLoadedInPart c.args.text.now c.args.table.now c.edit.new.table)
    (part_done c.args.text.now (option_copied c.loop-rest.rest) c.args.table.now c.loop-rest.table c.edit.new.table c.in_err-edit.ensures.unchanged c.loop-rest.invariant.done)

pub loop-rest-preserved-in_ok-edit : goal.loop-rest-preserved-in_ok-edit
loop-rest-preserved-in_ok-edit c =
    let before = subst (λ rest. AreDone c.args.text.now (option_copied rest) c.args.table.now c.loop-rest.table) c.in-Some.is c.loop-rest.invariant.done in
    record {
      done = one_done c.args.text.now c.in-Some.bytes.now c.first_part.result.0.now (option_copied c.first_part.result.1) (asked_of c.in-Ok.command) c.args.table.now c.loop-rest.table
          c.edit.new.table before c.first_part.ensures c.in-Ok.ensures c.in_ok-edit.ensures.done;
    }

pub loop-rest-preserved : goal.loop-rest-preserved
loop-rest-preserved c =
    let before = subst (λ rest. AreDone c.args.text.now (option_copied rest) c.args.table.now c.loop-rest.table) c.in-Some.is c.loop-rest.invariant.done in
    absurd (never_bad c.args.text.now c.in-Some.bytes.now c.first_part.result.0.now (option_copied c.first_part.result.1) c.in_default-edit_of.field-0 c.args.table.now c.loop-rest.table
    before c.first_part.ensures c.requires c.in_default-edit_of.ensures)

pub returns-clause-done : goal.returns-clause-done
returns-clause-done c =
    all_done c.args.text.now c.args.table.now c.loop-rest.table (subst (λ rest. AreDone c.args.text.now (option_copied rest) c.args.table.now c.loop-rest.table) c.in_default.is c.loop-rest.invariant.done)
