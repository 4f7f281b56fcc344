use Rattle.std.proofs.Common.{◌≡◌, length}
use Rattle.encoded_keys.specs.Heads.{AreSteps}
use Rattle.encoded_keys.proofs.heads.steps_of.Given as goal

abbrev pub invariant-loop-step : goal.invariant-loop-step
invariant-loop-step l = record {
  count : length l.steps.items ≡ l.step;
  steps : AreSteps l.numbers l.steps.items;
}
