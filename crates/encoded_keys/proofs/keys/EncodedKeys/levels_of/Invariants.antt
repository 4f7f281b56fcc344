use Rattle.std.proofs.Common.{◌≡◌, ◌+◌, ◌-◌, ◌^◌, ◌<◌, length}
use Rattle.encoded_keys.proofs.CodeLemmas.Making.{AreEachLevels}
use Rattle.encoded_keys.proofs.keys.EncodedKeys.levels_of.Given as goal

abbrev pub invariant-loop-step : goal.invariant-loop-step
invariant-loop-step l = record {
  some : 0 < l.step;
  step : l.step ≡ 16 ^ (length l.levels.items + 1);
  each : AreEachLevels l.self l.levels.items;
}

abbrev pub decreases-loop-step : goal.decreases-loop-step
decreases-loop-step l = length l.self + 1 - l.step
