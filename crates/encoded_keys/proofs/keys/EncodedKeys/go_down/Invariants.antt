use Rattle.std.proofs.Common.{◌+◌, ◌^◌, ◌≤◌, length}
use Rattle.encoded_keys.specs.Blocks.{IsAround}
use Rattle.encoded_keys.proofs.keys.EncodedKeys.go_down.Given as goal

abbrev pub invariant-loop-left : goal.invariant-loop-left
invariant-loop-left l = record {
  within : l.left ≤ length l.levels;
  around : IsAround l.sought.is_through l.sought.list.now l.self (16 ^ (l.left + 1)) l.at;
}

abbrev pub decreases-loop-left : goal.decreases-loop-left
decreases-loop-left l = l.left
