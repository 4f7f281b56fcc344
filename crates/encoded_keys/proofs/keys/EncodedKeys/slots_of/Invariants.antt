use Rattle.std.proofs.Common.{◌≡◌, ◌+◌, ◌/◌, length}
use Rattle.encoded_keys.specs.Index.{AreSlotted}
use Rattle.encoded_keys.proofs.keys.EncodedKeys.slots_of.Given as goal

abbrev pub invariant-loop-i : goal.invariant-loop-i
invariant-loop-i l = record {
  size : length l.slots.items ≡ l.count + l.count / 4 + 65;
  slotted : AreSlotted l.self l.i l.slots.items l.tags;
}
