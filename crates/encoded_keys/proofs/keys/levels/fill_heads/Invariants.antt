use Rattle.std.proofs.Common.{◌≡◌, length}
use Rattle.encoded_keys.specs.Blocks.{AreHeads}
use Rattle.encoded_keys.specs.Laid.{codes_in, halves, odds}
use Rattle.encoded_keys.proofs.keys.levels.fill_heads.Given as goal

abbrev pub invariant-loop-i : goal.invariant-loop-i
invariant-loop-i l = record {
  many : length l.heads ≡ l.i-end;
  heads : AreHeads (codes_in l.bytes 0 (halves l.ends) (odds l.ends)) l.step l.further l.heads l.skips l.i;
}
