use Rattle.std.proofs.Common.{◌≡◌, ◌^◌, ◌<◌, take}
use Rattle.flat_texts.specs.TextWritten.{keys_len}
use Rattle.flat_texts.proofs.layout.len_of_keys.Given as goal

abbrev pub invariant-loop-at : goal.invariant-loop-at
invariant-loop-at l = record {
  len : l.len ≡ keys_len (take l.at l.pairs);
  short : l.len < 2 ^ 32;
}
