use Rattle.std.proofs.Common.{◌≡◌, ◌<◌, map, take, All}
use Rattle.std.specs.Char.{digit_value}
use Rattle.radix_keys.proofs.nibbles.NibbleVec.from_hex.Given as goal

abbrev pub invariant-loop-byte : goal.invariant-loop-byte
invariant-loop-byte l = record {
  list : l.list ≡ map digit_value (take l.byte-index l.byte-items);
  digits : All (λ c. digit_value c < 16) (take l.byte-index l.byte-items);
}
