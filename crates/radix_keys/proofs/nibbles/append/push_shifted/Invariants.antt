use Rattle.std.proofs.Common.{◌≡◌, ◌+◌, ◌<◌, ◌++◌, [], ◌∷◌, length, take}
use Rattle.nibble_map.specs.Nibbles.{nibbles}
use Rattle.radix_keys.proofs.nibbles.append.push_shifted.Given as goal

abbrev pub invariant-loop-byte : goal.invariant-loop-byte
invariant-loop-byte l = record {
  shifted : nibbles l.out.items ++ l.half ∷ [] ≡ nibbles l.initial.out.items ++ l.high ∷ nibbles (take l.byte-index l.bytes);
  count : length l.out.items ≡ length l.initial.out.items + l.byte-index;
  half : l.half < 16;
  capacity : l.out.capacity ≡ l.initial.out.capacity;
}
