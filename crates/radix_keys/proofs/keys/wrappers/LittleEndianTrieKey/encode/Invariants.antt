use Rattle.std.proofs.Common.{◌≡◌, ◌<◌, ◌≤◌, take, reverse}
use Rattle.radix_keys.proofs.keys.wrappers.LittleEndianTrieKey.encode.Given as goal

abbrev pub invariant-loop-i : goal.invariant-loop-i
invariant-loop-i g l = record {
  items : l.out.items ≡ take l.i (reverse (g.T.KeyInt.bytes l.value));
  room : 16 ≤ l.out.capacity;
  value : 0 < l.i → g.T.KeyInt.is_value l.value;
}
