use Rattle.std.proofs.Common.{◌≡◌, ◌<◌, ◌≤◌, ◌++◌, take}
use Rattle.radix_keys.proofs.keys.integers.push_bytes.Given as goal

abbrev pub invariant-loop-i : goal.invariant-loop-i
invariant-loop-i g l = record {
  items : l.out.items ≡ l.initial.out.items ++ take l.i (g.T.KeyInt.bytes l.x);
  room : 16 ≤ l.out.capacity;
  value : 0 < l.i → g.T.KeyInt.is_value l.x;
}
