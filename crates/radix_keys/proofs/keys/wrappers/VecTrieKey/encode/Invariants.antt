use Rattle.std.proofs.Common.{◌≡◌, ◌≤◌, take, All, flat_map}
use Rattle.radix_keys.proofs.keys.wrappers.VecTrieKey.encode.Given as goal

abbrev pub invariant-loop-x : goal.invariant-loop-x
invariant-loop-x g l = record {
  items : l.out.items ≡ flat_map g.T.KeyInt.bytes (take l.x-index l.x-items);
  room : 16 ≤ l.out.capacity;
  values : All g.T.KeyInt.is_value (take l.x-index l.x-items);
}
