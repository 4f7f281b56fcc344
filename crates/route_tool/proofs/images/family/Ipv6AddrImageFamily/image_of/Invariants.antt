-- The table's rows so far are the first of those that were passed.
use Rattle.std.proofs.Common.{◌≡◌, length, take, vec_len, vec_capacity}
use Rattle.route_tool.proofs.images.family.Ipv6AddrImageFamily.image_of.Given as goal

abbrev pub invariant-loop-network : goal.invariant-loop-network
invariant-loop-network l = record {
  room : vec_capacity l.table ≡ length l.rows;
  count : vec_len l.table ≡ l.network-index;
  rows : l.table.items ≡ take l.network-index l.rows;
}
