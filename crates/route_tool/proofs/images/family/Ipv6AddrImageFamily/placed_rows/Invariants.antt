-- The rows so far are the first of the table.
use Rattle.std.proofs.Common.{◌≡◌, length, take, vec_len, vec_capacity}
use Rattle.route_tool.proofs.images.family.Ipv6AddrImageFamily.placed_rows.Given as goal

abbrev pub invariant-loop-network : goal.invariant-loop-network
invariant-loop-network l = record {
  room : vec_capacity l.rows ≡ length l.network-items;
  count : vec_len l.rows ≡ l.network-index;
  rows : l.rows.items ≡ take l.network-index l.network-items;
}
