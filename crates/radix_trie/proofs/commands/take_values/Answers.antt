use Rattle.std.proofs.Common.{length, ap, arith}
use Rattle.std.proofs.lemmas.List.{length-map}
use Rattle.std.specs.FinMap as map
use Rattle.nibble_map.specs.Maps.{below, walk}
use Rattle.radix_trie.proofs.commands.take_values.Goals as goal

pub move_values-requires : goal.move_values-requires
move_values-requires g c = record {
  room =
      let m = c.args.trie.now in
      let p = c.args.list.now in
      let gone = ap length c.in-Ok-prune_at.ensures.pairs in
      let rows = length-map (walk m p) (λ e. e.1) in
      let walked = map.len-entries (below m p) in
      let empty = ap length c.in-Ok.ensures.items in
      omega (arith, c.len-count.ensures m p c.find.ensures, gone, rows, walked, empty, c.in-Ok.ensures.capacity, c.in-Ok.values.ok.0);
}
