use Rattle.std.proofs.Common.{◌≡◌, ◌+◌, length}
use Rattle.std.specs.Io.Iter.{u64_saturate}
use Rattle.std.specs.Io.KnownBytes.{Consumes}
use Rattle.nibble_map.specs.Lists.{Each}
use Rattle.frozen_trie.specs.FileRows.{FitsRow, file_rows}
use Rattle.frozen_trie.proofs.file.reading.read_all.Given as goal

abbrev pub invariant-loop-row : goal.invariant-loop-row
invariant-loop-row g l = record {
  fits : Each FitsRow (g.M.Rows.rows l.map);
  count : length (g.M.Rows.rows l.map) ≡ l.row;
  read : Consumes (g.R.Read.remaining l.initial.input) (g.R.Read.remaining l.input) (file_rows (g.M.Rows.rows l.map));
  place : l.place ≡ u64_saturate (20 + length (file_rows (g.M.Rows.rows l.map)));
  kept : g.M.Rows.is_kept l.map;
  items : g.M.Rows.are_items l.map (length (g.M.Rows.rows l.map));
}
