use Rattle.std.proofs.Common.{take}
use Rattle.std.specs.Io.KnownBytes.{Appends}
use Rattle.nibble_map.specs.Lists.{Each}
use Rattle.frozen_trie.specs.FileRows.{FitsRow, file_rows}
use Rattle.frozen_trie.proofs.file.writing.write_all.Given as goal

abbrev pub invariant-loop-at : goal.invariant-loop-at
invariant-loop-at g l = record {
  fits : Each FitsRow (take l.at (g.M.Rows.rows l.map));
  written : Appends (g.W.Write.contents l.initial.out) (g.W.Write.contents l.out) (file_rows (take l.at (g.M.Rows.rows l.map)));
  items : g.M.Rows.are_items l.map l.at;
}
