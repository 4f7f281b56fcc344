use Rattle.std.proofs.Common.{◌-◌, ◌≤◌, vec_len}
use Rattle.std.specs.Io.KnownBytes.{Consumes}
use Rattle.frozen_trie.proofs.file.parts.read_bytes.Given as goal

abbrev pub invariant-loop-into : goal.invariant-loop-into
invariant-loop-into g l = record {
  read : Consumes (g.R.Read.remaining l.initial.input) (g.R.Read.remaining l.input) l.into.items;
  within : vec_len l.into ≤ l.count;
}

abbrev pub decreases-loop-into : goal.decreases-loop-into
decreases-loop-into g l = l.count - vec_len l.into
