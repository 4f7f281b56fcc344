use Rattle.std.proofs.Common.{◌≡◌, length}
use Rattle.encoded_keys.specs.Heads.{AreTops}
use Rattle.encoded_keys.proofs.heads.tops_of.Given as goal

abbrev pub invariant-loop-first : goal.invariant-loop-first
invariant-loop-first l = record {
  count : length l.tops.items ≡ l.first;
  tops : AreTops l.numbers l.tops.items;
}
