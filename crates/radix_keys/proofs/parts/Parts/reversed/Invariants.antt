use Rattle.std.proofs.Common.{◌≡◌, ◌==◌, ◌++◌, reverse}
use Rattle.std.specs.Iterator.Adapters.{rev_source}
use Rattle.std.specs.List.{slice_split}
use Rattle.radix_keys.specs.Parts.{AreParts}
use Rattle.radix_keys.proofs.parts.Parts.reversed.Given as goal

abbrev pub invariant-loop-label : goal.invariant-loop-label
invariant-loop-label l = record {
  parts : l.parts ++ reverse (rev_source l.label-iterator) ≡ reverse (slice_split (λ b. b == l.separator) l.text);
  left : AreParts (rev_source l.label-iterator);
}
