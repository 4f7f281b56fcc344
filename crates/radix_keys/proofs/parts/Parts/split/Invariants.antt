use Rattle.std.proofs.Common.{◌≡◌, ◌==◌, ◌++◌}
use Rattle.std.specs.List.{slice_split}
use Rattle.radix_keys.specs.Parts.{AreParts}
use Rattle.radix_keys.proofs.parts.Parts.split.Given as goal

abbrev pub invariant-loop-part : goal.invariant-loop-part
invariant-loop-part l = record {
  parts : l.parts ++ l.part-iterator ≡ slice_split (λ b. b == l.separator) l.text;
  left : AreParts l.part-iterator;
}
