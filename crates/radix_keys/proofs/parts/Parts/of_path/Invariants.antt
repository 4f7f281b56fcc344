use Rattle.std.proofs.Common.{◌≡◌, ◌==◌, ◌++◌, length, filter, not}
use Rattle.std.specs.List.{slice_split}
use Rattle.radix_keys.specs.Parts.{AreParts}
use Rattle.radix_keys.proofs.parts.Parts.of_path.Given as goal

abbrev pub invariant-loop-name : goal.invariant-loop-name
invariant-loop-name l = record {
  parts : l.parts ++ filter (λ part. not (length part == 0)) l.name-iterator
      ≡ filter (λ part. not (length part == 0)) (slice_split (λ b. b == l.separator) l.text);
  left : AreParts l.name-iterator;
}
