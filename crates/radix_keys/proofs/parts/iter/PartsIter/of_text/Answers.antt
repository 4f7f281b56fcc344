use Rattle.std.proofs.Common.{rules}
use Rattle.radix_keys.specs.Parts.{IsPart}
use Rattle.radix_keys.proofs.PartLemmas.{AreParts-slice_split}
use Rattle.radix_keys.proofs.parts.iter.PartsIter.of_text.Goals as goal

pub returns-clause-parts : goal.returns-clause-parts
returns-clause-parts c =
    let is : IsPart c.as_bytes-bytes.result.now = search rules in
    AreParts-slice_split _ _ is
