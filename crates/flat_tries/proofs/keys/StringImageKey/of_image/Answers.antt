use Rattle.std.proofs.Common.{sym}
use Rattle.radix_keys.specs.Distinct.{nibbles-injective}
use Rattle.flat_tries.proofs.KeyLemmas.{none_also}
use Rattle.flat_tries.proofs.keys.StringImageKey.of_image.Goals as goal

pub returns-clause-malformed : goal.returns-clause-malformed
returns-clause-malformed c = none_also _ _ c.of_file.result (λ h key is same. h key tt (sym (nibbles-injective _ _ same))) c.of_file.ensures.malformed
