use Rattle.std.proofs.Common.{subst}
use Rattle.radix_keys.specs.Parts.{AreParts}
use Rattle.radix_keys.proofs.PartLemmas.{parts_order}
use Rattle.radix_keys.proofs.parts.key.PartsTrieKey.encode.Goals as goal

pub returns-clause-value : goal.returns-clause-value
returns-clause-value c = subst AreParts c.self.view_is c.self.invariant.parts

pub returns-clause-order : goal.returns-clause-order
returns-clause-order c = parts_order
