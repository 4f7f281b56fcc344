use Rattle.std.proofs.Common.{subst}
use Rattle.radix_keys.specs.Parts.{AreParts}
use Rattle.radix_keys.proofs.parts.key.PartsAsNibbles.as_nibbles.Goals as goal

pub returns-clause-value : goal.returns-clause-value
returns-clause-value c = subst AreParts c.self.view_is c.self.invariant.parts
