use Rattle.radix_keys.proofs.PartLemmas.{parts_prefix}
use Rattle.radix_keys.proofs.laws.parts_keep_prefixes.Goals as goal

pub returns : goal.returns
returns c = parts_prefix
