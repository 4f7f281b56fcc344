use Rattle.radix_keys.proofs.BitLemmas.{bits_prefix}
use Rattle.radix_keys.proofs.laws.bits_keep_prefixes.Goals as goal

pub returns : goal.returns
returns c = bits_prefix
