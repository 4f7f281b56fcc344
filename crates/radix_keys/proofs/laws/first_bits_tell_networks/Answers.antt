use Rattle.radix_keys.proofs.BitLemmas.{first_bits_prefix}
use Rattle.radix_keys.proofs.laws.first_bits_tell_networks.Goals as goal

pub returns : goal.returns
returns c = first_bits_prefix
