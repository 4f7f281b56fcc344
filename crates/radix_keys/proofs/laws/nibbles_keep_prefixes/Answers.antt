use Rattle.radix_keys.proofs.KeyLemmas.Prefixes.{nibbles_prefix}
use Rattle.radix_keys.proofs.laws.nibbles_keep_prefixes.Goals as goal

pub returns : goal.returns
returns c = nibbles_prefix
