use Rattle.std.proofs.Common.{refl}
use Rattle.encoded_keys.specs.Index.{mixed_with}
use Rattle.encoded_keys.proofs.hash.mixed.Goals as goal

pub returns : goal.returns
unfolding mixed_with
returns c = refl
