use Rattle.nibble_map.proofs.MapLemmas.PlainCopies.{plain_copy}
use Rattle.nibble_map.proofs.same_laws.plain_copies_are_the_map.Goals as goal

pub returns : goal.returns
returns g c = plain_copy
