use Rattle.nibble_map.proofs.MapLemmas.SameTests.{maps_tell, maps_per}
use Rattle.nibble_map.proofs.same_laws.sameness_is_computed.Goals as goal

pub returns : goal.returns
returns g c = record { maps = maps_tell; laws = maps_per }
