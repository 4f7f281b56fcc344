use Rattle.nibble_map.proofs.ListLemmas.Turned.{turned-turned, length-turned}
use Rattle.nibble_map.proofs.turned_laws.turning_undoes_itself.Goals as goal

pub returns : goal.returns
returns c = record { twice = turned-turned; count = length-turned }
