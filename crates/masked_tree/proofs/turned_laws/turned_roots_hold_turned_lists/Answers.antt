use Rattle.nibble_map.specs.Copies.{IsPairClone}
use Rattle.masked_tree.proofs.TurnedLemmas.Maps.{root_map_turned}
use Rattle.masked_tree.proofs.turned_laws.turned_roots_hold_turned_lists.Goals as goal

pub returns : goal.returns
returns g c = λ row. root_map_turned row (IsPairClone g.K.Clone.is_clone g.V.Clone.is_clone)
