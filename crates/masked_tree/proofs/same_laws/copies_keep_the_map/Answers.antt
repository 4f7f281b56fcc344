use Rattle.nibble_map.specs.Copies.{IsPairClone}
use Rattle.masked_tree.proofs.SameLemmas.Copies.{root_map_copied}
use Rattle.masked_tree.proofs.same_laws.copies_keep_the_map.Goals as goal

pub returns : goal.returns
returns g c = λ row. root_map_copied row (IsPairClone g.K.Clone.is_clone g.V.Clone.is_clone)
