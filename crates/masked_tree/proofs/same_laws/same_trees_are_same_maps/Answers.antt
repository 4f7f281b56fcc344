use Rattle.masked_tree.proofs.SameLemmas.Tests.{same_tree-same_maps}
use Rattle.masked_tree.proofs.SameLemmas.Trees.{entries_agree, maps_agree, entries-rows_of}
use Rattle.masked_tree.proofs.same_laws.same_trees_are_same_maps.Goals as goal

pub returns : goal.returns
returns g c = record { entries = entries_agree; maps = maps_agree; entries_of_map = entries-rows_of; tests = same_tree-same_maps }
