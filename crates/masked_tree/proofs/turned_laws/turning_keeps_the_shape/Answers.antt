use Rattle.masked_tree.proofs.TurnedLemmas.Trees.{turned_placed, turned_full, nodes_in-turned, nibbles_in-turned}
use Rattle.masked_tree.proofs.turned_laws.turning_keeps_the_shape.Goals as goal

pub returns : goal.returns
returns g c = record { placed = turned_placed; full = turned_full; nodes = λ t. nodes_in-turned t.children; nibbles = λ t. nibbles_in-turned t.children }
