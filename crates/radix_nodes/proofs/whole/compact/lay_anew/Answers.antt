use Rattle.radix_nodes.specs.Nodes.{tree_of}
use Rattle.radix_nodes.proofs.CopyLemmas.Moves.{given_is_shaped}
use Rattle.radix_nodes.proofs.whole.compact.lay_anew.Goals as goal

pub move_contents-requires : goal.move_contents-requires
move_contents-requires g c = given_is_shaped (tree_of c.args.root.now).children c.in_ok-blank.blank c.blank_children.new.blanks c.in_ok-blank_children.ensures.shape
