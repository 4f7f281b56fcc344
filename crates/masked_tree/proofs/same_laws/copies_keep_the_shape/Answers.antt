use Rattle.masked_tree.proofs.SameLemmas.Copies.{copy_placed, copy_full, root_copied, nodes_in-copy, nibbles_in-copy, copy_entries}
use Rattle.masked_tree.proofs.same_laws.copies_keep_the_shape.Goals as goal

pub returns : goal.returns
returns g c = let R = g.P.Clone.is_clone in
    record { placed = copy_placed R; full = copy_full R; root = root_copied R; nodes = nodes_in-copy R; nibbles = nibbles_in-copy R; entries = copy_entries R }
