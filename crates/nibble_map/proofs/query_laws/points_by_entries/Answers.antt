use Rattle.nibble_map.proofs.MapLemmas.Edits.{stored_by_entries}
use Rattle.nibble_map.proofs.PointLemmas.Moves.{reached_moves, branch_point_moves, point_moves, some_prefix_moves}
use Rattle.nibble_map.proofs.query_laws.points_by_entries.Goals as goal

pub returns : goal.returns
returns g c = record {
  reached = λ m p. (reached_moves _ _ (λ e. (stored_by_entries m e).1) p, reached_moves _ _ (λ e. (stored_by_entries m e).0) p);
  branch_point = λ m p. (branch_point_moves _ _ (λ e. (stored_by_entries m e).1) p, branch_point_moves _ _ (λ e. (stored_by_entries m e).0) p);
  point = λ m p. (point_moves _ _ (λ e. (stored_by_entries m e).1) p, point_moves _ _ (λ e. (stored_by_entries m e).0) p);
  some_prefix = λ m p. (some_prefix_moves _ _ (λ e. (stored_by_entries m e).1) p, some_prefix_moves _ _ (λ e. (stored_by_entries m e).0) p);
}
