use Rattle.nibble_map.proofs.MapLemmas.Edits.{stored_by_entries}
use Rattle.nibble_map.proofs.PointLemmas.Moves.{ancestor_moves, raw_ancestor_moves, raw_descendant_moves, fragment_moves, children_move, compared_moves, visited_moves}
use Rattle.nibble_map.proofs.query_laws.answers_by_entries.Goals as goal

pub returns : goal.returns
returns g c = record {
  ancestor = λ m e a. (ancestor_moves _ _ (λ x. (stored_by_entries m x).1) (λ x. (stored_by_entries m x).0) e a, ancestor_moves _ _ (λ x. (stored_by_entries m x).0) (λ x. (stored_by_entries m x).1) e a);
  raw_ancestor = λ m e a. (raw_ancestor_moves _ _ (λ x. (stored_by_entries m x).1) (λ x. (stored_by_entries m x).0) e a, raw_ancestor_moves _ _ (λ x. (stored_by_entries m x).0) (λ x. (stored_by_entries m x).1) e a);
  raw_descendant = λ m e a. (raw_descendant_moves _ _ (λ x. (stored_by_entries m x).1) (λ x. (stored_by_entries m x).0) e a, raw_descendant_moves _ _ (λ x. (stored_by_entries m x).0) (λ x. (stored_by_entries m x).1) e a);
  fragment = λ m e a. (fragment_moves _ _ (λ x. (stored_by_entries m x).1) (λ x. (stored_by_entries m x).0) e a, fragment_moves _ _ (λ x. (stored_by_entries m x).0) (λ x. (stored_by_entries m x).1) e a);
  children = λ m e a. (children_move _ _ (λ x. (stored_by_entries m x).1) (λ x. (stored_by_entries m x).0) e a, children_move _ _ (λ x. (stored_by_entries m x).0) (λ x. (stored_by_entries m x).1) e a);
  compared = λ m e a. (compared_moves _ _ (λ x. (stored_by_entries m x).1) (λ x. (stored_by_entries m x).0) e a, compared_moves _ _ (λ x. (stored_by_entries m x).0) (λ x. (stored_by_entries m x).1) e a);
  visited = λ m e a. (visited_moves _ _ (λ x. (stored_by_entries m x).1) (λ x. (stored_by_entries m x).0) e a, visited_moves _ _ (λ x. (stored_by_entries m x).0) (λ x. (stored_by_entries m x).1) e a);
}
