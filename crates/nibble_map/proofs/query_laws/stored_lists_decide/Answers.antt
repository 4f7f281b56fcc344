use Rattle.nibble_map.proofs.PointLemmas.Moves.{point_moves, raw_ancestor_moves, raw_descendant_moves, fragment_moves, children_move, compared_moves, visited_moves}
use Rattle.nibble_map.proofs.query_laws.stored_lists_decide.Goals as goal

pub returns : goal.returns
returns g c = record {
  point = λ m n h. point_moves _ _ (λ e. (h e).0);
  raw_descendant = λ m n h. raw_descendant_moves _ _ (λ e. (h e).0) (λ e. (h e).1);
  raw_ancestor = λ m n h. raw_ancestor_moves _ _ (λ e. (h e).0) (λ e. (h e).1);
  fragment = λ m n h. fragment_moves _ _ (λ e. (h e).0) (λ e. (h e).1);
  children = λ m n h. children_move _ _ (λ e. (h e).0) (λ e. (h e).1);
  compared = λ m n h. compared_moves _ _ (λ e. (h e).0) (λ e. (h e).1);
  visited = λ m n h. visited_moves _ _ (λ e. (h e).0) (λ e. (h e).1);
}
