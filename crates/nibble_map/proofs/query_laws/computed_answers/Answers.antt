use Rattle.std.proofs.Common.{◌≡◌, ◌↔◌, sym, subst}
use Rattle.nibble_map.proofs.ComputedLemmas.Answers.{ancestor_is, raw_ancestor_is, raw_descendant_is, fragment_is, compared_is, visited_is}
use Rattle.nibble_map.proofs.ComputedLemmas.Children.{children_are}
use Rattle.nibble_map.proofs.ListLemmas.Parted.{ancestor_unique, longest_unique, raw_descendant_unique, fragment_unique, compared_unique}
use Rattle.nibble_map.proofs.ListLemmas.Unique.{Lists-unique, Counts-unique}
use Rattle.nibble_map.proofs.query_laws.computed_answers.Goals as goal

-- a relation that holds of one answer alone
one : {A : Type 0} (R : A → Type 0) (x : A) → R x → ((y : A) → R y → y ≡ x) → (y : A) → R y ↔ (y ≡ x)
one R x r u y = (u y, (λ e. subst R (sym e) r))

pub returns : goal.returns
returns g c = record {
  ancestor = λ m e. one _ _ (ancestor_is m e) (λ y r. ancestor_unique _ e y _ r (ancestor_is m e));
  raw_ancestor = λ m e. one _ _ (raw_ancestor_is m e) (λ y r. longest_unique _ e y _ r (raw_ancestor_is m e));
  raw_descendant = λ m e. one _ _ (raw_descendant_is m e) (λ y r. raw_descendant_unique _ e y _ r (raw_descendant_is m e));
  fragment = λ m p. one _ _ (fragment_is m p) (λ y r. fragment_unique _ p y _ r (fragment_is m p));
  children = λ m p. one _ _ (children_are m p) (λ y r. Lists-unique _ y _ r (children_are m p));
  compared = λ m e. one _ _ (compared_is m e) (λ y r. compared_unique _ e y _ r (compared_is m e));
  visited = λ m e. one _ _ (visited_is m e) (λ y r. Counts-unique _ y _ r (visited_is m e));
}
