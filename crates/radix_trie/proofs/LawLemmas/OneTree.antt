-- Maps with the same stored lists have one tree.
use Rattle.std.proofs.Common.{◌≡◌, ◌↔◌, ℕ, List}
use Rattle.nibble_map.specs.Answers as answers
use Rattle.nibble_map.specs.Lists.{Counts}
use Rattle.nibble_map.specs.MapQueries.{AreChildren, IsFragment}
use Rattle.nibble_map.specs.Maps.{IsPoint, IsSomePrefix, IsStored, NibbleMap}
use Rattle.nibble_map.proofs.ListLemmas.Parted.{fragment_unique}
use Rattle.nibble_map.proofs.ListLemmas.Unique.{Counts-unique, Lists-unique}
use Rattle.nibble_map.proofs.PointLemmas.Moves.{Within, children_move, fragment_moves, lists_moves, point_moves, some_prefix_moves}

moved : (S T : List ℕ → Type 0) → Within S T → Within T S → (k : ℕ) → Counts S k → Counts T k
moved S T to from k c = record { list = c.list; lists = lists_moves S T to from c.list c.lists; length_is = c.length_is }

module _ {P Q : Type 0} (m : NibbleMap P) (n : NibbleMap Q) (same : (e : List ℕ) → IsStored m e ↔ IsStored n e) where
  to : Within (IsStored m) (IsStored n)
  to e = (same e).0

  from : Within (IsStored n) (IsStored m)
  from e = (same e).1

  -- the same points
  pub points_same : (p : List ℕ) → IsPoint m p ↔ IsPoint n p
  points_same p = (point_moves _ _ to p, point_moves _ _ from p)

  -- as many points and prefixes
  pub nodes_same : (j k : ℕ) → Counts (IsPoint m) j → Counts (IsPoint n) k → j ≡ k
  nodes_same j k a b = Counts-unique (IsPoint n) j k (moved _ _ (point_moves _ _ to) (point_moves _ _ from) j a) b

  pub nibbles_same : (j k : ℕ) → Counts (IsSomePrefix m) j → Counts (IsSomePrefix n) k → j ≡ k
  nibbles_same j k a b = Counts-unique (IsSomePrefix n) j k (moved _ _ (some_prefix_moves _ _ to) (some_prefix_moves _ _ from) j a) b

  -- the same fragments and children
  pub fragment_same : (p f g : List ℕ) → IsFragment m p f → IsFragment n p g → f ≡ g
  fragment_same p f g a b = fragment_unique (IsStored n) p f g (fragment_moves _ _ to from p f a) b

  pub children_same : (p : List ℕ) (qs rs : List (List ℕ)) → AreChildren m p qs → AreChildren n p rs → qs ≡ rs
  children_same p qs rs a b = Lists-unique (answers.IsChild (IsStored n) p) qs rs (children_move _ _ to from p qs a) b
