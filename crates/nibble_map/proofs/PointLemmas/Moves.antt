-- Points and answers depend on the stored lists alone.
use Rattle.std.proofs.Common.{ℕ, List, Option, Some, None, inl, inr}
use Rattle.nibble_map.specs.Lists.{Lists}
use Rattle.nibble_map.specs.Points.{IsReached, IsBranchPoint, IsPoint, IsSomePrefix}
use Rattle.nibble_map.specs.Answers.{IsLongest, IsShortest, IsAncestor, IsRawAncestor, IsRawDescendant, IsFragment, IsChild, AreChildren, IsCompared, IsVisited}

-- what S holds of, T holds of
abbrev pub Within : (List ℕ → Type 0) → (List ℕ → Type 0) → Type 0
Within S T = (e : List ℕ) → S e → T e

module _ (S T : List ℕ → Type 0) (to : Within S T) where
  -- a list that is reached stays reached in a larger set of stored lists
  pub reached_moves : Within (IsReached S) (IsReached T)
  reached_moves p (e, s, i) = (e, to e s, i)

  -- a branch point stays a branch point in a larger set of stored lists
  pub branch_point_moves : Within (IsBranchPoint S) (IsBranchPoint T)
  branch_point_moves p (a, b, n, r, s) = (a, b, n, reached_moves _ r, reached_moves _ s)

  -- a point stays a point in a larger set of stored lists
  pub point_moves : Within (IsPoint S) (IsPoint T)
  point_moves p (inl e) = inl e
  point_moves p (inr (inl s)) = inr (inl (to p s))
  point_moves p (inr (inr k)) = inr (inr (branch_point_moves p k))

  -- a non-empty prefix of a stored list stays one in a larger set of stored lists
  pub some_prefix_moves : Within (IsSomePrefix S) (IsSomePrefix T)
  some_prefix_moves p (n, r) = (n, reached_moves p r)

module _ (S T : List ℕ → Type 0) (to : Within S T) (from : Within T S) where
  -- the longest list of a set that is a prefix of e is so of each set of the same lists
  pub longest_moves : (e p : List ℕ) → IsLongest S e p → IsLongest T e p
  longest_moves e p l = record { member = to p l.member; above = l.above; longest = λ q t i. l.longest q (from q t) i }

  -- the shortest list of a set that e is a prefix of is so of each set of the same lists
  pub shortest_moves : (e p : List ℕ) → IsShortest S e p → IsShortest T e p
  shortest_moves e p l = record { member = to p l.member; below = l.below; shortest = λ q t i. l.shortest q (from q t) i }

  -- a rising list of a set is one of each set of the same lists
  pub lists_moves : (ps : List (List ℕ)) → Lists S ps → Lists T ps
  lists_moves ps l = record { rising = l.rising; exactly = λ p. ((λ h. to p ((l.exactly p).0 h)), (λ t. (l.exactly p).1 (from p t))) }

module _ (S T : List ℕ → Type 0) (to : Within S T) (from : Within T S) where
  -- an ancestor of e stays one where the stored lists are the same
  pub ancestor_moves : (e : List ℕ) (a : Option (List ℕ)) → IsAncestor S e a → IsAncestor T e a
  ancestor_moves e None h = λ p t i. h p (from p t) i
  ancestor_moves e (Some p) h = longest_moves S T to from e p h

  -- a raw ancestor of e stays one where the stored lists are the same
  pub raw_ancestor_moves : (e p : List ℕ) → IsRawAncestor S e p → IsRawAncestor T e p
  raw_ancestor_moves = longest_moves _ _ (point_moves S T to) (point_moves T S from)

  -- a raw descendant of e stays one where the stored lists are the same
  pub raw_descendant_moves : (e : List ℕ) (a : Option (List ℕ)) → IsRawDescendant S e a → IsRawDescendant T e a
  raw_descendant_moves e None h = λ p t i. h p (point_moves T S from p t) i
  raw_descendant_moves e (Some p) h = shortest_moves _ _ (point_moves S T to) (point_moves T S from) e p h

  -- a fragment of p stays one where the stored lists are the same
  pub fragment_moves : (p f : List ℕ) → IsFragment S p f → IsFragment T p f
  fragment_moves p f (inl h) = inl h
  fragment_moves p f (inr (q, l, e)) =
      inr (q, longest_moves _ _ (λ x h. (point_moves S T to x h.0, h.1)) (λ x h. (point_moves T S from x h.0, h.1)) p q l, e)

  -- a child of p stays one where the stored lists are the same
  child_moves : (p q : List ℕ) → IsChild S p q → IsChild T p q
  child_moves p q (a, l) = (a, shortest_moves _ _ (point_moves S T to) (point_moves T S from) _ q l)

  -- the count of a search for e stays where the stored lists are the same
  pub compared_moves : (e : List ℕ) (n : ℕ) → IsCompared S e n → IsCompared T e n
  compared_moves e n (p, l, c) = (
    p,
    longest_moves _ _ (λ x h. elim h [ inl i ↦ inl i | inr k ↦ inr (some_prefix_moves S T to x k) ]) (λ x h. elim h [ inl i ↦ inl i | inr k ↦ inr (some_prefix_moves T S from x k) ]) e p l,
    elim c [
      | inl h ↦ inl (elim h.0 [ inl i ↦ inl i | inr k ↦ inr (point_moves S T to p k) ], h.1)
      | inr h ↦ inr (h.0, (λ k. h.1 (point_moves T S from p k)), h.2)
    ],
  )

  -- the count of visited nodes stays where the stored lists are the same
  pub visited_moves : (e : List ℕ) (n : ℕ) → IsVisited S e n → IsVisited T e n
  visited_moves e n c = record {
    list = c.list;
    lists = lists_moves _ _ (λ x h. (point_moves S T to x h.0, h.1)) (λ x h. (point_moves T S from x h.0, h.1)) c.list c.lists;
    length_is = c.length_is;
  }

-- the children of p stay where the stored lists are the same
pub children_move : (S T : List ℕ → Type 0) → Within S T → Within T S → (p : List ℕ) (qs : List (List ℕ)) → AreChildren S p qs → AreChildren T p qs
children_move S T to from p qs l = lists_moves _ _ (child_moves S T to from p) (child_moves T S from to p) qs l
