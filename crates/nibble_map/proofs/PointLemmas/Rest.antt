-- The points and prefixes of a map without what is below a path.
use Rattle.std.proofs.Common.{◌≡◌, ℕ, ◌⊎◌, List, [], ◌∷◌, ◌++◌, inl, inr, refl, sym, ◌∙◌}
use Rattle.nibble_map.specs.Lists.{IsPrefix}
use Rattle.nibble_map.specs.Maps.{NibbleMap, IsReached, IsPoint, IsSomePrefix, without_below}
use Rattle.nibble_map.proofs.ListLemmas.Cut.{join_two_ways}
use Rattle.nibble_map.proofs.ListLemmas.Parted.{prefix_through}
use Rattle.nibble_map.proofs.MapLemmas.Without.{stored_without, without_stored}

-- of two prefixes of one list one is a prefix of the other
prefixes_nest : (p q e : List ℕ) → IsPrefix p e → IsPrefix q e → IsPrefix p q ⊎ IsPrefix q p
prefixes_nest p q e (r, h) (t, k) = elim (join_two_ways p r q t (sym h ∙ k)) [ inl c ↦ inl (c.0, c.1) | inr c ↦ inr (c.0 ∷ c.1, c.2) ]

module _ {P : Type 0} (m : NibbleMap P) (p : List ℕ) where
  -- a list that the rest reaches is reached in the map
  reached_without : (q : List ℕ) → IsReached (without_below m p) q → IsReached m q
  reached_without q (e, s, i) = (e, (stored_without p m e s).0, i)

  -- the rest reaches no list with the prefix p
  not_reached : (q : List ℕ) → IsPrefix p q → IsReached (without_below m p) q → ⊥
  not_reached q b (e, s, i) = (stored_without p m e s).1 (prefix_through p q e b i)

  -- a list that lies neither above nor below p is reached as before
  reached_apart : (q : List ℕ) → (IsPrefix q p → ⊥) → (IsPrefix p q → ⊥) → IsReached m q → IsReached (without_below m p) q
  reached_apart q above below (e, s, i) = (e, without_stored p m e s (λ b. elim (prefixes_nest p q e b i) [ inl x ↦ below x | inr x ↦ above x ]), i)

  -- a list is a prefix of itself with one nibble more
  next_begins : (q : List ℕ) (a : ℕ) → IsPrefix q (q ++ a ∷ [])
  next_begins q a = (a ∷ [], refl)

  -- one nibble on from it neither does a list
  -- a list that isn't a prefix of p isn't one with a nibble more
  next_above : (q : List ℕ) (a : ℕ) → (IsPrefix q p → ⊥) → IsPrefix (q ++ a ∷ []) p → ⊥
  next_above q a above i = above (prefix_through q (q ++ a ∷ []) p (next_begins q a) i)

  -- a list neither above nor below p isn't below p with one nibble more
  next_below : (q : List ℕ) (a : ℕ) → (IsPrefix q p → ⊥) → (IsPrefix p q → ⊥) → IsPrefix p (q ++ a ∷ []) → ⊥
  next_below q a above below i = elim (prefixes_nest p q (q ++ a ∷ []) i (next_begins q a)) [ inl x ↦ below x | inr x ↦ above x ]

  -- what is left has no further points
  pub point_before : (q : List ℕ) → IsPoint (without_below m p) q → IsPoint m q
  point_before q (inl e) = inl e
  point_before q (inr (inl s)) = inr (inl (stored_without p m q s).0)
  point_before q (inr (inr (a, b, ne, x, y))) = inr (inr (a, b, ne, reached_without _ x, reached_without _ y))

  -- the points neither above nor below p stay
  pub point_apart : (q : List ℕ) → (IsPrefix q p → ⊥) → (IsPrefix p q → ⊥) → IsPoint m q → IsPoint (without_below m p) q
  point_apart q above below (inl e) = inl e
  point_apart q above below (inr (inl s)) = inr (inl (without_stored p m q s below))
  point_apart q above below (inr (inr (a, b, ne, x, y))) = inr (inr (
    a,
    b,
    ne,
    reached_apart _ (next_above q a above) (next_below q a above below) x,
    reached_apart _ (next_above q b above) (next_below q b above below) y,
  ))

  -- at and below p only the empty list stays a point
  pub point_below : (q : List ℕ) → IsPrefix p q → IsPoint (without_below m p) q → q ≡ []
  point_below q i (inl e) = e
  point_below q i (inr (inl s)) = absurd ((stored_without p m q s).1 i)
  point_below q i (inr (inr (a, b, ne, x, y))) = absurd (not_reached (q ++ a ∷ []) (prefix_through p q (q ++ a ∷ []) i (next_begins q a)) x)

  -- the prefixes likewise
  -- what is left has no further prefixes of stored lists
  pub some_prefix_before : (q : List ℕ) → IsSomePrefix (without_below m p) q → IsSomePrefix m q
  some_prefix_before q (some, r) = (some, reached_without q r)

  -- the prefixes of stored lists that are neither above nor below p stay
  pub some_prefix_apart : (q : List ℕ) → (IsPrefix q p → ⊥) → (IsPrefix p q → ⊥) → IsSomePrefix m q → IsSomePrefix (without_below m p) q
  some_prefix_apart q above below (some, r) = (some, reached_apart q above below r)

  -- at and below p there is no prefix of a stored list any more
  pub some_prefix_below : (q : List ℕ) → IsPrefix p q → IsSomePrefix (without_below m p) q → ⊥
  some_prefix_below q i (some, r) = not_reached q i r
