-- Where the paths are the points, each node is full_by_branch_points.
use Rattle.std.proofs.Common.{◌≡◌, ℕ, suc, ◌≤◌, ◌⊎◌, List, [], ◌∷◌, ◌++◌, Option, IsSome, refl, sym, subst, ◌∙◌, inl, inr, arith}
use Rattle.nibble_map.specs.Trees.{Forest, bare, grow, AreMany, IsShaped, IsForestPlaced, IsFull, first}
use Rattle.nibble_map.proofs.ListLemmas.Cut.{cancel_front, cons_head}
use Rattle.nibble_map.proofs.TreeLemmas.Shape.{Under, In, At, Parts, Parts-split, Parts-later, Under-headed}

-- a forest whose children stand at their places, and whose nodes are full, is shaped
pub shaped_by_fullness : {P : Type 0} (low : ℕ) (k : Forest P) → IsForestPlaced low k → IsFull k → IsShaped low k
shaped_by_fullness low bare p f = tt
shaped_by_fullness low (grow f o children others) p u = (p.0, p.1, u.0, shaped_by_fullness 0 children p.2 u.1, shaped_by_fullness (suc (first f)) others p.3 u.2)

-- a list that leads to an entry of a placed forest begins with a nibble from `low` on
In-from : {P : Type 0} (low : ℕ) (k : Forest P) (x : List ℕ) → IsForestPlaced low k → In k x → (a : ℕ) × (w : List ℕ) × (x ≡ a ∷ w) × (low ≤ a)
In-from low bare x s i = absurd i
In-from low (grow f o children others) x s (inl u) = let r = Under-headed f _ x s.0 u in (first f, r.0, r.1, s.1)
In-from low (grow f o children others) x s (inr i) = let r = In-from (suc (first f)) others x s.3 i in (r.0, r.1, r.2, omega (arith, s.1, r.3))

-- a list that leads to a node of a placed forest begins with a nibble from `low` on
At-from : {P : Type 0} (low : ℕ) (k : Forest P) (x : List ℕ) → IsForestPlaced low k → At k x → (a : ℕ) × (w : List ℕ) × (x ≡ a ∷ w) × (low ≤ a)
At-from low bare x s i = absurd i
At-from low (grow f o children others) x s (inl u) = let r = Under-headed f _ x s.0 u in (first f, r.0, r.1, s.1)
At-from low (grow f o children others) x s (inr i) = let r = At-from (suc (first f)) others x s.3 i in (r.0, r.1, r.2, omega (arith, s.1, r.3))

-- an entry of a forest is in the first tree where it begins with that tree's first nibble, and else in the others
in_first : {P : Type 0} (low : ℕ) (f : List ℕ) (o : Option P) (children others : Forest P) (w : List ℕ) → IsForestPlaced low (grow f o children others) →
    In (grow f o children others) (first f ∷ w) → Under f (λ y. ((y ≡ []) × IsSome o) ⊎ In children y) (first f ∷ w)
in_first low f o children others w s (inl u) = u
in_first low f o children others w s (inr i) =
    let r = In-from (suc (first f)) others (first f ∷ w) s.3 i in absurd (omega (arith, cons_head r.2, r.3))

-- an entry that begins with a greater nibble than the first tree's is in the others
in_others : {P : Type 0} (low : ℕ) (f : List ℕ) (o : Option P) (children others : Forest P) (a : ℕ) (w : List ℕ) → IsForestPlaced low (grow f o children others) →
    suc (first f) ≤ a → In (grow f o children others) (a ∷ w) → In others (a ∷ w)
in_others low f o children others a w s l (inr i) = i
in_others low f o children others a w s l (inl u) = let r = Under-headed f _ (a ∷ w) s.0 u in absurd (omega (arith, cons_head r.1, l))

-- two entries with different first nibbles
-- a placed forest whose entries part at its place has many children
pub parted_many : {P : Type 0} (k : Forest P) → IsForestPlaced 0 k → Parts (In k) [] → AreMany k
parted_many bare s (a, b, ne, (x, i), r) = absurd i
parted_many (grow f o children (grow g p ls others)) s h = tt
parted_many (grow f o children bare) s (a, b, ne, (x, inl i), (y, inl j)) =
    absurd (ne (cons_head (Under-headed f _ (a ∷ x) s.0 i).1 ∙ sym (cons_head (Under-headed f _ (b ∷ y) s.0 j).1)))
parted_many (grow f o children bare) s (a, b, ne, (x, inl i), (y, inr j)) = absurd j
parted_many (grow f o children bare) s (a, b, ne, (x, inr i), (y, inl j)) = absurd i
parted_many (grow f o children bare) s (a, b, ne, (x, inr i), (y, inr j)) = absurd i

-- the same list, under a fragment
-- where f and y is f followed by a list of C, C holds of y
pub Under-same : (f : List ℕ) (C : List ℕ → Type 0) (y : List ℕ) → Under f C (f ++ y) → C y
Under-same f C y (z, e, c) = subst C (sym (cancel_front f y z e)) c

-- no node of a placed forest is at the forest's own place
pub no_node_here : {P : Type 0} (k : Forest P) → IsForestPlaced 0 k → At k [] → ⊥
no_node_here k s a = let r = At-from 0 k [] s a in let e : [] ≡ r.0 ∷ r.1 = r.2 in cc e

-- no entry of a placed forest is at the forest's own place
no_entry_here : {P : Type 0} (k : Forest P) → IsForestPlaced 0 k → In k [] → ⊥
no_entry_here k s a = let r = In-from 0 k [] s a in let e : [] ≡ r.0 ∷ r.1 = r.2 in cc e

-- what a place of the whole forest says of the first tree, by the list with its first nibble written out
first_part : {P : Type 0} (low : ℕ) (f : List ℕ) (o : Option P) (children others : Forest P) (y : List ℕ) → IsForestPlaced low (grow f o children others) →
    (In (grow f o children others) (f ++ y) ⊎ Parts (In (grow f o children others)) (f ++ y)) →
    (((y ≡ []) × IsSome o) ⊎ In children y) ⊎ Parts (In children) y
first_part low [] o children others y s h = absurd (s.0 refl)
first_part low (c ∷ f) o children others y s (inl i) = inl (Under-same (c ∷ f) _ y (in_first low (c ∷ f) o children others (f ++ y) s i))
first_part low (c ∷ f) o children others y s (inr (a, b, ne, (x, i), (x', j))) =
    inr (Parts-later o children y (Under-same (c ∷ f) _ y (Parts-split (c ∷ f) _ (c ∷ (f ++ y))
    (a, b, ne, (x, in_first low (c ∷ f) o children others _ s i), (x', in_first low (c ∷ f) o children others _ s j)))))

-- what a place of the whole forest says of the others, where it begins with a greater nibble
others_part : {P : Type 0} (low : ℕ) (f : List ℕ) (o : Option P) (children others : Forest P) (c : ℕ) (w : List ℕ) → IsForestPlaced low (grow f o children others) →
    suc (first f) ≤ c → (In (grow f o children others) (c ∷ w) ⊎ Parts (In (grow f o children others)) (c ∷ w)) →
    In others (c ∷ w) ⊎ Parts (In others) (c ∷ w)
others_part low f o children others c w s l (inl i) = inl (in_others low f o children others c w s l i)
others_part low f o children others c w s l (inr (a, b, ne, (x, i), (x', j))) =
    inr (a, b, ne, (x, in_others low f o children others c _ s l i), (x', in_others low f o children others c _ s l j))

-- a placed forest is full_by_branch_points where each of its nodes has an entry, or entries part there
pub full_by_branch_points : {P : Type 0} (low : ℕ) (k : Forest P) → IsForestPlaced low k → ((x : List ℕ) → At k x → In k x ⊎ Parts (In k) x) → IsFull k
full_by_branch_points low bare s h = tt
full_by_branch_points low (grow f o children others) s h = (
  here [] refl (first_part low f o children others [] s (h (f ++ []) (inl ([], refl, inl refl)))),
  full_by_branch_points 0 children s.2 (λ y a. kept y a (first_part low f o children others y s (h (f ++ y) (inl (y, refl, inr a))))),
  full_by_branch_points (suc (first f)) others s.3 (λ x a. beside x a (h x (inr a))),
)
  where
    here : (y : List ℕ) → y ≡ [] → ((((y ≡ []) × IsSome o) ⊎ In children y) ⊎ Parts (In children) y) → IsSome o ⊎ AreMany children
    here y e (inl (inl i)) = inl i.1
    here y e (inl (inr i)) = absurd (no_entry_here children s.2 (subst (In children) e i))
    here y e (inr p) = inr (parted_many children s.2 (subst (Parts (In children)) e p))

    kept : (y : List ℕ) → At children y → ((((y ≡ []) × IsSome o) ⊎ In children y) ⊎ Parts (In children) y) → In children y ⊎ Parts (In children) y
    kept y a (inl (inl i)) = absurd (no_node_here children s.2 (subst (At children) i.0 a))
    kept y a (inl (inr i)) = inl i
    kept y a (inr p) = inr p

    beside : (x : List ℕ) → At others x → (In (grow f o children others) x ⊎ Parts (In (grow f o children others)) x) → In others x ⊎ Parts (In others) x
    beside x a p =
        let r = At-from (suc (first f)) others x s.3 a in
        subst (λ z. In others z ⊎ Parts (In others) z) (sym r.2)
        (others_part low f o children others r.0 r.1 s r.3 (subst (λ z. In (grow f o children others) z ⊎ Parts (In (grow f o children others)) z) r.2 p))
