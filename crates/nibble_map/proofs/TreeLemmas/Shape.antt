-- The local shape of a forest makes its paths the places where its entries are or part, seen from the forest's own place.
use Rattle.std.proofs.Common.{◌≡◌, ℕ, suc, ◌≤◌, ◌≢◌, ◌⊎◌, List, [], ◌∷◌, ◌++◌, Option, IsSome, refl, sym, subst, ◌∙◌, inl, inr, append_assoc, arith}
use Rattle.nibble_map.specs.Trees.{Forest, bare, grow, AreMany, IsShaped, first}
use Rattle.nibble_map.proofs.ListLemmas.Cut.{join_two_ways, cancel_front, cons_head, cons_not_empty}

-- x is f followed by a list of which C holds
abbrev pub Under : List ℕ → (List ℕ → Type 0) → List ℕ → Type 0
Under f C x = (y : List ℕ) × (x ≡ f ++ y) × C y

-- x leads from the forest's place to an entry
abbrev pub In : {P : Type 0} → Forest P → List ℕ → Type 0
In bare x = ⊥
In (grow f o children others) x = Under f (λ y. ((y ≡ []) × IsSome o) ⊎ In children y) x ⊎ In others x

-- x leads from the forest's place to a node
abbrev pub At : {P : Type 0} → Forest P → List ℕ → Type 0
At bare x = ⊥
At (grow f o children others) x = Under f (λ y. (y ≡ []) ⊎ At children y) x ⊎ At others x

-- lists of E part at p
abbrev pub Parts : (List ℕ → Type 0) → List ℕ → Type 0
Parts E p = (a : ℕ) × (b : ℕ) × (a ≢ b) × ((x : List ℕ) × E (p ++ a ∷ x)) × ((y : List ℕ) × E (p ++ b ∷ y))

-- a list that isn't empty, by its first nibble
pub first_and_rest : (f : List ℕ) → f ≢ [] → (w : List ℕ) × (f ≡ first f ∷ w)
first_and_rest [] h = absurd (h refl)
first_and_rest (a ∷ f) h = (f, refl)

-- what goes on from a fragment that isn't empty begins with the fragment's first nibble
pub Under-headed : (f : List ℕ) (C : List ℕ → Type 0) (x : List ℕ) → f ≢ [] → Under f C x → (w : List ℕ) × (x ≡ first f ∷ w)
Under-headed [] C x h u = absurd (h refl)
Under-headed (a ∷ f) C x h u = (f ++ u.0, u.1)

-- a list that leads to an entry of a shaped forest begins with a nibble that is at least `low`
pub In-headed : {P : Type 0} (low : ℕ) (k : Forest P) (x : List ℕ) → IsShaped low k → In k x → (a : ℕ) × (w : List ℕ) × (x ≡ a ∷ w) × (low ≤ a)
In-headed low bare x s i = absurd i
In-headed low (grow f o children others) x s (inl u) = let r = Under-headed f _ x s.0 u in (first f, r.0, r.1, s.1)
In-headed low (grow f o children others) x s (inr i) = let r = In-headed (suc (first f)) others x s.4 i in (r.0, r.1, r.2, omega (arith, s.1, r.3))

-- a list that leads to a node of a shaped forest begins with a nibble that is at least `low`
pub At-headed : {P : Type 0} (low : ℕ) (k : Forest P) (x : List ℕ) → IsShaped low k → At k x → (a : ℕ) × (w : List ℕ) × (x ≡ a ∷ w) × (low ≤ a)
At-headed low bare x s i = absurd i
At-headed low (grow f o children others) x s (inl u) = let r = Under-headed f _ x s.0 u in (first f, r.0, r.1, s.1)
At-headed low (grow f o children others) x s (inr i) = let r = At-headed (suc (first f)) others x s.4 i in (r.0, r.1, r.2, omega (arith, s.1, r.3))

-- each node has an entry at or below it
pub node_leads_to_entry : {P : Type 0} (o : Option P) (children : Forest P) → (IsSome o ⊎ AreMany children) → IsShaped 0 children →
    (y : List ℕ) × (((y ≡ []) × IsSome o) ⊎ In children y)
node_leads_to_entry o bare (inl s) h = ([], inl (refl, s))
node_leads_to_entry o bare (inr m) h = absurd m
node_leads_to_entry o (grow f p ks bare) (inl s) h = ([], inl (refl, s))
node_leads_to_entry o (grow f p ks bare) (inr m) h = absurd m
node_leads_to_entry o (grow f p ks (grow g q ls others)) (inl s) h = ([], inl (refl, s))
node_leads_to_entry o (grow f p ks (grow g q ls others)) (inr m) h = let r = node_leads_to_entry p ks h.2 h.3 in (f ++ r.0, inr (inl (r.0, refl, r.1)))

-- an entry below a first child, by the child's first nibble
-- a shaped forest has an entry that begins with its first tree's first nibble
pub first_tree_has_entry : {P : Type 0} (f : List ℕ) (p : Option P) (ks others : Forest P) → f ≢ [] → (IsSome p ⊎ AreMany ks) → IsShaped 0 ks →
    (x : List ℕ) × In (grow f p ks others) (first f ∷ x)
first_tree_has_entry [] p ks others n t s = absurd (n refl)
first_tree_has_entry (a ∷ f) p ks others n t s = let r = node_leads_to_entry p ks t s in (f ++ r.0, inl (r.0, refl, r.1))

-- where there are two children or more, entries part
many_part : {P : Type 0} (k : Forest P) → AreMany k → IsShaped 0 k → Parts (In k) []
many_part bare m h = absurd m
many_part (grow f p ks bare) m h = absurd m
many_part (grow f p ks (grow g q ls others)) m h =
    let l = first_tree_has_entry f p ks (grow g q ls others) h.0 h.2 h.3 in
    let r = first_tree_has_entry g q ls others h.4.0 h.4.2 h.4.3 in
    (first f, first g, apart h.4.1, l, (r.0, inr r.1))
  where
    apart : {c d : ℕ} → suc c ≤ d → c ≢ d
    apart h e = omega (arith, h, e)

-- below a fragment
-- where lists of C part at y, and D has those with f put before, lists of D part at f and y
pub Parts-under : (f : List ℕ) (C D : List ℕ → Type 0) (y : List ℕ) → ((x : List ℕ) → C x → D (f ++ x)) → Parts C y → Parts D (f ++ y)
Parts-under f C D y h p = (p.0, p.1, p.2, (p.3.0, moved p.0 p.3.0 p.3.1), (p.4.0, moved p.1 p.4.0 p.4.1))
  where
    moved : (a : ℕ) (x : List ℕ) → C (y ++ a ∷ x) → D ((f ++ y) ++ a ∷ x)
    moved a x c = rw append_assoc (h (y ++ a ∷ x) c)

-- where lists of C part, lists of each D that has all of C part
pub Parts-more : (C D : List ℕ → Type 0) (y : List ℕ) → ((x : List ℕ) → C x → D x) → Parts C y → Parts D y
Parts-more C D y h p = (p.0, p.1, p.2, (p.3.0, h _ p.3.1), (p.4.0, h _ p.4.1))

-- a node has a pair, or entries part there
pub at_entry_or_branch_point : {P : Type 0} (low : ℕ) (k : Forest P) (x : List ℕ) → IsShaped low k → At k x → In k x ⊎ Parts (In k) x
at_entry_or_branch_point low bare x s a = absurd a
at_entry_or_branch_point low (grow f o children others) x s (inr a) =
    elim (at_entry_or_branch_point (suc (first f)) others x s.4 a) [
      | inl i ↦ inl (inr i)
      | inr p ↦ inr (Parts-more (In others) (In (grow f o children others)) x (λ z i. inr i) p)
    ]
at_entry_or_branch_point low (grow f o children others) x s (inl (y, e, inl n)) =
    elim s.2 [
      | inl t ↦ inl (inl (y, e, inl (n, t)))
      | inr m ↦ inr (rw (e, n) (Parts-under f (In children) (In (grow f o children others)) [] (λ z i. inl (z, refl, inr i)) (many_part children m s.3)))
    ]
at_entry_or_branch_point low (grow f o children others) x s (inl (y, e, inr a)) =
    elim (at_entry_or_branch_point 0 children y s.3 a) [
      | inl i ↦ inl (inl (y, e, inr i))
      | inr p ↦ inr (rw e (Parts-under f (In children) (In (grow f o children others)) y (λ z i. inl (z, refl, inr i)) p))
    ]

-- where an entry is, there is a node
pub entry_has_node : {P : Type 0} (k : Forest P) (x : List ℕ) → In k x → At k x
entry_has_node bare x i = absurd i
entry_has_node (grow f o children others) x (inr i) = inr (entry_has_node others x i)
entry_has_node (grow f o children others) x (inl (y, e, inl n)) = inl (y, e, inl n.0)
entry_has_node (grow f o children others) x (inl (y, e, inr i)) = inl (y, e, inr (entry_has_node children y i))

-- two lists that go on from q, of which one begins with a fragment that goes past q by d
-- where f goes on from q by d, each list that goes on from f goes on from q by d
same_next_nibble : (f q : List ℕ) (b d : ℕ) (x w y : List ℕ) → f ≡ q ++ d ∷ w → q ++ b ∷ x ≡ f ++ y → b ≡ d
same_next_nibble f q b d x w y h e = cons_head (cancel_front q (b ∷ x) (d ∷ (w ++ y)) (e ∙ joined))
  where
    joined : f ++ y ≡ q ++ d ∷ (w ++ y)
    joined = rw (h, append_assoc) refl

-- of lists below a fragment: those that part at q part below the fragment
pub Parts-split : (f : List ℕ) (C : List ℕ → Type 0) (q : List ℕ) → Parts (Under f C) q → Under f (Parts C) q
Parts-split f C q (a, b, ne, (x, (y, e, c)), (x', (y', e', c'))) =
    elim (join_two_ways f y q (a ∷ x) (sym e)) [
      | inl z ↦ (z.0, z.1, (a, b, ne, (x, subst C z.2 c), (x', subst C (other z.0 z.1) c')))
      | inr w ↦ absurd (ne (cons_head w.3 ∙ sym (same_next_nibble f q b w.0 x' w.1 y' w.2 e')))
    ]
  where
    other : (z : List ℕ) → q ≡ f ++ z → y' ≡ z ++ b ∷ x'
    other z h = cancel_front f y' (z ++ b ∷ x') (sym e' ∙ rw (h, append_assoc) refl)

-- a forest's entries that part after a first nibble do so in one of its trees
Parts-one : {P : Type 0} (low : ℕ) (f : List ℕ) (o : Option P) (children others : Forest P) (c : ℕ) (q : List ℕ) →
    IsShaped low (grow f o children others) → Parts (In (grow f o children others)) (c ∷ q) →
    Parts (Under f (λ y. ((y ≡ []) × IsSome o) ⊎ In children y)) (c ∷ q) ⊎ Parts (In others) (c ∷ q)
Parts-one low f o children others c q s (a, b, ne, (x, inl u), (y, inl v)) = inl (a, b, ne, (x, u), (y, v))
Parts-one low f o children others c q s (a, b, ne, (x, inr u), (y, inr v)) = inr (a, b, ne, (x, u), (y, v))
Parts-one low f o children others c q s (a, b, ne, (x, inl u), (y, inr v)) =
    let l = Under-headed f _ (c ∷ (q ++ a ∷ x)) s.0 u in
    let r = In-headed (suc (first f)) others (c ∷ (q ++ b ∷ y)) s.4 v in
    absurd (omega (arith, cons_head l.1, cons_head r.2, r.3))
Parts-one low f o children others c q s (a, b, ne, (x, inr u), (y, inl v)) =
    let l = Under-headed f _ (c ∷ (q ++ b ∷ y)) s.0 v in
    let r = In-headed (suc (first f)) others (c ∷ (q ++ a ∷ x)) s.4 u in
    absurd (omega (arith, cons_head l.1, cons_head r.2, r.3))

-- lists that part aren't the empty one
-- where the entries at and below a node part, those of its children part
pub Parts-later : {P : Type 0} (o : Option P) (children : Forest P) (y : List ℕ) →
    Parts (λ z. ((z ≡ []) × IsSome o) ⊎ In children z) y → Parts (In children) y
Parts-later o children y (a, b, ne, (x, h), (x', k)) = (a, b, ne, (x, later a x h), (x', later b x' k))
  where
    later : (d : ℕ) (w : List ℕ) → ((y ++ d ∷ w ≡ []) × IsSome o) ⊎ In children (y ++ d ∷ w) → In children (y ++ d ∷ w)
    later d w (inl n) = absurd (cons_not_empty y d w n.0)
    later d w (inr i) = i

-- where entries part after a first nibble, there is a node
pub branch_point_has_node : {P : Type 0} (low : ℕ) (k : Forest P) (c : ℕ) (q : List ℕ) → IsShaped low k → Parts (In k) (c ∷ q) → At k (c ∷ q)
branch_point_has_node low bare c q s (a, b, ne, (x, i), r) = absurd i
branch_point_has_node low (grow f o children others) c q s p =
    elim (Parts-one low f o children others c q s p) [
      | inl l ↦ inl (deeper (λ d z. branch_point_has_node 0 children d z s.3) (Parts-split f _ (c ∷ q) l))
      | inr r ↦ inr (branch_point_has_node (suc (first f)) others c q s.4 r)
    ]
  where
    deeper : ((d : ℕ) (z : List ℕ) → Parts (In children) (d ∷ z) → At children (d ∷ z)) →
        Under f (Parts (λ y. ((y ≡ []) × IsSome o) ⊎ In children y)) (c ∷ q) → Under f (λ y. (y ≡ []) ⊎ At children y) (c ∷ q)
    deeper g ([], e, h) = ([], e, inl refl)
    deeper g (d ∷ z, e, h) = (d ∷ z, e, inr (g d z (Parts-later o children (d ∷ z) h)))
