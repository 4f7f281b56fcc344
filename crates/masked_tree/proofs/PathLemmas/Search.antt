-- The longest and the shortest paths of a kept tree, from a child's to its parent's.
use Rattle.std.proofs.Common.{◌≡◌, ◌≢◌, ◌⊎◌, ℕ, zero, suc, ◌<◌, ◌≤◌, List, [], ◌∷◌, ◌++◌, length, refl, ap, sym, subst, ◌∙◌, arith, inl, inr, append-nil, eq-eqb, ne_eqb}
use Rattle.std.proofs.lemmas.List.{length-append}
use Rattle.std.proofs.lemmas.Bool.Decides.{eqb_tells}
use Rattle.nibble_map.specs.Lists.{IsPrefix, Has, Counts}
use Rattle.nibble_map.specs.Answers.{IsLongest, IsShortest}
use Rattle.masked_tree.specs.Agreement.{Agrees}
use Rattle.nibble_map.specs.Trees.{first, along, walked}
use Rattle.masked_tree.specs.Mask.{bit_of}
use Rattle.masked_tree.specs.Tree.{Tree, Children, none, more, plain, IsAt, firsts, IsPlaced, IsTreePlaced}
use Rattle.masked_tree.specs.Paths.{IsChildAt, IsPath, IsHeld, IsOnWay, IsStuck}
use Rattle.nibble_map.proofs.ListLemmas.Cut.{empty_of_length}
use Rattle.masked_tree.proofs.PathLemmas.Agreement.{agrees_part}
use Rattle.masked_tree.proofs.TreeLemmas.Children.{child_begins_from}
use Rattle.masked_tree.proofs.PathLemmas.Paths.{child_headed, no_child_here, below_from_child, below_to_child, node_from_child, held_node, node_held, held_from_child}
use Rattle.masked_tree.proofs.PathLemmas.BehindFragment.{prefix_below, append_no_shorter, count_up, longest_up, shortest_up, head_same, rest_same}

module _ {P : Type 0} where
  -- a tree's fragment is the path of a node, its own
  own_path : (t : Tree P) → IsPath t t.fragment
  own_path t = (t, inl (refl, refl))

  -- a node's path is no shorter than the tree's fragment
  path_long : (t : Tree P) (q : List ℕ) → IsPath t q → length t.fragment ≤ length q
  path_long t q (u, inl e) = let a = ap length e.0 in omega (arith, a)
  path_long t q (u, inr e) = let a = ap length e.1 in let b = append_no_shorter t.fragment e.0 in omega (arith, a, b)

  -- where nothing below leads on
  -- where no node below is on the way, the tree's own path is the longest that leads there
  pub longest_here : (t : Tree P) (rest : List ℕ) → IsStuck t rest → IsLongest (IsPath t) (t.fragment ++ rest) t.fragment
  longest_here t rest s = record {
    member = own_path t;
    above = (rest, refl);
    longest = λ q h p. elim h.1 [
      | inl e ↦ (let a = ap length e.0 in omega (arith, a))
      | inr e ↦ absurd (s e.0 h.0 e.2 (prefix_below t.fragment e.0 rest (subst (λ z. IsPrefix z (t.fragment ++ rest)) e.1 p)))
    ];
  }

  -- where no node below is on the way, the tree's own is the only one
  pub count_here : (t : Tree P) (rest : List ℕ) → IsStuck t rest → Counts (IsOnWay t (t.fragment ++ rest)) 1
  count_here t rest s = record { list = t.fragment ∷ []; lists = record { rising = (tt, tt); exactly = λ q. (to q, from q) }; length_is = refl }
    where
      to : (q : List ℕ) → Has (t.fragment ∷ []) q → IsOnWay t (t.fragment ++ rest) q
      to q (inl e) = subst (IsOnWay t (t.fragment ++ rest)) (sym e) (own_path t, (rest, refl))
      to q (inr h) = absurd h

      from : (q : List ℕ) → IsOnWay t (t.fragment ++ rest) q → Has (t.fragment ∷ []) q
      from q (h, p) = elim h.1 [
        | inl e ↦ inl e.0
        | inr e ↦ absurd (s e.0 h.0 e.2 (prefix_below t.fragment e.0 rest (subst (λ z. IsPrefix z (t.fragment ++ rest)) e.1 p)))
      ]

  -- where no node below is on the way and the tree has a pair, that is the longest held
  pub held_longest : (t : Tree P) (rest : List ℕ) → IsStuck t rest → IsHeld t t.fragment → IsLongest (IsHeld t) (t.fragment ++ rest) t.fragment
  held_longest t rest s own_pair = record {
    member = own_pair;
    above = (rest, refl);
    longest = λ q h p. (let r = held_node t q h in (longest_here t rest s).longest q (r.0, r.2) p);
  }

  -- where no node below is on the way and the tree has no pair, none is held on the way
  pub held_none : (t : Tree P) (rest : List ℕ) → IsStuck t rest → (IsHeld t t.fragment → ⊥) → (q : List ℕ) → IsHeld t q → IsPrefix q (t.fragment ++ rest) → ⊥
  held_none t rest s free q h p =
      let r = held_node t q h in
      elim r.2 [
        | inl e ↦ free (subst (λ z. IsHeld t z) e.0 h)
        | inr e ↦ s e.0 r.0 e.2 (prefix_below t.fragment e.0 rest (subst (λ z. IsPrefix z (t.fragment ++ rest)) e.1 p))
      ]

  -- where the list has ended, no node below is on the way
  pub stuck_end : (t : Tree P) → IsTreePlaced t → IsStuck t []
  stuck_end t h x u d p = let r = child_headed 0 t.children x u h.1 d in let e : [] ≡ r.0 ∷ (r.1 ++ p.0) = p.1 ∙ ap (λ z. z ++ p.0) r.2 in cc e

  -- where the list ends at the tree's own path, that is the shortest that it begins
  pub shortest_here : (t : Tree P) → IsShortest (IsPath t) (t.fragment ++ []) t.fragment
  shortest_here t = record {
    member = own_path t;
    below = ([], sym (append-nil (t.fragment ++ []) ∙ append-nil t.fragment));
    shortest = λ q h p. path_long t q h;
  }

  -- a child that the rest leads to
  module _ (t c : Tree P) (i : ℕ) (rest : List ℕ) (h : IsTreePlaced t) (a : IsAt i t.children c) (some : rest ≢ []) (start : first rest ≡ first c.fragment) where
    -- a child's path is one of the tree, behind the tree's fragment
    path_from_child : (x : List ℕ) → IsPath c x → IsPath t (t.fragment ++ x)
    path_from_child x d = (d.0, node_from_child t c i h a x d.0 d.1)

    -- a path of the tree that begins the list is the tree's own or comes from the child
    up_along : (q : List ℕ) → IsPath t q → IsPrefix q (t.fragment ++ rest) → (q ≡ t.fragment) ⊎ ((y : List ℕ) × (q ≡ t.fragment ++ y) × IsPath c y)
    up_along q (u, inl e) p = inl e.0
    up_along q (u, inr e) p =
        let r = child_headed 0 t.children e.0 u h.1 e.2 in
        let s = prefix_below t.fragment e.0 rest (subst (λ z. IsPrefix z (t.fragment ++ rest)) e.1 p) in
        inr (e.0, e.1, (u, below_to_child 0 i t.children c e.0 u h.1 a e.2 (head_same e.0 rest s.0 r.0 r.1 r.2 s.1 ∙ start)))

    -- where the list leads on to a child, the child's longest path on the way is the tree's
    pub longest_in_child : (x : List ℕ) → IsLongest (IsPath c) rest x → IsLongest (IsPath t) (t.fragment ++ rest) (t.fragment ++ x)
    longest_in_child x l = longest_up (IsPath t) (IsPath c) t.fragment rest x path_from_child up_along l

    -- a child's path isn't empty, and behind the tree's fragment it is one of the tree
    some_from_child : (x : List ℕ) → IsPath c x → (x ≢ []) × IsPath t (t.fragment ++ x)
    some_from_child x d = (
      (λ e. no_child_here t.children d.0 h.1 (subst (λ y. IsChildAt t.children y d.0) e (below_from_child i t.children c x d.0 a d.1))),
      path_from_child x d,
    )

    -- where the list leads on to a child, one more node of the tree is on the way than of the child
    pub count_through_child : (n : ℕ) → Counts (IsOnWay c rest) n → Counts (IsOnWay t (t.fragment ++ rest)) (suc n)
    count_through_child n w = count_up (IsPath t) (IsPath c) t.fragment rest n (own_path t) some_from_child up_along w

    -- a path held by the tree that begins the list is the tree's own or held by the child
    held_along : (q : List ℕ) → IsHeld t q → IsPrefix q (t.fragment ++ rest) → (q ≡ t.fragment) ⊎ ((y : List ℕ) × (q ≡ t.fragment ++ y) × IsHeld c y)
    held_along q d p =
        let r = held_node t q d in
        elim r.2 [
          | inl e ↦ inl e.0
          | inr e ↦ (let k = child_headed 0 t.children e.0 r.0 h.1 e.2 in
              let s = prefix_below t.fragment e.0 rest (subst (λ z. IsPrefix z (t.fragment ++ rest)) e.1 p) in
              inr (e.0, e.1, node_held c e.0 r.0 r.1 (below_to_child 0 i t.children c e.0 r.0 h.1 a e.2 (head_same e.0 rest s.0 k.0 k.1 k.2 s.1 ∙ start)) r.3))
        ]

    -- where the list leads on to a child, the child's longest held path is the tree's
    pub held_longest_in_child : (x : List ℕ) → IsLongest (IsHeld c) rest x → IsLongest (IsHeld t) (t.fragment ++ rest) (t.fragment ++ x)
    held_longest_in_child x l = longest_up (IsHeld t) (IsHeld c) t.fragment rest x (held_from_child t c i h a) held_along l

    -- where the child holds nothing on the way, the tree's own pair is the longest, or none
    pub held_longest_own : ((q : List ℕ) → IsHeld c q → IsPrefix q rest → ⊥) → IsHeld t t.fragment → IsLongest (IsHeld t) (t.fragment ++ rest) t.fragment
    held_longest_own free own_pair = record {
      member = own_pair;
      above = (rest, refl);
      longest = λ q d p. elim (held_along q d p) [
        | inl e ↦ (let l = ap length e in omega (arith, l))
        | inr e ↦ absurd (free e.0 e.2 (prefix_below t.fragment e.0 rest (subst (λ z. IsPrefix z (t.fragment ++ rest)) e.1 p)))
      ];
    }

    -- where neither the child nor the tree itself holds a pair on the way, none is held
    pub held_none_in_child : ((q : List ℕ) → IsHeld c q → IsPrefix q rest → ⊥) → (IsHeld t t.fragment → ⊥) → (q : List ℕ) → IsHeld t q → IsPrefix q (t.fragment ++ rest) → ⊥
    held_none_in_child free bare q d p = elim (held_along q d p) [
      | inl e ↦ bare (subst (λ z. IsHeld t z) e d)
      | inr e ↦ free e.0 e.2 (prefix_below t.fragment e.0 rest (subst (λ z. IsPrefix z (t.fragment ++ rest)) e.1 p))
    ]

    -- a path of the tree that the list begins comes from the child
    up_past : (q : List ℕ) → IsPath t q → IsPrefix (t.fragment ++ rest) q → (y : List ℕ) × (q ≡ t.fragment ++ y) × IsPath c y
    up_past q (u, inl e) p =
        let l = ap length (sym e.0 ∙ p.1) in let m = length-append (t.fragment ++ rest) p.0 in let n = length-append t.fragment rest in
        absurd (some (empty_of_length rest (omega (arith, l, m, n))))
    up_past q (u, inr e) p =
        let s = prefix_below t.fragment rest e.0 (subst (λ z. IsPrefix (t.fragment ++ rest) z) e.1 p) in
        (e.0, e.1, (u, below_to_child 0 i t.children c e.0 u h.1 a e.2 (rest_same e.0 rest s.0 some s.1 ∙ start)))

    -- where the list leads on to a child, the child's shortest path from there on is the tree's
    pub shortest_in_child : (x : List ℕ) → IsShortest (IsPath c) rest x → IsShortest (IsPath t) (t.fragment ++ rest) (t.fragment ++ x)
    shortest_in_child x l = shortest_up (IsPath t) (IsPath c) t.fragment rest x path_from_child up_past l

    -- where the list begins no path of the child that it leads to, it begins none of the tree
    pub none_in_child : ((q : List ℕ) → IsPath c q → IsPrefix rest q → ⊥) → (q : List ℕ) → IsPath t q → IsPrefix (t.fragment ++ rest) q → ⊥
    none_in_child free q d p =
        let r = up_past q d p in free r.0 r.2 (prefix_below t.fragment rest r.0 (subst (λ z. IsPrefix (t.fragment ++ rest) z) r.1 p))

  -- no child begins so
  -- where no child begins with the next nibble, the list begins no path of the tree
  pub none_gap : (t : Tree P) (rest : List ℕ) → IsTreePlaced t → rest ≢ [] → bit_of (first rest) (firsts t.children) ≡ 0 → (q : List ℕ) → IsPath t q → IsPrefix (t.fragment ++ rest) q → ⊥
  none_gap t rest h some b q (u, inl e) p =
      let l = ap length (sym e.0 ∙ p.1) in let m = length-append (t.fragment ++ rest) p.0 in let n = length-append t.fragment rest in
      some (empty_of_length rest (omega (arith, l, m, n)))
  none_gap t rest h some b q (u, inr e) p =
      let s = prefix_below t.fragment rest e.0 (subst (λ z. IsPrefix (t.fragment ++ rest) z) e.1 p) in
      let r = child_headed 0 t.children e.0 u h.1 e.2 in
      let z = ap (λ n. bit_of n (firsts t.children)) (sym (ap first r.2) ∙ rest_same e.0 rest s.0 some s.1) in
      omega (arith, z, r.4, b)

  -- the rest ends within the child's fragment
  -- where the list ends within a child's fragment, that child's own path is the shortest
  pub shortest_inside : (c : Tree P) (rest past : List ℕ) → c.fragment ≡ rest ++ past → IsShortest (IsPath c) rest c.fragment
  shortest_inside c rest past e = record {
    member = own_path c;
    below = (past, e);
    shortest = λ q h p. path_long c q h;
  }

  -- the rest parts from the child's fragment
  -- where the list parts from a child's fragment, it begins no path of that child
  pub none_parted : (c : Tree P) (rest : List ℕ) (n k : ℕ) → Agrees c.fragment rest n k → n < length c.fragment → n < length rest → (q : List ℕ) → IsPath c q → IsPrefix rest q → ⊥
  none_parted c rest n k ag l m q (u, inl e) p = agrees_part c.fragment rest n k [] p.0 ag l m (append-nil c.fragment ∙ sym e.0 ∙ p.1)
  none_parted c rest n k ag l m q (u, inr e) p = agrees_part c.fragment rest n k e.0 p.0 ag l m (sym e.1 ∙ p.1)

  -- what is compared in a search
  -- a search for a list with which no child begins compares nothing
  walked-cons_gap : (low : ℕ) (k : Children P) (b : ℕ) (r : List ℕ) → IsPlaced low k → bit_of b (firsts k) ≡ 0 → walked (plain k) (b ∷ r) ≡ 0
  walked-cons_gap low none b r h z = refl
  walked-cons_gap low (more f o m children others) b r h z = elim (eqb_tells (first f) b) [
    | inl e ↦ absurd (let i = rw e.0 at z in omega (arith, i))
    | inr e ↦ (let i = rw e.0 at z in rw e.0 (walked-cons_gap (suc (first f)) others b r h.4 i))
  ]

  -- a search for a list with whose first nibble a child begins goes on along that child
  walked-cons_child : (low i : ℕ) (k : Children P) (c : Tree P) (b : ℕ) (r : List ℕ) → IsPlaced low k → IsAt i k c → first c.fragment ≡ b →
      walked (plain k) (b ∷ r) ≡ along c.fragment (b ∷ r) (λ rest. walked (plain c.children) rest)
  walked-cons_child low i none c b r h a e = absurd a
  walked-cons_child low zero (more f o m children others) c b r h a e =
      let e' : first f ≡ b = ap (λ (t : Tree P). first t.fragment) (sym a) ∙ e in
      rw (eq-eqb (first f) b e') (ap (λ (t : Tree P). along t.fragment (b ∷ r) (λ rest. walked (plain t.children) rest)) (sym a))
  walked-cons_child low (suc i) (more f o m children others) c b r h a e =
      rw (ne_eqb (first f) b (let l = child_begins_from (suc (first f)) i others c a h.4 in λ z. omega (arith, l, z, e))) (walked-cons_child (suc (first f)) i others c b r h.4 a e)

-- a search for the empty list compares nothing
pub walked-nil : {P : Type 0} (k : Children P) → walked (plain k) [] ≡ 0
walked-nil none = refl
walked-nil (more f o m children others) = refl

-- the same for a list that goes on
-- where no child of a placed tree begins with the list's first nibble, a search compares nothing
pub walked-gap : {P : Type 0} (t : Tree P) (r : List ℕ) → IsTreePlaced t → bit_of (first r) (firsts t.children) ≡ 0 → walked (plain t.children) r ≡ 0
walked-gap t [] h z = walked-nil t.children
walked-gap t (b ∷ r) h z = walked-cons_gap 0 t.children b r h.1 z

-- where a child of a placed tree begins as the list does, a search goes on along that child
pub walked-child : {P : Type 0} (t c : Tree P) (i : ℕ) (r : List ℕ) → IsTreePlaced t → IsAt i t.children c → r ≢ [] → first r ≡ first c.fragment →
    walked (plain t.children) r ≡ along c.fragment r (λ rest. walked (plain c.children) rest)
walked-child t c i [] h a s e = absurd (s refl)
walked-child t c i (b ∷ r) h a s e = walked-cons_child 0 i t.children c b r h.1 a (sym e)

-- along a fragment no more is compared than the list is long, if that holds behind it
along_most : (f r : List ℕ) (g : List ℕ → ℕ) → ((x : List ℕ) → g x ≤ length x) → along f r g ≤ length r
along_most [] r g h = h r
along_most (a ∷ f) [] g h = omega arith
along_most (a ∷ f) (b ∷ r) g h = elim (eqb_tells a b) [
  | inl e ↦ rw e.0 (omega (arith, along_most f r g h))
  | inr e ↦ rw e.0 (omega arith)
]

-- a search compares no more nibbles than the list has
pub walked_most : {P : Type 0} (k : Children P) (r : List ℕ) → walked (plain k) r ≤ length r
walked_most none r = omega arith
walked_most (more f o m children others) [] = omega arith
walked_most (more f o m children others) (b ∷ r) = elim (eqb_tells (first f) b) [
  | inl e ↦ rw e.0 (along_most f (b ∷ r) (λ rest. walked (plain children) rest) (λ x. walked_most children x))
  | inr e ↦ rw e.0 (walked_most others (b ∷ r))
]
