-- The part of a tree at and below one of its nodes.
use Rattle.std.proofs.Common.{◌≡◌, ◌≢◌, ◌⊎◌, inl, inr, Bool, true, false, ℕ, zero, suc, ◌<◌, ◌≤◌, List, [], ◌∷◌, ◌++◌, filter, Option, Some, None, refl, ap, sym, subst, ◌∙◌, append_assoc, append-nil, arith}
use Rattle.std.proofs.lemmas.List.Elements.{filter-append}
use Rattle.masked_tree.specs.Tree.{Tree, Children, none, more, plain, IsPlaced, IsTreePlaced, IsTreeFull, IsFullBelow, entries_in, entries_at}
use Rattle.masked_tree.specs.Paths.{IsChildAt, IsNodeAt}
use Rattle.nibble_map.specs.Lists.{Has, IsPrefix, is_prefix}
use Rattle.nibble_map.specs.Swaps.{entry}
use Rattle.nibble_map.specs.Trees.{IsFull, first}
use Rattle.nibble_map.proofs.ListLemmas.Cut.{cancel_front, rest_is_empty, first-append}
use Rattle.masked_tree.proofs.PathLemmas.Paths.{nothing_appended, child_headed, no_child_here, has_node, none_is_not_some}
use Rattle.masked_tree.proofs.PathLemmas.BehindFragment.{prefix_below}
use Rattle.nibble_map.proofs.ListLemmas.Parted.{prefix_by_test, is_prefix_true, prefix_through}

-- a number that is at most another is equal to it or less
pub le-cases : (m n : ℕ) → m ≤ n → (m ≡ n) ⊎ (m < n)
le-cases zero zero h = inl refl
le-cases zero (suc n) h = inr (omega arith)
le-cases (suc m) zero h = absurd (omega arith)
le-cases (suc m) (suc n) h = elim (le-cases m n (omega arith)) [ inl i ↦ inl (ap suc i) | inr l ↦ inr (omega arith) ]

-- where two lists joined are empty, the first one is
front_nil : (x z : List ℕ) → x ++ z ≡ [] → x ≡ []
front_nil [] z e = refl
front_nil (a ∷ x) z e = cc e

-- a filter whose test each item passes keeps the list
filter_all : {A : Type 0} (test : A → Bool) (xs : List A) → ((x : A) → Has xs x → test x ≡ true) → filter test xs ≡ xs
filter_all test [] h = refl
filter_all test (x ∷ xs) h = rw (h x (inl refl)) (ap (λ ys. x ∷ ys) (filter_all test xs (λ y i. h y (inr i))))

-- a filter whose test no item passes leaves nothing
pub filter_none : {A : Type 0} (test : A → Bool) (xs : List A) → ((x : A) → Has xs x → test x ≡ false) → filter test xs ≡ []
filter_none test [] h = refl
filter_none test (x ∷ xs) h = rw (h x (inl refl)) (filter_none test xs (λ y i. h y (inr i)))

-- a Bool is true or false
pub true_or_false : (b : Bool) → (b ≡ true) ⊎ (b ≡ false)
true_or_false true = inl refl
true_or_false false = inr refl

-- where x is f and more, and f isn't empty, x begins with f's first nibble
pub first_same : (f x y z : List ℕ) → f ≢ [] → x ≡ f ++ y → first (x ++ z) ≡ first f
first_same f x y z n e = ap (λ w. first (w ++ z)) e ∙ ap first (append_assoc f y z) ∙ first-append f (y ++ z) n

-- where p is no prefix of e, the test for it says false
pub is_prefix-apart : (p e : List ℕ) → (IsPrefix p e → ⊥) → is_prefix p e ≡ false
is_prefix-apart p e apart = elim (true_or_false (is_prefix p e)) [ inl i ↦ absurd (apart (prefix_by_test p e i)) | inr i ↦ i ]

module _ {P : Type 0} where
  -- a path below children placed from `low` on begins with no lower nibble
  pub first_low : (low : ℕ) (k : Children P) (x : List ℕ) (u : Tree P) (z : List ℕ) → IsPlaced low k → IsChildAt k x u → low ≤ first (x ++ z)
  first_low low k x u z h i = let r = child_headed low k x u h i in let e = ap (λ y. first (y ++ z)) r.2 in omega (arith, e, r.3)

  -- at the list of each entry below some children stands a node of theirs
  pub has_child : (q : List ℕ) (k : Children P) (p : List ℕ) (v : P) → Has (entries_in q k) (p, v) → (x : List ℕ) × (u : Tree P) × (p ≡ q ++ x) × IsChildAt k x u
  has_child q k p v h =
      let r = has_node (record { fragment = q; pair = None; mask = 0; children = k }) p v h in
      elim r.1 [ inl e ↦ absurd (none_is_not_some (sym (ap (λ (t : Tree P). t.pair) e.1) ∙ r.2)) | inr e ↦ (e.0, r.0, e.1, e.2) ]

  -- no path both begins with f's first nibble and stands among the children after f
  no_path_in_both : (f : List ℕ) (others : Children P) (y : List ℕ) (w : Tree P) (x z : List ℕ) → f ≢ [] → IsPlaced (suc (first f)) others → IsChildAt others y w
      → x ++ z ≡ y → first (x ++ z) ≡ first f → ⊥
  no_path_in_both f others y w x z n h i e same =
      let low = first_low (suc (first f)) others y w [] h i in
      let whole = ap first (append-nil y) in
      let at = ap first e in omega (arith, low, whole, at, same)

  -- what stands at z below the node at x stands at x and z, below some children
  child_down : (k : Children P) (x : List ℕ) (u : Tree P) (z : List ℕ) (w : Tree P) → IsChildAt k x u → IsChildAt u.children z w → IsChildAt k (x ++ z) w
  child_down none x u z w i d = absurd i
  child_down (more f o m children others) x u z w (inl i) d = inr (inl (z, ap (λ y. y ++ z) i.0, subst (λ (t : Tree P). IsChildAt t.children z w) i.1 d))
  child_down (more f o m children others) x u z w (inr (inl i)) d =
      inr (inl (i.0 ++ z, ap (λ y. y ++ z) i.1 ∙ append_assoc f i.0 z, child_down children i.0 u z w i.2 d))
  child_down (more f o m children others) x u z w (inr (inr i)) d = inr (inr (child_down others x u z w i d))

  -- of some children, a node below whose path goes on from that of u by z stands at z below u
  child_up : (low : ℕ) (k : Children P) (x : List ℕ) (u : Tree P) (z : List ℕ) (w : Tree P) → IsPlaced low k → z ≢ [] → IsChildAt k x u → IsChildAt k (x ++ z) w
      → IsChildAt u.children z w
  child_up low none x u z w h n i d = absurd i
  child_up low (more f o m children others) x u z w h n (inl i) (inl d) = absurd (n (nothing_appended f z (ap (λ y. y ++ z) (sym i.0) ∙ d.0)))
  child_up low (more f o m children others) x u z w h n (inl i) (inr (inl d)) =
      let below : IsChildAt children z w = subst (λ y. IsChildAt children y w) (sym (cancel_front f z d.0 (ap (λ y. y ++ z) (sym i.0) ∙ d.1))) d.2 in
      subst (λ (t : Tree P). IsChildAt t.children z w) (sym i.1) below
  child_up low (more f o m children others) x u z w h n (inl i) (inr (inr d)) =
      absurd (no_path_in_both f others (x ++ z) w x z h.0 h.4 d refl (first_same f x [] z h.0 (i.0 ∙ sym (append-nil f))))
  child_up low (more f o m children others) x u z w h n (inr (inl i)) (inl d) =
      absurd (n (rest_is_empty i.0 z (nothing_appended f (i.0 ++ z) (sym (ap (λ y. y ++ z) i.1 ∙ append_assoc f i.0 z) ∙ d.0))))
  child_up low (more f o m children others) x u z w h n (inr (inl i)) (inr (inl d)) =
      let same = cancel_front f (i.0 ++ z) d.0 (sym (ap (λ y. y ++ z) i.1 ∙ append_assoc f i.0 z) ∙ d.1) in
      child_up 0 children i.0 u z w h.3 n i.2 (subst (λ y. IsChildAt children y w) (sym same) d.2)
  child_up low (more f o m children others) x u z w h n (inr (inl i)) (inr (inr d)) =
      absurd (no_path_in_both f others (x ++ z) w x z h.0 h.4 d refl (first_same f x i.0 z h.0 i.1))
  child_up low (more f o m children others) x u z w h n (inr (inr i)) (inl d) =
      absurd (let l = first_low (suc (first f)) others x u z h.4 i in let e = ap first d.0 in omega (arith, l, e))
  child_up low (more f o m children others) x u z w h n (inr (inr i)) (inr (inl d)) =
      absurd (let l = first_low (suc (first f)) others x u z h.4 i in let e = ap first d.1 ∙ first-append f d.0 h.0 in omega (arith, l, e))
  child_up low (more f o m children others) x u z w h n (inr (inr i)) (inr (inr d)) = child_up (suc (first f)) others x u z w h.4 n i d

  -- what stands at z below a tree's node at x stands in the tree at x and z
  pub node_down : (t : Tree P) (x : List ℕ) (u : Tree P) (z : List ℕ) (w : Tree P) → IsNodeAt t x u → IsChildAt u.children z w → IsNodeAt t (x ++ z) w
  node_down t x u z w (inl i) d = inr (z, ap (λ y. y ++ z) i.0, subst (λ (v : Tree P). IsChildAt v.children z w) i.1 d)
  node_down t x u z w (inr i) d = inr (i.0 ++ z, ap (λ y. y ++ z) i.1 ∙ append_assoc t.fragment i.0 z, child_down t.children i.0 u z w i.2 d)

  -- a child's path ends with its fragment
  child_ends : (k : Children P) (x : List ℕ) (u : Tree P) → IsChildAt k x u → (q : List ℕ) × (x ≡ q ++ u.fragment)
  child_ends none x u at = absurd at
  child_ends (more f o m children others) x u (inl (is, e)) = ([], is ∙ ap (λ t. t.fragment) (sym e))
  child_ends (more f o m children others) x u (inr (inl (y, is, at))) =
      let rest = child_ends children y u at in (f ++ rest.0, is ∙ ap (λ z. f ++ z) rest.1 ∙ sym (append_assoc f rest.0 u.fragment))
  child_ends (more f o m children others) x u (inr (inr at)) = child_ends others x u at

  -- and so does a node's
  pub node_ends : (t : Tree P) (x : List ℕ) (u : Tree P) → IsNodeAt t x u → (q : List ℕ) × (x ≡ q ++ u.fragment)
  node_ends t x u (inl (is, e)) = ([], is ∙ ap (λ t. t.fragment) (sym e))
  node_ends t x u (inr (y, is, at)) =
      let rest = child_ends t.children y u at in (t.fragment ++ rest.0, is ∙ ap (λ z. t.fragment ++ z) rest.1 ∙ sym (append_assoc t.fragment rest.0 u.fragment))

  -- a tree's node whose path goes on from that of u by z stands at z below u
  pub node_up : (t : Tree P) (x : List ℕ) (u : Tree P) (z : List ℕ) (w : Tree P) → IsTreePlaced t → z ≢ [] → IsNodeAt t x u → IsNodeAt t (x ++ z) w
      → IsChildAt u.children z w
  node_up t x u z w h n (inl i) (inl d) = absurd (n (nothing_appended t.fragment z (ap (λ y. y ++ z) (sym i.0) ∙ d.0)))
  node_up t x u z w h n (inl i) (inr d) =
      let below : IsChildAt t.children z w = subst (λ y. IsChildAt t.children y w) (sym (cancel_front t.fragment z d.0 (ap (λ y. y ++ z) (sym i.0) ∙ d.1))) d.2 in
      subst (λ (v : Tree P). IsChildAt v.children z w) (sym i.1) below
  node_up t x u z w h n (inr i) (inl d) =
      absurd (n (rest_is_empty i.0 z (nothing_appended t.fragment (i.0 ++ z) (sym (ap (λ y. y ++ z) i.1 ∙ append_assoc t.fragment i.0 z) ∙ d.0))))
  node_up t x u z w h n (inr i) (inr d) =
      let same = cancel_front t.fragment (i.0 ++ z) d.0 (sym (ap (λ y. y ++ z) i.1 ∙ append_assoc t.fragment i.0 z) ∙ d.1) in
      child_up 0 t.children i.0 u z w h.1 n i.2 (subst (λ y. IsChildAt t.children y w) (sym same) d.2)

  -- each node below placed children has its own children at their places
  child_placed : (low : ℕ) (k : Children P) (x : List ℕ) (u : Tree P) → IsPlaced low k → IsChildAt k x u → IsTreePlaced u
  child_placed low none x u h i = absurd i
  child_placed low (more f o m children others) x u h (inl i) = subst IsTreePlaced (sym i.1) (h.2, h.3)
  child_placed low (more f o m children others) x u h (inr (inl i)) = child_placed 0 children i.0 u h.3 i.2
  child_placed low (more f o m children others) x u h (inr (inr i)) = child_placed (suc (first f)) others x u h.4 i

  -- each node of a placed tree has its own children at their places
  pub node_placed : (t : Tree P) (x : List ℕ) (u : Tree P) → IsTreePlaced t → IsNodeAt t x u → IsTreePlaced u
  node_placed t x u h (inl i) = subst IsTreePlaced (sym i.1) h
  node_placed t x u h (inr i) = child_placed 0 t.children i.0 u h.1 i.2

  -- below full children each node has a pair or two children, and is full below
  pub child_full : (k : Children P) (x : List ℕ) (u : Tree P) → IsFull (plain k) → IsChildAt k x u → IsTreeFull u
  child_full none x u full i = absurd i
  child_full (more f o m children others) x u full (inl i) = subst IsTreeFull (sym i.1) (full.0, full.1)
  child_full (more f o m children others) x u full (inr (inl i)) = child_full children i.0 u full.1 i.2
  child_full (more f o m children others) x u full (inr (inr i)) = child_full others x u full.2 i

  -- of a tree that is full below, each node is full below
  pub node_full : (t : Tree P) (x : List ℕ) (u : Tree P) → IsFullBelow t → IsNodeAt t x u → IsFullBelow u
  node_full t x u full (inl i) = subst IsFullBelow (sym i.1) full
  node_full t x u full (inr i) = (child_full t.children i.0 u full i.2).1

  -- what stands at a list that goes on from a node's path stands so in the node's own tree
  module _ (t u : Tree P) (p : List ℕ) (at : IsNodeAt t p u) where
    -- what stands in a node's own tree stands in the whole tree, behind the node's path
    pub from_node : (rest : List ℕ) (w : Tree P) → IsNodeAt u (u.fragment ++ rest) w → IsNodeAt t (p ++ rest) w
    from_node rest w (inl d) = rw (nothing_appended u.fragment rest d.0, append-nil p, d.1) at
    from_node rest w (inr d) = rw (cancel_front u.fragment rest d.0 d.1) (node_down t p u d.0 w at d.2)

    -- where nothing stands at a list in a node's own tree, nothing does behind the node's path
    pub none_from_node : IsTreePlaced t → (rest : List ℕ) → ((w : Tree P) → IsNodeAt u (u.fragment ++ rest) w → ⊥) → (w : Tree P) → IsNodeAt t (p ++ rest) w → ⊥
    none_from_node placed [] apart w d = apart u (inl (append-nil u.fragment, refl))
    none_from_node placed (a ∷ rest) apart w d = apart w (inr (a ∷ rest, refl, node_up t p u (a ∷ rest) w placed (λ e. cc e) at d))

  -- the entries whose lists have the prefix p
  module _ (p : List ℕ) where
    -- those of the entries whose lists have the prefix p
    abbrev pub entries_under : List (List ℕ × P) → List (List ℕ × P)
    entries_under es = filter (λ e. is_prefix p e.0) es

    -- each path below q that has the prefix p goes through x
    abbrev Leads : List ℕ → Children P → List ℕ → Type 0
    Leads q k x = (y : List ℕ) (w : Tree P) → IsChildAt k y w → IsPrefix p (q ++ y) → IsPrefix x y

    -- what is kept of three lists joined is what is kept of each
    kept_parts : (a b c d e f : List (List ℕ × P)) → entries_under a ≡ d → entries_under b ≡ e → entries_under c ≡ f → entries_under (a ++ b ++ c) ≡ d ++ e ++ f
    kept_parts a b c d e f i j k =
        filter-append _ (a ++ b) c ∙ (λ n. filter-append (λ (e : List ℕ × P). is_prefix p e.0) a b n ++ entries_under c) ∙ (λ n. i n ++ j n ++ k n)

    -- where no path below q has the prefix p, none of the entries there is kept
    none_kept : (q : List ℕ) (k : Children P) → ((y : List ℕ) (w : Tree P) → IsChildAt k y w → IsPrefix p (q ++ y) → ⊥) → entries_under (entries_in q k) ≡ []
    none_kept q k apart =
        filter_none _ _ (λ e h. let r = has_child q k e.0 e.1 h in is_prefix-apart p e.0 (λ i. apart r.0 r.1 r.3 (subst (IsPrefix p) r.2 i)))

    -- where q has the prefix p, all entries below q are kept
    pub all_kept : (q : List ℕ) (k : Children P) → IsPrefix p q → entries_under (entries_in q k) ≡ entries_in q k
    all_kept q k i =
        filter_all _ _ (λ e h. let r = has_child q k e.0 e.1 h in is_prefix_true p e.0 (subst (IsPrefix p) (sym r.2) (prefix_through p q (q ++ r.0) i (r.0, refl))))

    -- where q has the prefix p, the entry at q is kept
    pub own_kept : (q : List ℕ) (o : Option P) → IsPrefix p q → entries_under (entry q o) ≡ entry q o
    own_kept q None i = refl
    own_kept q (Some v) i = rw (is_prefix_true p q i) refl

    -- where q hasn't the prefix p, the entry at q isn't kept
    own_cut : (q : List ℕ) (o : Option P) → (IsPrefix p q → ⊥) → entries_under (entry q o) ≡ []
    own_cut q None n = refl
    own_cut q (Some v) n = rw (is_prefix-apart p q n) refl

    -- the entries at x and below it, where u stands at x
    abbrev at_and_below : List ℕ → Tree P → List (List ℕ × P)
    at_and_below x u = entry x u.pair ++ entries_in x u.children

    -- where all paths below q with the prefix p go through x, those at and below x are kept
    kept_at : (low : ℕ) (q : List ℕ) (k : Children P) (x : List ℕ) (u : Tree P) → IsPlaced low k → IsChildAt k x u → Leads q k x → IsPrefix p (q ++ x)
        → entries_under (entries_in q k) ≡ at_and_below (q ++ x) u
    kept_at low q none x u h i lead pre = absurd i
    kept_at low q (more f o m children others) x u h (inl i) lead pre =
        let here : IsPrefix p (q ++ f) = subst (λ y. IsPrefix p (q ++ y)) i.0 pre in
        kept_parts _ _ _ _ _ _ (own_kept (q ++ f) o here) (all_kept (q ++ f) children here)
        (none_kept q others (λ y w d b. let r = lead y w (inr (inr d)) b in no_path_in_both f others y w x r.0 h.0 h.4 d (sym r.1) (first_same f x [] r.0 h.0 (i.0 ∙ sym (append-nil f)))))
        ∙ append-nil _ ∙ (let xs = sym i.0 in let us = sym i.1 in λ n. at_and_below (q ++ xs n) (us n))
    kept_at low q (more f o m children others) x u h (inr (inl i)) lead pre =
        kept_parts _ _ _ _ _ _
        (own_cut (q ++ f) o (λ b. let r = lead f _ (inl (refl, refl)) b in
        let over = nothing_appended f (i.0 ++ r.0) (sym (r.1 ∙ ap (λ y. y ++ r.0) i.1 ∙ append_assoc f i.0 r.0)) in
        no_child_here children u h.3 (subst (λ y. IsChildAt children y u) (front_nil i.0 r.0 over) i.2)))
        (kept_at 0 (q ++ f) children i.0 u h.3 i.2
        (λ y w d b. prefix_below f i.0 y (subst (λ z. IsPrefix z (f ++ y)) i.1 (lead (f ++ y) w (inr (inl (y, refl, d))) (subst (IsPrefix p) (append_assoc q f y) b))))
        (subst (IsPrefix p) (ap (λ y. q ++ y) i.1 ∙ sym (append_assoc q f i.0)) pre))
        (none_kept q others (λ y w d b. let r = lead y w (inr (inr d)) b in no_path_in_both f others y w x r.0 h.0 h.4 d (sym r.1) (first_same f x i.0 r.0 h.0 i.1)))
        ∙ append-nil _ ∙ ap (λ y. at_and_below y u) (append_assoc q f i.0 ∙ ap (λ y. q ++ y) (sym i.1))
    kept_at low q (more f o m children others) x u h (inr (inr i)) lead pre =
        kept_parts _ _ _ _ _ _
        (own_cut (q ++ f) o (λ b. let r = lead f _ (inl (refl, refl)) b in
        let l = first_low (suc (first f)) others x u r.0 h.4 i in let e = ap first r.1 in omega (arith, l, e)))
        (none_kept (q ++ f) children (λ y w d b. let r = lead (f ++ y) w (inr (inl (y, refl, d))) (subst (IsPrefix p) (append_assoc q f y) b) in
        let l = first_low (suc (first f)) others x u r.0 h.4 i in let e = sym (first-append f y h.0) ∙ ap first r.1 in omega (arith, l, e)))
        (kept_at (suc (first f)) q others x u h.4 i (λ y w d b. lead y w (inr (inr d)) b) pre)

    -- where all paths with the prefix p go through x, the entries with it are those at and below x
    pub entries_under-node : (t : Tree P) (x : List ℕ) (u : Tree P) → IsTreePlaced t → IsNodeAt t x u
        → ((y : List ℕ) (w : Tree P) → IsNodeAt t y w → IsPrefix p y → IsPrefix x y) → IsPrefix p x
        → entries_under (entries_at [] t) ≡ entry x u.pair ++ entries_in x u.children
    entries_under-node t x u h (inl i) lead pre =
        let here : IsPrefix p t.fragment = subst (IsPrefix p) i.0 pre in
        filter-append _ (entry t.fragment t.pair) (entries_in t.fragment t.children)
        ∙ (let own = own_kept t.fragment t.pair here in let all = all_kept t.fragment t.children here in λ n. own n ++ all n)
        ∙ (let xs = sym i.0 in let us = sym i.1 in λ n. at_and_below (xs n) (us n))
    entries_under-node t x u h (inr i) lead pre =
        filter-append _ (entry t.fragment t.pair) (entries_in t.fragment t.children)
        ∙ ap (λ es. es ++ entries_under (entries_in t.fragment t.children))
        (own_cut t.fragment t.pair (λ b. let r = lead t.fragment t (inl (refl, refl)) b in
        let over = nothing_appended t.fragment (i.0 ++ r.0) (sym (r.1 ∙ ap (λ y. y ++ r.0) i.1 ∙ append_assoc t.fragment i.0 r.0)) in
        no_child_here t.children u h.1 (subst (λ y. IsChildAt t.children y u) (front_nil i.0 r.0 over) i.2)))
        ∙ kept_at 0 t.fragment t.children i.0 u h.1 i.2
        (λ y w d b. prefix_below t.fragment i.0 y (subst (λ z. IsPrefix z (t.fragment ++ y)) i.1 (lead (t.fragment ++ y) w (inr (y, refl, d)) b)))
        (subst (IsPrefix p) i.1 pre)
        ∙ ap (λ y. at_and_below y u) (sym i.1)

    -- where no path has the prefix p, no entry has it
    pub entries_under-free : (t : Tree P) → ((y : List ℕ) (w : Tree P) → IsNodeAt t y w → IsPrefix p y → ⊥) → entries_under (entries_at [] t) ≡ []
    entries_under-free t apart = filter_none _ _ (λ e h. let r = has_node t e.0 e.1 h in is_prefix-apart p e.0 (apart e.0 r.0 r.1))
