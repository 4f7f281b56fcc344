-- The test of a tree decides whether it is canonical.
use Rattle.std.proofs.Common.{◌≡◌, ◌≢◌, ◌⊎◌, ℕ, suc, ◌+◌, ◌<◌, ◌≤◌, ◌==◌, nat_lt, List, [], ◌∷◌, ◌++◌, length, is_some, IsSome, Some, None, Option, refl, sym, subst, arith, inl, inr}
use Rattle.std.specs.Bool.{Decides}
use Rattle.std.proofs.lemmas.Bool.Decides.{Decides-eqb, Decides-ltb, Decides-not, Decides-and, Decides-or, Decides-like}
use Rattle.std.proofs.lemmas.Slice.Eq.{slice_eq-Decides}
use Rattle.nibble_map.specs.Lists.{Each}
use Rattle.nibble_map.specs.Swaps.{entry}
use Rattle.nibble_map.specs.Trees.{AreMany, IsFull, first}
use Rattle.nibble_map.specs.Trees as trees
use Rattle.masked_tree.specs.Mask.{marked}
use Rattle.masked_tree.specs.Tree.{Tree, Children, none, more, plain, firsts, IsPlaced, entries_in}
use Rattle.nibble_map.proofs.ListLemmas.Rising.{Each-append}
use Rattle.nibble_map.proofs.ListLemmas.Cut.{rest_is_empty}
use Rattle.nibble_map.proofs.TreeLemmas.Canonical.{local_canonical, canonical_local}
use Rattle.masked_tree.proofs.MaskLemmas.{mask_small}
use Rattle.radix_nodes.specs.declared.trie_node.KeyValue.{KeyValue}
use Rattle.radix_nodes.specs.Soundness.{IsSoundAt, key_test, form_test, starts, own_test, children_test, node_test}
use Rattle.radix_nodes.proofs.CheckerLemmas.Masks.{with_bits, AreSmall, mask_is}

-- what holds of each item of two joined lists holds of each item of the one and of the other
Each-left : {A : Type 0} (P : A → Type 0) (xs ys : List A) → Each P (xs ++ ys) → Each P xs × Each P ys
Each-left P [] ys h = (tt, h)
Each-left P (x ∷ xs) ys h = let r = Each-left P xs ys h.1 in ((h.0, r.0), r.1)

-- a length of 0 decides whether a list is empty
nil_is : (xs : List ℕ) → Decides (length xs == 0) (xs ≡ [])
nil_is [] = (λ _. refl, λ _. refl)
nil_is (x ∷ xs) = Decides-like _ (λ e. absurd (omega arith)) (λ e. cc) (Decides-eqb (length (x ∷ xs)) 0)

-- `is_some` decides whether an option holds something
some_is : {A : Type 0} (o : Option A) → Decides (is_some o) (IsSome o)
some_is o = (λ e. e, λ e. e)

-- `starts` decides whether a fragment begins with a nibble from `low` on, below 16
starts_is : (low : ℕ) (f : List ℕ) → Decides (starts low f) ((f ≢ []) × ((low ≤ first f) × (first f < 16)))
starts_is low [] = (λ e. cc, λ h. absurd (h.0 refl))
starts_is low (x ∷ xs) =
    Decides-like _ (λ h. ((λ e. (let i : x ∷ xs ≡ [] = e in cc i)), h)) (λ h. h.1)
    (Decides-and _ _ (Decides-like _ (λ h. omega arith) (λ h. λ l. omega arith) (Decides-not _ (Decides-ltb x low))) (Decides-ltb x 16))

module _ {K V : Type 0} where
  -- a count above 1 decides whether the children are two or more
  many_is : (k : Children (KeyValue K V)) → Decides (nat_lt 1 (length (firsts k))) (AreMany (plain k))
  many_is none = Decides-like _ (λ l. absurd (omega (arith, l))) (λ a. absurd a) (Decides-ltb 1 0)
  many_is (more f o m children none) = Decides-like _ (λ l. absurd (omega (arith, l))) (λ a. absurd a) (Decides-ltb 1 1)
  many_is (more f o m children (more g p n ls others)) = Decides-like _ (λ l. tt) (λ a. omega arith) (Decides-ltb 1 (length (firsts (more f o m children (more g p n ls others)))))

  module _ (e : K → List ℕ) where
    -- each key has its path as its encoding
    abbrev Keyed : List (List ℕ × KeyValue K V) → Type 0
    Keyed es = Each (λ x. e x.1.key ≡ x.0) es

    -- `key_test` decides whether a pair's key has the path as its encoding
    key_is : (path : List ℕ) (o : Option (KeyValue K V)) → Decides (key_test e path o) (Keyed (entry path o))
    key_is path None = (λ _. tt, λ _. refl)
    key_is path (Some x) = Decides-like _ (λ h. (h, tt)) (λ h. h.0) (slice_eq-Decides (λ a b. Decides-eqb a b) (e x.key) path _ refl)

    -- `form_test` decides whether a node is the root, or has a fragment and a pair or two children
    form_is : (path f : List ℕ) (o : Option (KeyValue K V)) (k : Children (KeyValue K V)) → Decides (form_test path f o (length (firsts k))) ((path ≡ []) ⊎ ((f ≢ []) × (IsSome o ⊎ AreMany (plain k))))
    form_is path f o k =
        Decides-or _ _ (nil_is path) (Decides-and _ _ (Decides-not _ (nil_is f)) (Decides-or _ _ (some_is o) (many_is k)))

    -- `own_test` decides whether a node's pair has its path's key, and the node its form
    own_is : (path f : List ℕ) (o : Option (KeyValue K V)) (k : Children (KeyValue K V)) →
        Decides (own_test e path f o (length (firsts k))) (Keyed (entry path o) × ((path ≡ []) ⊎ ((f ≢ []) × (IsSome o ⊎ AreMany (plain k)))))
    own_is path f o k = Decides-and _ _ (key_is path o) (form_is path f o k)

    -- what is said of children
    -- they stand at their places from `low` on, are full, and their pairs have the paths' keys
    abbrev Sound : List ℕ → ℕ → Children (KeyValue K V) → Type 0
    Sound p low k = IsPlaced low k × (IsFull (plain k) × (AreSmall (firsts k) × Keyed (entries_in p k)))

    -- a node with a fragment that may be left at its path has a pair or two children
    full_at_path : (p f : List ℕ) (o : Option (KeyValue K V)) (k : Children (KeyValue K V)) → f ≢ [] → (p ++ f ≡ []) ⊎ ((f ≢ []) × (IsSome o ⊎ AreMany (plain k))) → IsSome o ⊎ AreMany (plain k)
    full_at_path p f o k s (inl z) = absurd (s (rest_is_empty p f z))
    full_at_path p f o k s (inr h) = h.1

    -- `children_test` decides whether children are sound and make the mask with the bits seen before
    children_is : (p : List ℕ) (low seen mask : ℕ) (k : Children (KeyValue K V)) → Decides (children_test e p low seen mask k) (Sound p low k × (with_bits seen (firsts k) ≡ mask))
    children_is p low seen mask none = Decides-like _ (λ h. ((tt, (tt, (tt, tt))), h)) (λ h. h.1) (Decides-eqb seen mask)
    children_is p low seen mask (more f o m children others) =
        Decides-like _ to from
        (Decides-and _ _ (starts_is low f) (Decides-and _ _ (Decides-and _ _ (own_is (p ++ f) f o children) (children_is (p ++ f) 0 0 m children)) (children_is p (first f + 1) (marked seen (first f)) mask others)))
      where
        next : first f + 1 ≡ suc (first f)
        next = omega arith

        to : ((f ≢ []) × ((low ≤ first f) × (first f < 16)))
            × (((Keyed (entry (p ++ f) o) × ((p ++ f ≡ []) ⊎ ((f ≢ []) × (IsSome o ⊎ AreMany (plain children))))) × (Sound (p ++ f) 0 children × (with_bits 0 (firsts children) ≡ m)))
            × (Sound p (first f + 1) others × (with_bits (marked seen (first f)) (firsts others) ≡ mask))) →
            Sound p low (more f o m children others) × (with_bits seen (firsts (more f o m children others)) ≡ mask)
        to h =
            let own = h.1.0.0 in let below = h.1.0.1.0 in let beside = h.1.1.0 in
            let is = (mask_is m (firsts children) below.1.1.0).0 h.1.0.1.1 in (
              (
                (h.0.0, h.0.1.0, is, below.0, subst (λ n. IsPlaced n others) next beside.0),
                ((full_at_path p f o children h.0.0 own.1, below.1.0, beside.1.0), ((h.0.1.1, beside.1.1.0), Each-append _ (entry (p ++ f) o ++ entries_in (p ++ f) children) (entries_in p others) (Each-append _ (entry (p ++ f) o) (entries_in (p ++ f) children) own.0 below.1.1.1) beside.1.1.1)),
              ),
              h.1.1.1,
            )

        from : Sound p low (more f o m children others) × (with_bits seen (firsts (more f o m children others)) ≡ mask) →
            ((f ≢ []) × ((low ≤ first f) × (first f < 16)))
            × (((Keyed (entry (p ++ f) o) × ((p ++ f ≡ []) ⊎ ((f ≢ []) × (IsSome o ⊎ AreMany (plain children))))) × (Sound (p ++ f) 0 children × (with_bits 0 (firsts children) ≡ m)))
            × (Sound p (first f + 1) others × (with_bits (marked seen (first f)) (firsts others) ≡ mask)))
        from h =
            let placed = h.0.0 in let full = h.0.1.0 in let low_ = h.0.1.1.0 in
            let small = mask_small m (firsts children) placed.2 in
            let cut = Each-left _ (entry (p ++ f) o ++ entries_in (p ++ f) children) (entries_in p others) h.0.1.1.1 in
            let part = Each-left _ (entry (p ++ f) o) (entries_in (p ++ f) children) cut.0 in (
              (placed.0, (placed.1, low_.0)),
              (
                (
                  (part.0, inr (placed.0, full.0)),
                  ((placed.3, (full.1, (small, part.1))), (mask_is m (firsts children) small).1 placed.2),
                ),
                ((subst (λ n. IsPlaced n others) (sym next) placed.4, (full.2, (low_.1, cut.1))), h.1),
              ),
            )

    -- children that stand at their places do so without their masks
    plain_placed : (low : ℕ) (k : Children (KeyValue K V)) → IsPlaced low k → trees.IsForestPlaced low (plain k)
    plain_placed low none h = tt
    plain_placed low (more f o m children others) h = (h.0, h.1, plain_placed 0 children h.3, plain_placed (suc (first f)) others h.4)

    -- `node_test` decides whether a tree below the path q is canonical
    pub node_test_decides : (q : List ℕ) (t : Tree (KeyValue K V)) → Decides (node_test e q t) (IsSoundAt e q t)
    node_test_decides q t =
        Decides-like _ to from (Decides-and _ _ (own_is (q ++ t.fragment) t.fragment t.pair t.children) (children_is (q ++ t.fragment) 0 0 t.mask t.children))
      where
        to : (Keyed (entry (q ++ t.fragment) t.pair) × ((q ++ t.fragment ≡ []) ⊎ ((t.fragment ≢ []) × (IsSome t.pair ⊎ AreMany (plain t.children)))))
            × (Sound (q ++ t.fragment) 0 t.children × (with_bits 0 (firsts t.children) ≡ t.mask)) → IsSoundAt e q t
        to h =
            let s = h.1.0 in record {
              keyed = Each-append _ (entry (q ++ t.fragment) t.pair) (entries_in (q ++ t.fragment) t.children) h.0.0 s.1.1.1;
              placed = ((mask_is t.mask (firsts t.children) s.1.1.0).0 h.1.1, s.0);
              points = local_canonical q t.fragment t.pair (plain t.children) (plain_placed 0 t.children s.0, s.1.0, h.0.1);
            }

        from : IsSoundAt e q t → (Keyed (entry (q ++ t.fragment) t.pair) × ((q ++ t.fragment ≡ []) ⊎ ((t.fragment ≢ []) × (IsSome t.pair ⊎ AreMany (plain t.children)))))
            × (Sound (q ++ t.fragment) 0 t.children × (with_bits 0 (firsts t.children) ≡ t.mask))
        from h =
            let part = Each-left _ (entry (q ++ t.fragment) t.pair) (entries_in (q ++ t.fragment) t.children) h.keyed in
            let l = canonical_local q t.fragment t.pair (plain t.children) h.points in
            let small = mask_small t.mask (firsts t.children) h.placed.0 in
            ((part.0, l.2), ((h.placed.1, (l.1, (small, part.1))), (mask_is t.mask (firsts t.children) small).1 h.placed.0))
