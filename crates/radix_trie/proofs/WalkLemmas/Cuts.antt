-- Where a list cuts the children of a node.
use Rattle.std.proofs.Common.{◌≡◌, ◌≢◌, ℕ, zero, suc, ◌+◌, ◌<◌, ◌≤◌, false, eqb, ltb, List, [], ◌∷◌, ◌++◌, length, drop, get_or, slice_index, refl, ap, sym, ◌∙◌, arith, inl, inr, Box, Bor, Global, Ok, Err, Some, None}
use Rattle.std.proofs.lemmas.Bool.Decides.{eqb_tells, leb_tells}
use Rattle.std.proofs.lemmas.List.{drop_all, get_or_default}
use Rattle.std.specs.Ordering.{is_le, is_lt}
use Rattle.std.specs.declared.cmp.Ordering.TheVariants.{Greater, Less}
use Rattle.masked_tree.specs.Mask.{IsPlaceOf, bit_of, rank}
use Rattle.masked_tree.specs.Sizes.{levels}
use Rattle.masked_tree.specs.Tree.{Tree, Children, none, more, IsAt, IsPlaced, IsTreePlaced, firsts}
use Rattle.masked_tree.proofs.TreeLemmas.Children.{child_begins_from}
use Rattle.nibble_map.specs.Trees.{first}
use Rattle.nibble_map.proofs.TreeLemmas.Shape.{first_and_rest}
use Rattle.radix_nodes.specs.declared.trie_node.TrieNode.{TrieNode, out-TrieNode}
use Rattle.radix_nodes.specs.Nodes.{children_of, fragment_of, tree_of}
use Rattle.radix_nodes.proofs.EditLemmas.Insertion.{box_is_child, boxed_child_is_placed, gap_is_within, place_is_within}
use Rattle.radix_nodes.proofs.EditLemmas.KeyParts.{drop_some, first-drop}
use Rattle.radix_nodes.proofs.NodeLemmas.Nodes.{fragment-tree_of}
use Rattle.radix_trie.specs.declared.iter.side.Side.TheVariants as side
use Rattle.radix_trie.specs.Walks.{IsCutByList, StandsBeside}
use Rattle.radix_trie.proofs.WalkLemmas.Order.{high_first, low_first, order, order-behind, some_first}

-- the children from a place on are on no more levels
pub levels-drop : {K V : Type 0} (i : ℕ) (bs : List (Box (TrieNode K V) Global)) → levels (children_of (drop i bs)) ≤ levels (children_of bs)
levels-drop zero bs = omega arith
levels-drop (suc i) [] = omega arith
levels-drop (suc i) (c ∷ bs) = let l = levels-drop i bs in omega (arith, l)

-- a list of some length, of which so many nibbles lie behind a node
module _ (list : List ℕ) (depth size : ℕ) (within : depth ≤ length list) (long : size ≡ length list) where
  -- the node comes after it, or is it, where it ends there
  pub ends_above : eqb depth size ≡ is_le (order (drop depth list) [])
  ends_above = elim (eqb_tells depth size) [
    | inl e ↦ e.0 ∙ sym (ap (λ r. is_le (order r [])) (drop_all depth list (omega (arith, e.1, long))))
    | inr e ↦ (let h = first_and_rest (drop depth list) (drop_some list depth (omega (arith, within, e.1, long))) in e.0 ∙ sym (ap (λ r. is_le (order r [])) h.1))
  ]

  -- the node comes before it where it goes on
  pub goes_below : ltb depth size ≡ is_lt (order [] (drop depth list))
  goes_below = elim (leb_tells (suc depth) size) [
    | inl l ↦ (let h = first_and_rest (drop depth list) (drop_some list depth (omega (arith, l.1, long))) in l.0 ∙ sym (ap (λ r. is_lt (order [] r)) h.1))
    | inr l ↦ l.0 ∙ sym (ap (λ r. is_lt (order [] r)) (drop_all depth list (omega (arith, l.1, long))))
  ]

-- the empty list comes after no list
pub nil_after_none : (r : List ℕ) → false ≡ is_lt (order r [])
nil_after_none [] = refl
nil_after_none (b ∷ r) = refl

module _ {P : Type 0} (b : ℕ) where
  -- the children before the place of a nibble begin lower
  begins_lower : (i : ℕ) (k : Children P) (t : Tree P) → IsAt i k t → i < rank b (firsts k) → first t.fragment < b
  begins_lower i none t at lt = absurd at
  begins_lower zero (more f o m children others) t at lt =
      let head : first t.fragment ≡ first f = ap (λ (u : Tree P). first u.fragment) at in
      elim (leb_tells (suc (first f)) b) [
        | inl l ↦ omega (arith, head, l.1)
        | inr l ↦ absurd (let z = rw l.0 at lt in omega (arith, z))
      ]
  begins_lower (suc i) (more f o m children others) t at lt = elim (leb_tells (suc (first f)) b) [
    | inl l ↦ begins_lower i others t at (let z = rw l.0 at lt in omega (arith, z))
    | inr l ↦ absurd (let z = rw l.0 at lt in omega (arith, z))
  ]

  -- those from the place on begin higher, but the one that begins with the nibble
  begins_higher : (low i : ℕ) (k : Children P) (t : Tree P) → IsPlaced low k → IsAt i k t → rank b (firsts k) + bit_of b (firsts k) ≤ i → b < first t.fragment
  begins_higher low i none t placed at le = absurd at
  begins_higher low zero (more f o m children others) t placed at le =
      let head : first t.fragment ≡ first f = ap (λ (u : Tree P). first u.fragment) at in
      elim (eqb_tells (first f) b) [
        | inl e ↦ absurd (let z = rw e.0 at le in omega (arith, z))
        | inr e ↦ elim (leb_tells (suc (first f)) b) [
          | inl l ↦ absurd (let z = rw l.0 at le in omega (arith, z))
          | inr l ↦ omega (arith, head, e.1, l.1)
        ]
      ]
  begins_higher low (suc i) (more f o m children others) t placed at le =
      let from = child_begins_from (suc (first f)) i others t at placed.4 in
      elim (leb_tells (suc (first f)) b) [
        | inl l ↦ begins_higher (suc (first f)) i others t placed.4 at (elim (eqb_tells (first f) b) [
          | inl e ↦ absurd (omega (arith, l.1, e.1))
          | inr e ↦ (let z = rw (l.0, e.0) at le in omega (arith, z))
        ])
        | inr l ↦ omega (arith, from, l.1)
      ]

module _ {K V : Type 0} (n : TrieNode K V) (list : List ℕ) (depth : ℕ) (placed : IsTreePlaced (tree_of n)) where
  abbrev row : List (Box (TrieNode K V) Global)
  row = (out-TrieNode K V n).children.items

  -- a child's fragment isn't empty
  begins : (i : ℕ) (b : Box (TrieNode K V) Global) → i < length row → get_or row i b ≡ b → (tree_of b.value).fragment ≢ []
  begins i b lt at e = (boxed_child_is_placed n i b placed lt at).0 (sym (fragment-tree_of b.value) ∙ e)

  -- a list that ends at the node comes before all children
  pub cut-ended : length list ≤ depth → IsCutByList list depth row 0 None
  cut-ended end = record {
    first = λ i b lt at y. absurd (omega (arith, lt));
    last = λ i b le lt at y. ap (λ r. order r ((tree_of b.value).fragment ++ y)) (drop_all depth list end) ∙ some_first (tree_of b.value).fragment y (begins i b lt at);
    between = λ b lt. absurd (omega (arith, lt));
    on_way = tt;
    own = λ lt. absurd (omega (arith, lt));
    inside = omega arith;
  }

  -- where the list goes on
  module _ (goes : depth < length list) where
    -- its next nibble
    abbrev nibble : ℕ
    nibble = slice_index list depth

    -- what is left of it has that nibble first
    left : (w : List ℕ) × (drop depth list ≡ nibble ∷ w)
    left = let h = first_and_rest (drop depth list) (drop_some list depth goes) in (h.0, h.1 ∙ ap (λ b. b ∷ h.0) (first-drop list depth))

    -- the children before its place come before it
    lower : (i : ℕ) (b : Box (TrieNode K V) Global) → i < length row → i < rank nibble (firsts (tree_of n).children) → get_or row i b ≡ b
        → (y : List ℕ) → order (drop depth list) ((tree_of b.value).fragment ++ y) ≡ Greater
    lower i b inside lt at y =
        ap (λ r. order r ((tree_of b.value).fragment ++ y)) left.1
        ∙ low_first nibble left.0 (tree_of b.value).fragment y (begins i b inside at) (begins_lower nibble i (tree_of n).children (tree_of b.value) (box_is_child n i b placed inside at) lt)

    -- the others come after it, but the one that begins with the nibble
    higher : (i : ℕ) (b : Box (TrieNode K V) Global) → i < length row
        → rank nibble (firsts (tree_of n).children) + bit_of nibble (firsts (tree_of n).children) ≤ i → get_or row i b ≡ b
        → (y : List ℕ) → order (drop depth list) ((tree_of b.value).fragment ++ y) ≡ Less
    higher i b inside le at y =
        ap (λ r. order r ((tree_of b.value).fragment ++ y)) left.1
        ∙ high_first nibble left.0 (tree_of b.value).fragment y (begins i b inside at) (begins_higher nibble 0 i (tree_of n).children (tree_of b.value) placed.1 (box_is_child n i b placed inside at) le)

    -- the node itself comes before it
    before : order (drop depth list) [] ≡ Greater
    before = ap (λ r. order r []) left.1

    -- where no child begins with the nibble
    pub cut-gap : (i : ℕ) → IsPlaceOf nibble (firsts (tree_of n).children) (Err i) → IsCutByList list depth row i None
    cut-gap i at =
        let inside = gap_is_within n i nibble at in record {
          first = λ j b lt is. lower j b (omega (arith, lt, inside)) (omega (arith, lt, at.1)) is;
          last = λ j b le lt is. higher j b lt (omega (arith, le, at.0, at.1)) is;
          between = λ b lt. absurd (omega (arith, lt));
          on_way = tt;
          own = λ lt. before;
          inside = inside;
        }

    -- where the child at i does
    module _ (i : ℕ) (at : IsPlaceOf nibble (firsts (tree_of n).children) (Ok i)) (c : Box (TrieNode K V) Global) (is : get_or row i c ≡ c) where
      abbrev within : i < length row
      within = place_is_within n i nibble placed at

      -- what the child answers, the box at its place does
      same : (j : ℕ) (b : Box (TrieNode K V) Global) → i ≡ j → get_or row j b ≡ b → (tree_of b.value).fragment ≡ fragment_of c.value
      same j b e here =
          let box : b ≡ c = sym here ∙ ap (λ k. get_or row k b) (sym e) ∙ get_or_default row i b c within ∙ is in
          ap (λ d. (tree_of d.value).fragment) box ∙ fragment-tree_of c.value

      -- where it comes before the list
      pub cut-before : StandsBeside (fragment_of c.value) list depth side.Before → IsCutByList list depth row (i + 1) None
      cut-before s = record {
        first = λ j b lt here y. elim (leb_tells i j) [
          | inl l ↦ ap (λ f. order (drop depth list) (f ++ y)) (same j b (omega (arith, l.1, lt)) here) ∙ s y
          | inr l ↦ lower j b (omega (arith, l.1, within)) (omega (arith, l.1, at.1)) here y
        ];
        last = λ j b le lt here. higher j b lt (omega (arith, le, at.0, at.1)) here;
        between = λ b lt. absurd (omega (arith, lt));
        on_way = tt;
        own = λ lt. before;
        inside = omega (arith, within);
      }

      -- where it comes after the list
      pub cut-after : StandsBeside (fragment_of c.value) list depth side.After → IsCutByList list depth row i None
      cut-after s = record {
        first = λ j b lt here. lower j b (omega (arith, lt, within)) (omega (arith, lt, at.1)) here;
        last = λ j b le lt here y. elim (leb_tells (suc i) j) [
          | inl l ↦ higher j b lt (omega (arith, l.1, at.0, at.1)) here y
          | inr l ↦ ap (λ f. order (drop depth list) (f ++ y)) (same j b (omega (arith, l.1, le)) here) ∙ s y
        ];
        between = λ b lt. absurd (omega (arith, lt));
        on_way = tt;
        own = λ lt. before;
        inside = omega (arith, within);
      }

      -- where the list goes on to it
      pub cut-on : (next : ℕ) (r : Bor (TrieNode K V)) → r.now ≡ c.value → StandsBeside (fragment_of c.value) list depth (side.On next) → IsCutByList list depth row i (Some (r, next))
      cut-on next r node s = record {
        first = λ j b lt here. lower j b (omega (arith, lt, within)) (omega (arith, lt, at.1)) here;
        last = λ j b le lt here. higher j b lt (omega (arith, le, at.0, at.1)) here;
        between = λ b lt here y.
            let f = same i b refl here in
            ap (λ g. order (drop depth list) (g ++ y)) f
            ∙ ap (λ l. order l (fragment_of c.value ++ y)) (sym s.2)
            ∙ order-behind (fragment_of c.value) (drop next list) y
            ∙ ap (λ k. order (drop k list) y) (s.0 ∙ ap (λ g. depth + length g) (sym f));
        on_way = (c, is, (sym node, s.0 ∙ ap (λ g. depth + length g) (sym (fragment-tree_of c.value))));
        own = λ lt. before;
        inside = omega (arith, within);
      }
