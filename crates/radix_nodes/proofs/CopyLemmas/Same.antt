-- Two nodes are alike where their fragments, pairs and children are.
use Rattle.std.proofs.Common.{◌≡◌, ℕ, suc, ◌+◌, ◌<◌, ◌≤◌, Bool, true, false, not, ◌&&◌, List, [], ◌∷◌, length, get_or, drop, refl, ap, sym, ◌∙◌, Box, Global, nat_eq}
use Rattle.std.proofs.lemmas.Bool.{and_from}
use Rattle.std.proofs.lemmas.List.{drop_more, at_drop_all}
use Rattle.std.specs.Cmp.Lexicographic.{pointwise}
use Rattle.masked_tree.specs.Same.{same_pair, same_children, same_tree}
use Rattle.radix_nodes.specs.declared.trie_node.KeyValue.{KeyValue}
use Rattle.radix_nodes.specs.declared.trie_node.TrieNode.{TrieNode}
use Rattle.radix_nodes.specs.Nodes.{tree_of, children_of, fragment_of, out_of, unboxed}
use Rattle.radix_nodes.proofs.NodeLemmas.Nodes.{tree_of-out}

-- three tests joined are false where the last is
false_later : (p q r : Bool) → r ≡ false → (p && (q && r)) ≡ false
false_later true true r e = e
false_later true false r e = refl
false_later false q r e = refl

-- three tests joined are false where the middle one is
false_middle : (p q r : Bool) → q ≡ false → (p && (q && r)) ≡ false
false_middle true q r e = ap (λ b. b && r) e
false_middle false q r e = refl

-- a test joined with false is false
pub and-second_false : (p : Bool) → (p && false) ≡ false
and-second_false true = refl
and-second_false false = refl

-- a test whose negation is false is true
pub true_by_negation : (p : Bool) → false ≡ not p → p ≡ true
true_by_negation true e = refl
true_by_negation false e = e

-- a test whose negation is true is false
pub false_by_negation : (p : Bool) → true ≡ not p → p ≡ false
false_by_negation true e = e
false_by_negation false e = refl

module _ {K V : Type 0} (eq : KeyValue K V → KeyValue K V → Bool) where
  -- the boxes of a node's children
  abbrev Boxes : Type 0
  Boxes = List (Box (TrieNode K V) Global)

  -- whether two lists of boxes hold the same children
  abbrev pub same_boxes : Boxes → Boxes → Bool
  same_boxes xs ys = same_children eq (children_of xs) (children_of ys)

  module _ (a b : TrieNode K V) where
    -- whether the two fragments are equal
    abbrev fragments : Bool
    fragments = pointwise nat_eq (fragment_of a) (fragment_of b)

    -- whether the two pairs are equal, or neither is there
    abbrev pairs : Bool
    pairs = same_pair eq (unboxed (out_of a).pair) (unboxed (out_of b).pair)

    -- whether the children are the same
    abbrev children : Bool
    children = same_boxes (out_of a).children.items (out_of b).children.items

    -- the test of two nodes, by their fields
    same_out : same_tree eq (tree_of a) (tree_of b) ≡ (fragments && (pairs && children))
    same_out = λ i. same_tree eq (tree_of-out a i) (tree_of-out b i)

    -- nodes of different fragments aren't the same
    pub fragments_differ : fragments ≡ false → false ≡ same_tree eq (tree_of a) (tree_of b)
    fragments_differ e = sym (same_out ∙ ap (λ p. p && (pairs && children)) e)

    -- nodes of different pairs aren't the same
    pub pairs_differ : pairs ≡ false → false ≡ same_tree eq (tree_of a) (tree_of b)
    pairs_differ e = sym (same_out ∙ false_middle fragments pairs children e)

    -- nodes of different children aren't the same
    pub children_differ : children ≡ false → false ≡ same_tree eq (tree_of a) (tree_of b)
    children_differ e = sym (same_out ∙ false_later fragments pairs children e)

    -- nodes of the same fragment, pair and children are the same
    pub all_same : fragments ≡ true → pairs ≡ true → children ≡ true → true ≡ same_tree eq (tree_of a) (tree_of b)
    all_same e f g = sym (same_out ∙ and_from _ _ e (and_from _ _ f g))

  -- lists of boxes of different lengths don't hold the same children
  pub same_boxes-other_length : (xs ys : Boxes) → (length xs ≡ length ys → ⊥) → same_boxes xs ys ≡ false
  same_boxes-other_length [] [] h = absurd (h refl)
  same_boxes-other_length [] (y ∷ ys) h = refl
  same_boxes-other_length (x ∷ xs) [] h = refl
  same_boxes-other_length (x ∷ xs) (y ∷ ys) h =
      ap (λ r. same_tree eq (tree_of x.value) (tree_of y.value) && r) (same_boxes-other_length xs ys (λ e. h (ap suc e)))
      ∙ and-second_false (same_tree eq (tree_of x.value) (tree_of y.value))

  -- once the children before i agree, the result r at i and what comes after it decide
  pub same_boxes-next_child : (xs ys : Boxes) (i : ℕ) (x y : Box (TrieNode K V) Global) (a b : TrieNode K V) (r v : Bool) → i < length xs → i < length ys →
      x ≡ get_or xs i x → y ≡ get_or ys i y → a ≡ x.value → b ≡ y.value → r ≡ same_tree eq (tree_of a) (tree_of b) → r ≡ v →
      same_boxes xs ys ≡ same_boxes (drop i xs) (drop i ys) → same_boxes xs ys ≡ (v && same_boxes (drop (i + 1) xs) (drop (i + 1) ys))
  same_boxes-next_child xs ys i x y a b r v lx ly ex ey ea eb is e h =
      let rest = same_boxes (drop (i + 1) xs) (drop (i + 1) ys) in
      h
      ∙ (λ j. same_boxes (drop_more xs i x lx j) (drop_more ys i y ly j))
      ∙ (λ j. same_tree eq (tree_of (sym ex j).value) (tree_of (sym ey j).value) && rest)
      ∙ (λ j. same_tree eq (tree_of (sym ea j)) (tree_of (sym eb j)) && rest)
      ∙ ap (λ p. p && rest) (sym is ∙ e)

  -- once both lists of boxes are at their ends, and all before agree, they hold the same children
  pub same_boxes-at_ends : (xs ys : Boxes) (i : ℕ) → length xs ≤ i → length ys ≤ i → same_boxes xs ys ≡ same_boxes (drop i xs) (drop i ys) → same_boxes xs ys ≡ true
  same_boxes-at_ends xs ys i lx ly h = h ∙ at_drop_all (λ zs. same_boxes zs (drop i ys)) xs i lx ∙ at_drop_all (λ zs. same_boxes [] zs) ys i ly
