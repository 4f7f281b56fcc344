-- The ends of a walk: the first pair at and below a node, and the last.
use Rattle.std.proofs.Common.{◌≡◌, ℕ, zero, suc, ◌-◌, ◌<◌, List, [], ◌∷◌, ◌++◌, length, Option, Some, None, refl, ap, sym, subst, ◌∙◌, append_assoc, append-nil, arith, Box, Global, option_map}
use Rattle.std.specs.List.{slice_get}
use Rattle.masked_tree.specs.Tree.{Tree, Children, none, more, front, plain, IsFullBelow, entries_in, entries_at}
use Rattle.nibble_map.specs.Trees.{IsFull}
use Rattle.radix_nodes.specs.declared.trie_node.KeyValue.{KeyValue}
use Rattle.radix_nodes.specs.declared.trie_node.TrieNode.{TrieNode}
use Rattle.radix_nodes.specs.Nodes.{children_of, tree_of}
use Rattle.radix_nodes.specs.Pairs.{pair_of, own_pair, pairs_of, pairs_in, pairs_in_all}
use Rattle.radix_nodes.proofs.EditLemmas.Ends.{first_item-append, last_item-append}
use Rattle.radix_nodes.proofs.NodeLemmas.Pairs.{length-pairs_of, pairs_of-append, pairs_of-entries_at}
use Rattle.radix_trie.proofs.ChangeLemmas.Copies.{no_children}

module _ {K V : Type 0} where
  -- at and below a full child there is a pair
  pub full_has_pair : (u : Tree (KeyValue K V)) → IsFull (plain (front u none)) → 0 < length (pairs_in u)
  full_has_pair u full = by (length (entries_at [] u)) refl
    where
      by : (n : ℕ) → length (entries_at [] u) ≡ n → 0 < length (pairs_in u)
      by zero e = absurd (subst IsNone (no_children [] (front u none) full (ap length (append-nil (entries_at [] u)) ∙ e)) tt)
        where
          IsNone : Children (KeyValue K V) → Type 0
          IsNone none = ⊥
          IsNone (more f o m children others) = Unit {0}
      by (suc n) e = omega (arith, length-pairs_of (entries_at [] u), e)

  module _ (t : Tree (KeyValue K V)) (full : IsFullBelow t) where
    -- a walk's way to its first pair
    module _ (u : Tree (KeyValue K V)) (others : Children (KeyValue K V)) (is : t.children ≡ front u others) where
      -- the first child is full below
      pub first_child_full : IsFullBelow u
      first_child_full = (subst (λ k. IsFull (plain k)) is full).1

      -- where a node has no pair, the first one below it is the first of its first child
      pub first_in_child : own_pair t.pair ≡ [] → slice_get (pairs_in t) 0 ≡ slice_get (pairs_in u) 0
      first_in_child bare =
          let here = subst (λ k. IsFull (plain k)) is full in
          ap (λ ps. slice_get ps 0)
          (pairs_of-entries_at [] t ∙ ap (λ o. o ++ pairs_in_all t.children) bare ∙ ap pairs_in_all is ∙ pairs_of-append (entries_at [] u) (entries_in [] others))
          ∙ first_item-append (pairs_in u) (pairs_in_all others) (full_has_pair u (here.0, here.1, tt))

  -- the entries of some boxes and of others behind them
  pub entries_in-boxes : (bs cs : List (Box (TrieNode K V) Global)) → entries_in [] (children_of (bs ++ cs)) ≡ entries_in [] (children_of bs) ++ entries_in [] (children_of cs)
  entries_in-boxes [] cs = refl
  entries_in-boxes (b ∷ bs) cs =
      ap (λ es. entries_at [] (tree_of b.value) ++ es) (entries_in-boxes bs cs)
      ∙ sym (append_assoc (entries_at [] (tree_of b.value)) (entries_in [] (children_of bs)) (entries_in [] (children_of cs)))

  -- the boxes of a node's children end with a box
  module _ (pre : List (Box (TrieNode K V) Global)) (b : Box (TrieNode K V) Global) where
    -- the last child is full
    pub last_box_full : IsFull (plain (children_of (pre ++ b ∷ []))) → IsFull (plain (front (tree_of b.value) none))
    last_box_full = go pre
      where
        go : (bs : List (Box (TrieNode K V) Global)) → IsFull (plain (children_of (bs ++ b ∷ []))) → IsFull (plain (front (tree_of b.value) none))
        go [] full = full
        go (c ∷ bs) full = go bs full.2

    -- the entries of the children are those of the others, and then those of the last child
    pub entries_in-last_box : entries_in [] (children_of (pre ++ b ∷ [])) ≡ entries_in [] (children_of pre) ++ entries_at [] (tree_of b.value)
    entries_in-last_box = entries_in-boxes pre (b ∷ []) ∙ ap (λ es. entries_in [] (children_of pre) ++ es) (append-nil (entries_at [] (tree_of b.value)))

    module _ (t : Tree (KeyValue K V)) (full : IsFullBelow t) (is : t.children ≡ children_of (pre ++ b ∷ [])) where
      here : IsFull (plain (front (tree_of b.value) none))
      here = last_box_full (subst (λ k. IsFull (plain k)) is full)

      -- the last child is full below
      pub last_child_full : IsFullBelow (tree_of b.value)
      last_child_full = here.1

      -- the last pair at and below a node with children is that of its last child
      pub last_in_child : slice_get (pairs_in t) (length (pairs_in t) - 1) ≡ slice_get (pairs_in (tree_of b.value)) (length (pairs_in (tree_of b.value)) - 1)
      last_in_child =
          let all = pairs_of-entries_at [] t ∙ ap (λ es. own_pair t.pair ++ es) (ap pairs_in_all is ∙ ap pairs_of entries_in-last_box ∙ pairs_of-append (entries_in [] (children_of pre)) (entries_at [] (tree_of b.value)))
          ∙ sym (append_assoc (own_pair t.pair) (pairs_in_all (children_of pre)) (pairs_in (tree_of b.value))) in
          ap (λ ps. slice_get ps (length ps - 1)) all
          ∙ last_item-append (own_pair t.pair ++ pairs_in_all (children_of pre)) (pairs_in (tree_of b.value)) (full_has_pair (tree_of b.value) here)

  -- a node without children has its own pair alone
  pub only_own_pair : (t : Tree (KeyValue K V)) → t.children ≡ none → option_map pair_of t.pair ≡ slice_get (pairs_in t) (length (pairs_in t) - 1)
  only_own_pair t end = by t.pair ∙ sym (ap (λ ps. slice_get ps (length ps - 1)) (pairs_of-entries_at [] t ∙ ap (λ k. own_pair t.pair ++ pairs_in_all k) end))
    where
      by : (o : Option (KeyValue K V)) → option_map pair_of o ≡ slice_get (own_pair o ++ []) (length (own_pair o ++ []) - 1)
      by None = refl
      by (Some x) = refl

  -- a node without children and without a pair has no pair
  pub no_first : (t : Tree (KeyValue K V)) → t.children ≡ none → own_pair t.pair ≡ [] → None ≡ slice_get (pairs_in t) 0
  no_first t end bare = sym (ap (λ ps. slice_get ps 0) (pairs_of-entries_at [] t ∙ (λ i. bare i ++ pairs_in_all (end i))))
