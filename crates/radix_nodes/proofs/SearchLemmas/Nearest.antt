-- The nearest node at or below a key, from a child and from its parent.
use Rattle.std.proofs.Common.{◌≡◌, ◌≢◌, ℕ, ◌+◌, ◌<◌, List, [], ◌++◌, length, get_or, drop, slice_index, refl, ap, sym, subst, ◌∙◌, arith, inl, append-nil, append_assoc}
use Rattle.std.proofs.lemmas.List.{length-drop}
use Rattle.std.proofs.Math.Seq.{drop-length}
use Rattle.std.specs.declared.boxed.Box.{Box}
use Rattle.std.specs.declared.alloc.Global.{Global}
use Rattle.nibble_map.specs.Lists.{IsPrefix}
use Rattle.nibble_map.specs.Answers.{IsShortest}
use Rattle.masked_tree.specs.Agreement.{Agrees}
use Rattle.masked_tree.specs.Mask.{bit_of}
use Rattle.nibble_map.specs.Trees.{first}
use Rattle.masked_tree.specs.Tree.{Tree, IsAt, IsTreePlaced, firsts}
use Rattle.masked_tree.specs.Paths.{IsNodeAt, IsPath}
use Rattle.masked_tree.proofs.PathLemmas.Paths.{node_from_child}
use Rattle.masked_tree.proofs.PathLemmas.Search.{shortest_here, shortest_in_child, none_in_child, none_gap, none_parted, shortest_inside}
use Rattle.masked_tree.proofs.PathLemmas.Agreement.{append_drop-whole_list}
use Rattle.radix_nodes.specs.declared.trie_node.KeyValue.{KeyValue}
use Rattle.radix_nodes.specs.declared.trie_node.TrieNode.{TrieNode, out-TrieNode}
use Rattle.radix_nodes.specs.Nodes.{tree_of, fragment_of, IsMet, IsNearest}
use Rattle.radix_nodes.specs.declared.search.compare.Agreement.{Agreement}
use Rattle.radix_nodes.proofs.NodeLemmas.Nodes.{fragment-tree_of}
use Rattle.radix_nodes.proofs.EditLemmas.KeyParts.{drop_some, first-drop}
use Rattle.radix_nodes.proofs.SearchLemmas.Compared.{met_child, append-met_rest}

-- the nearest at or below
module _ {K V : Type 0} where
  -- where the key is at its end, the node itself is the nearest at or below it
  pub nearest_here : (n : TrieNode K V) (key : List ℕ) (depth k : ℕ) → depth ≡ length key → k ≡ length (fragment_of n) → IsNearest (tree_of n) (tree_of n) (fragment_of n ++ drop depth key) k
  nearest_here n key depth k e ek =
      let f = (tree_of n).fragment in
      let p : fragment_of n ++ drop depth key ≡ f ++ [] = ap (λ g. g ++ drop depth key) (sym (fragment-tree_of n)) ∙ ap (λ d. f ++ drop d key) e ∙ ap (λ r. f ++ r) (drop-length key) in
      let past : drop k f ≡ [] = ap (λ g. drop k g) (fragment-tree_of n) ∙ ap (λ d. drop d (fragment_of n)) ek ∙ drop-length (fragment_of n) in
      let x : (fragment_of n ++ drop depth key) ++ drop k f ≡ f = ap (λ r. (fragment_of n ++ drop depth key) ++ r) past ∙ append-nil (fragment_of n ++ drop depth key) ∙ p ∙ append-nil f in
      record {
        within = let l = ap length (fragment-tree_of n) in omega (arith, l, ek);
        node = inl (x, refl);
        shortest = subst (λ y. IsShortest (IsPath (tree_of n)) (fragment_of n ++ drop depth key) y) (sym x) (subst (λ q. IsShortest (IsPath (tree_of n)) q f) (sym p) (shortest_here (tree_of n)));
      }

  module _ (n : TrieNode K V) (key : List ℕ) (depth : ℕ) (h : IsTreePlaced (tree_of n)) where
    -- what a path from the node begins is what the same path from its tree begins
    higher_path : (rest q : List ℕ) → IsPrefix (fragment_of n ++ rest) q → IsPrefix ((tree_of n).fragment ++ rest) q
    higher_path rest q p = subst (λ f. IsPrefix (f ++ rest) q) (sym (fragment-tree_of n)) p

    -- where no child begins with the key's next nibble, no node is at or below the key
    pub nearest_none : depth < length key → bit_of (slice_index key depth) (firsts (tree_of n).children) ≡ 0 → (q : List ℕ) → IsPath (tree_of n) q → IsPrefix (fragment_of n ++ drop depth key) q → ⊥
    nearest_none lt e q d p =
        none_gap (tree_of n) (drop depth key) h (drop_some key depth lt) (ap (λ y. bit_of y (firsts (tree_of n).children)) (first-drop key depth) ∙ e) q d (higher_path (drop depth key) q p)

    module _ (m : TrieNode K V) (i : ℕ) (a : Agreement) (lt : depth < length key) (met : IsMet n key depth i a) (b : Box (TrieNode K V) Global)
        (is : get_or (out-TrieNode K V n).children.items i b ≡ b) (em : m ≡ b.value) where
      -- m is the node's child at i
      at_child : IsAt i (tree_of n).children (tree_of m)
      at_child = met_child n key depth h m i a lt met b is em

      -- the child's fragment and the rest of the key agree as far as was compared
      child_agrees : Agrees (tree_of m).fragment (drop depth key) a.same a.compared
      child_agrees = met.agrees (tree_of m) at_child

      -- what is left of the key begins with the child's first nibble
      first-rest : first (drop depth key) ≡ first (tree_of m).fragment
      first-rest = first-drop key depth ∙ sym (met.start (tree_of m) at_child)

      -- the nearest at or below the key's rest in the child is the nearest to the key in the node
      nearest_lifted : (u : Tree (KeyValue K V)) (k : ℕ) → IsNearest (tree_of m) u (drop depth key) k → IsNearest (tree_of n) u (fragment_of n ++ drop depth key) k
      nearest_lifted u k d =
          let rest = drop depth key in
          let x : (tree_of n).fragment ++ (rest ++ drop k u.fragment) ≡ (fragment_of n ++ rest) ++ drop k u.fragment =
          sym (append_assoc (tree_of n).fragment rest (drop k u.fragment)) ∙ ap (λ f. (f ++ rest) ++ drop k u.fragment) (fragment-tree_of n) in
          record {
            within = d.within;
            node = subst (λ y. IsNodeAt (tree_of n) y u) x (node_from_child (tree_of n) (tree_of m) i h at_child (rest ++ drop k u.fragment) u d.node);
            shortest = subst (λ y. IsShortest (IsPath (tree_of n)) (fragment_of n ++ rest) y) x
                (subst (λ f. IsShortest (IsPath (tree_of n)) (f ++ rest) ((tree_of n).fragment ++ (rest ++ drop k u.fragment))) (fragment-tree_of n)
                (shortest_in_child (tree_of n) (tree_of m) i rest h at_child (drop_some key depth lt) first-rest (rest ++ drop k u.fragment) d.shortest));
          }

      -- where the key ends within a child's fragment, that child is the nearest at or below it
      pub nearest_inside : depth + a.same ≡ length key → IsNearest (tree_of n) (tree_of m) (fragment_of n ++ drop depth key) a.same
      nearest_inside e =
          let f = (tree_of m).fragment in let rest = drop depth key in
          let l = length-drop depth key in
          let x : rest ++ drop a.same f ≡ f = append_drop-whole_list f rest a.same a.compared child_agrees (omega (arith, l, e, lt)) in
          nearest_lifted (tree_of m) a.same record {
            within = child_agrees.within;
            node = inl (x, refl);
            shortest = subst (λ y. IsShortest (IsPath (tree_of m)) rest y) (sym x) (shortest_inside (tree_of m) rest (drop a.same f) (sym x));
          }

      -- where no node of the child is at or below the key's rest, none of the node is
      none_up : ((q : List ℕ) → IsPath (tree_of m) q → IsPrefix (drop depth key) q → ⊥) → (q : List ℕ) → IsPath (tree_of n) q → IsPrefix (fragment_of n ++ drop depth key) q → ⊥
      none_up free q d p = none_in_child (tree_of n) (tree_of m) i (drop depth key) h at_child (drop_some key depth lt) first-rest free q d (higher_path (drop depth key) q p)

      -- where the key parts from a child's fragment, no node is at or below the key
      pub nearest_parted : a.same ≢ length (fragment_of m) → depth + a.same ≢ length key → (q : List ℕ) → IsPath (tree_of n) q → IsPrefix (fragment_of n ++ drop depth key) q → ⊥
      nearest_parted e g =
          let w = child_agrees.within in let f = ap length (fragment-tree_of m) in let s : a.same ≢ length (tree_of m).fragment = λ z. e (z ∙ f) in
          let v = child_agrees.inside in let l = length-drop depth key in
          let t : a.same ≢ length (drop depth key) = λ z. g (omega (arith, z, l, lt)) in
          none_up (none_parted (tree_of m) (drop depth key) a.same a.compared child_agrees (omega (arith, w, s)) (omega (arith, v, t)))

      -- past a child's whole fragment, the nearest from the child is the nearest from the parent
      pub nearest_through_child : a.same ≡ length (fragment_of m) → (u : Tree (KeyValue K V)) (k : ℕ) → IsNearest (tree_of m) u (fragment_of m ++ drop (depth + a.same) key) k →
          IsNearest (tree_of n) u (fragment_of n ++ drop depth key) k
      nearest_through_child e u k d = nearest_lifted u k (subst (λ r. IsNearest (tree_of m) u r k) (append-met_rest n key depth h m i a lt met b is em e) d)

      -- past a child's whole fragment: if no node from the child is at or below the key, none is
      pub none_through_child : a.same ≡ length (fragment_of m) → ((q : List ℕ) → IsPath (tree_of m) q → IsPrefix (fragment_of m ++ drop (depth + a.same) key) q → ⊥) →
          (q : List ℕ) → IsPath (tree_of n) q → IsPrefix (fragment_of n ++ drop depth key) q → ⊥
      none_through_child e free = none_up (λ q d p. free q d (subst (λ r. IsPrefix r q) (sym (append-met_rest n key depth h m i a lt met b is em e)) p))
