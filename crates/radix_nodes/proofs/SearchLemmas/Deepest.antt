-- The node at a key's end, and the deepest node and pair on its way, from a child and from its parent.
use Rattle.std.proofs.Common.{◌≡◌, ◌≢◌, ℕ, suc, ◌+◌, ◌-◌, ◌<◌, ◌≤◌, List, [], ◌++◌, length, get_or, take, drop, Option, Some, None, IsSome, Bor, ◌⊎◌, refl, ap, sym, subst, ◌∙◌, arith, inl, inr, append-nil}
use Rattle.std.proofs.lemmas.List.{length-append, length-drop}
use Rattle.std.proofs.Math.Seq.{drop-length}
use Rattle.std.specs.Option.{option_or}
use Rattle.std.specs.declared.boxed.Box.{Box}
use Rattle.std.specs.declared.alloc.Global.{Global}
use Rattle.nibble_map.specs.Lists.{IsPrefix, Counts}
use Rattle.nibble_map.specs.Answers.{IsLongest}
use Rattle.nibble_map.specs.Trees.{first}
use Rattle.masked_tree.specs.Tree.{Tree, IsAt, IsTreePlaced}
use Rattle.masked_tree.specs.Paths.{IsNodeAt, IsPath, IsHeld, IsOnWay, IsStuck}
use Rattle.masked_tree.proofs.TreeLemmas.Children.{child_tree_is_placed}
use Rattle.masked_tree.proofs.PathLemmas.Paths.{node_from_child, node_to_child, stuck_free}
use Rattle.masked_tree.proofs.PathLemmas.Search.{count_here, count_through_child, longest_here, longest_in_child, held_longest, held_none, held_longest_in_child, held_longest_own, held_none_in_child, stuck_end}
use Rattle.masked_tree.proofs.PathLemmas.BehindFragment.{take_past}
use Rattle.radix_nodes.specs.declared.trie_node.KeyValue.{KeyValue}
use Rattle.radix_nodes.specs.declared.trie_node.TrieNode.{TrieNode, out-TrieNode}
use Rattle.radix_nodes.specs.Nodes.{tree_of, fragment_of, unboxed, IsStep, IsDeepest, on_way}
use Rattle.radix_nodes.specs.Searches.{FindsDeepestPair, Visits}
use Rattle.radix_nodes.proofs.NodeLemmas.Nodes.{fragment-tree_of}
use Rattle.radix_nodes.proofs.EditLemmas.KeyParts.{drop_some}
use Rattle.radix_nodes.proofs.EditLemmas.Steps.{step_is_child, held_here, free_here}
use Rattle.nibble_map.proofs.ListLemmas.Cut.{first-append}

-- the path that ends at a node itself
way_here : (f key : List ℕ) (depth : ℕ) → on_way f key depth depth ≡ f
way_here f key depth = let z : depth - depth ≡ 0 = omega arith in ap (λ k. f ++ take k (drop depth key)) z ∙ append-nil f

-- a tree whose own path is the longest of S on the key's way is the deepest node for the key
deepest_from : {P : Type 0} (S : List ℕ → Type 0) (t : Tree P) (key : List ℕ) (depth : ℕ) → depth ≤ length key → IsLongest S (t.fragment ++ drop depth key) t.fragment → IsDeepest S t t key depth depth
deepest_from S t key depth most l = record {
  further = omega arith;
  inside = most;
  node = inl (way_here t.fragment key depth, refl);
  longest = subst (λ x. IsLongest S (t.fragment ++ drop depth key) x) (sym (way_here t.fragment key depth)) l;
}

-- a second that is none changes nothing
pub option_or-None : {A : Type 0} (a : Option A) → option_or a None ≡ a
option_or-None None = refl
option_or-None (Some a) = refl

module _ {K V : Type 0} where
  -- where the key is at its end, the node itself is the one at its path
  pub node_here : (n : TrieNode K V) (key : List ℕ) (depth : ℕ) → depth ≡ length key → IsNodeAt (tree_of n) (fragment_of n ++ drop depth key) (tree_of n)
  node_here n key depth e =
      inl (ap (λ d. fragment_of n ++ drop d key) e ∙ ap (λ r. fragment_of n ++ r) (drop-length key) ∙ append-nil (fragment_of n) ∙ sym (fragment-tree_of n), refl)

  -- a key that is at its end can't go on below the node
  pub end_stuck : (n : TrieNode K V) (key : List ℕ) (depth : ℕ) → IsTreePlaced (tree_of n) → depth ≡ length key → IsStuck (tree_of n) (drop depth key)
  end_stuck n key depth h e = subst (λ r. IsStuck (tree_of n) r) (sym (ap (λ d. drop d key) e ∙ drop-length key)) (stuck_end (tree_of n) h)

  -- where a key that isn't at its end can't go on, no node has its path
  pub stuck_absent : (n : TrieNode K V) (key : List ℕ) (depth : ℕ) → depth < length key → IsStuck (tree_of n) (drop depth key) → (u : Tree (KeyValue K V)) → IsNodeAt (tree_of n) (fragment_of n ++ drop depth key) u → ⊥
  stuck_absent n key depth lt s u d =
      stuck_free (tree_of n) (drop depth key) (drop_some key depth lt) s u (subst (λ f. IsNodeAt (tree_of n) (f ++ drop depth key) u) (sym (fragment-tree_of n)) d)

  -- where the key can't go on, the node itself is the deepest on its way
  pub deepest_here : (n : TrieNode K V) (key : List ℕ) (depth : ℕ) → depth ≤ length key → IsStuck (tree_of n) (drop depth key) → IsDeepest (IsPath (tree_of n)) (tree_of n) (tree_of n) key depth depth
  deepest_here n key depth most s = deepest_from (IsPath (tree_of n)) (tree_of n) key depth most (longest_here (tree_of n) (drop depth key) s)

  -- where the key can't go on, the node itself is the only one on its way
  pub visits_here : (n : TrieNode K V) (key : List ℕ) (depth : ℕ) → IsStuck (tree_of n) (drop depth key) → Visits 1 n key depth
  visits_here n key depth s = subst (λ f. Counts (IsOnWay (tree_of n) (f ++ drop depth key)) 1) (fragment-tree_of n) (count_here (tree_of n) (drop depth key) s)

  -- a step from n to its child m
  module _ (n m : TrieNode K V) (key : List ℕ) (depth i next : ℕ) (h : IsTreePlaced (tree_of n)) (s : IsStep n key depth i next) (b : Box (TrieNode K V) Global)
      (is : get_or (out-TrieNode K V n).children.items i b ≡ b) (em : m ≡ b.value) where
    -- m is the node's child at i
    at : IsAt i (tree_of n).children (tree_of m)
    at = subst (λ k. IsAt i (tree_of n).children (tree_of k)) (sym em) (step_is_child n key depth i h next b s is)

    -- the children of a child that a key goes on to stand at their places
    pub down_placed : IsTreePlaced (tree_of m)
    down_placed = (child_tree_is_placed 0 i (tree_of n).children (tree_of m) at h.1).1

    -- the tree's fragment, joined with what the key has behind m, is what was left of the key
    path : (tree_of m).fragment ++ drop next key ≡ drop depth key
    path = s.path (tree_of m) at

    -- a key that goes on isn't at its end
    some : drop depth key ≢ []
    some = drop_some key depth (let a = s.further in let b = s.inside in omega (arith, a, b))

    -- what is left of the key begins with the child's first nibble
    start : first (drop depth key) ≡ first (tree_of m).fragment
    start = ap first (sym path) ∙ first-append (tree_of m).fragment (drop next key) (child_tree_is_placed 0 i (tree_of n).children (tree_of m) at h.1).0

    -- the child's fragment, joined with what the key has behind it, is what was left of the key
    pub append-child_rest : fragment_of m ++ drop next key ≡ drop depth key
    append-child_rest = ap (λ f. f ++ drop next key) (sym (fragment-tree_of m)) ∙ path

    -- the node that a key finds from the child is the one it finds from the parent
    pub found_from_child : (u : Tree (KeyValue K V)) → IsNodeAt (tree_of m) (fragment_of m ++ drop next key) u → IsNodeAt (tree_of n) (fragment_of n ++ drop depth key) u
    found_from_child u d =
        subst (λ f. IsNodeAt (tree_of n) (f ++ drop depth key) u) (fragment-tree_of n)
        (node_from_child (tree_of n) (tree_of m) i h at (drop depth key) u (subst (λ x. IsNodeAt (tree_of m) x u) append-child_rest d))

    -- the node that a key finds from the parent is the one it finds from the child it goes on to
    pub found_in_child : (u : Tree (KeyValue K V)) → IsNodeAt (tree_of n) (fragment_of n ++ drop depth key) u → IsNodeAt (tree_of m) (fragment_of m ++ drop next key) u
    found_in_child u d =
        subst (λ x. IsNodeAt (tree_of m) x u) (sym append-child_rest)
        (node_to_child (tree_of n) (tree_of m) i h at (drop depth key) u some start (subst (λ f. IsNodeAt (tree_of n) (f ++ drop depth key) u) (sym (fragment-tree_of n)) d))

    -- from the node one more node is on the key's way than from the child that it goes on to
    pub visits_through_child : (count : ℕ) → Visits count m key next → Visits (suc count) n key depth
    visits_through_child count v =
        subst (λ f. Counts (IsOnWay (tree_of n) (f ++ drop depth key)) (suc count)) (fragment-tree_of n)
        (count_through_child (tree_of n) (tree_of m) i (drop depth key) h at some start count (subst (λ x. Counts (IsOnWay (tree_of m) x) count) append-child_rest v))

    -- a key goes on by as many nibbles as the child's fragment has
    size : length (tree_of m).fragment + depth ≡ next
    size =
        let l = ap length path in let a = length-append (tree_of m).fragment (drop next key) in
        let c = length-drop next key in let d = length-drop depth key in
        omega (arith, l, a, c, d, s.inside, s.further)

    -- a way that goes through the child, seen from the child and from the parent
    way : (e : ℕ) → next ≤ e → (tree_of n).fragment ++ on_way (tree_of m).fragment key next e ≡ on_way (tree_of n).fragment key depth e
    way e l =
        let f = (tree_of m).fragment in
        let k : length f + (e - next) ≡ e - depth = (let z = size in omega (arith, z, l)) in
        ap (λ x. (tree_of n).fragment ++ x) (sym (take_past f (drop next key) (e - next)) ∙ ap (λ j. take j (f ++ drop next key)) k ∙ ap (λ r. take (e - depth) r) path)

    -- the deepest node from the child is the one from the parent, if the longest lists are too
    deepest_up : (S C : List ℕ → Type 0) (u : Tree (KeyValue K V)) (e : ℕ) →
        ((x : List ℕ) → IsLongest C (drop depth key) x → IsLongest S ((tree_of n).fragment ++ drop depth key) ((tree_of n).fragment ++ x)) →
        IsDeepest C (tree_of m) u key next e → IsDeepest S (tree_of n) u key depth e
    deepest_up S C u e lift d = record {
      further = (let a = s.further in let b = d.further in omega (arith, a, b));
      inside = d.inside;
      node = subst (λ x. IsNodeAt (tree_of n) x u) (way e d.further) (node_from_child (tree_of n) (tree_of m) i h at (on_way (tree_of m).fragment key next e) u d.node);
      longest = subst (λ x. IsLongest S ((tree_of n).fragment ++ drop depth key) x) (way e d.further)
          (lift (on_way (tree_of m).fragment key next e) (subst (λ r. IsLongest C r (on_way (tree_of m).fragment key next e)) path d.longest));
    }

    -- the deepest node that a key reaches from the child is the one it reaches from the parent
    pub deepest_through_child : (u : Tree (KeyValue K V)) (e : ℕ) → IsDeepest (IsPath (tree_of m)) (tree_of m) u key next e → IsDeepest (IsPath (tree_of n)) (tree_of n) u key depth e
    deepest_through_child u e = deepest_up (IsPath (tree_of n)) (IsPath (tree_of m)) u e (longest_in_child (tree_of n) (tree_of m) i (drop depth key) h at some start)

    -- the deepest pair that a key reaches from the child is the one it reaches from the parent
    pub deepest_pair_through_child : (u : Tree (KeyValue K V)) (e : ℕ) → IsDeepest (IsHeld (tree_of m)) (tree_of m) u key next e → IsDeepest (IsHeld (tree_of n)) (tree_of n) u key depth e
    deepest_pair_through_child u e = deepest_up (IsHeld (tree_of n)) (IsHeld (tree_of m)) u e (held_longest_in_child (tree_of n) (tree_of m) i (drop depth key) h at some start)

-- a node's own pair as the result
module _ {K V : Type 0} where
  -- a node with a pair has one at its tree's own path
  held_own : (n : TrieNode K V) → IsSome (unboxed (out-TrieNode K V n).pair) → IsHeld (tree_of n) (tree_of n).fragment
  held_own n s = subst (λ f. IsHeld (tree_of n) f) (sym (fragment-tree_of n)) (held_here n s)

  -- a node without a pair has none at its tree's own path
  free_own : (n : TrieNode K V) → IsTreePlaced (tree_of n) → unboxed (out-TrieNode K V n).pair ≡ None → IsHeld (tree_of n) (tree_of n).fragment → ⊥
  free_own n h e d = free_here n h e (subst (λ f. IsHeld (tree_of n) f) (fragment-tree_of n) d)

  -- a prefix of a path from the node is one of the same path from its tree
  lower_path : (n : TrieNode K V) (rest q : List ℕ) → IsPrefix q (fragment_of n ++ rest) → IsPrefix q ((tree_of n).fragment ++ rest)
  lower_path n rest q p = subst (λ f. IsPrefix q (f ++ rest)) (sym (fragment-tree_of n)) p

  -- where the key can't go on, a node with a pair is the deepest pair on the key's way
  pub own_deepest : (n : TrieNode K V) (key : List ℕ) (depth : ℕ) → depth ≤ length key → IsStuck (tree_of n) (drop depth key) → IsSome (unboxed (out-TrieNode K V n).pair) →
      IsDeepest (IsHeld (tree_of n)) (tree_of n) (tree_of n) key depth depth
  own_deepest n key depth most s some = deepest_from (IsHeld (tree_of n)) (tree_of n) key depth most (held_longest (tree_of n) (drop depth key) s (held_own n some))

  -- where the key can't go on and the node has no pair, none is on the key's way
  pub no_pair_on_way : (n : TrieNode K V) (key : List ℕ) (depth : ℕ) → IsTreePlaced (tree_of n) → IsStuck (tree_of n) (drop depth key) → unboxed (out-TrieNode K V n).pair ≡ None →
      (q : List ℕ) → IsHeld (tree_of n) q → IsPrefix q (fragment_of n ++ drop depth key) → ⊥
  no_pair_on_way n key depth h s bare q d p = held_none (tree_of n) (drop depth key) s (free_own n h bare) q d (lower_path n (drop depth key) q p)

  module _ (n m : TrieNode K V) (key : List ℕ) (depth i next : ℕ) (h : IsTreePlaced (tree_of n)) (s : IsStep n key depth i next) (b : Box (TrieNode K V) Global)
      (is : get_or (out-TrieNode K V n).children.items i b ≡ b) (em : m ≡ b.value) where
    -- no pair of the child is on the key's way, seen from the child and from the parent
    none_rest : ((q : List ℕ) → IsHeld (tree_of m) q → IsPrefix q (fragment_of m ++ drop next key) → ⊥) → (q : List ℕ) → IsHeld (tree_of m) q → IsPrefix q (drop depth key) → ⊥
    none_rest free q d p = free q d (subst (λ r. IsPrefix q r) (sym (append-child_rest n m key depth i next h s b is em)) p)

    -- where no pair on the key's way is below, a node with a pair is the deepest one
    pub own_deepest_through_child : depth ≤ length key → ((q : List ℕ) → IsHeld (tree_of m) q → IsPrefix q (fragment_of m ++ drop next key) → ⊥) → IsSome (unboxed (out-TrieNode K V n).pair) →
        IsDeepest (IsHeld (tree_of n)) (tree_of n) (tree_of n) key depth depth
    own_deepest_through_child most free some_ =
        deepest_from (IsHeld (tree_of n)) (tree_of n) key depth most
        (held_longest_own (tree_of n) (tree_of m) i (drop depth key) h (at n m key depth i next h s b is em) (some n m key depth i next h s b is em) (start n m key depth i next h s b is em) (none_rest free) (held_own n some_))

    -- where no pair on the key's way is below and the node has none, none is on it
    pub no_pair_through_child : ((q : List ℕ) → IsHeld (tree_of m) q → IsPrefix q (fragment_of m ++ drop next key) → ⊥) → unboxed (out-TrieNode K V n).pair ≡ None →
        (q : List ℕ) → IsHeld (tree_of n) q → IsPrefix q (fragment_of n ++ drop depth key) → ⊥
    no_pair_through_child free bare q d p =
        held_none_in_child (tree_of n) (tree_of m) i (drop depth key) h (at n m key depth i next h s b is em) (some n m key depth i next h s b is em) (start n m key depth i next h s b is em) (none_rest free) (free_own n h bare) q d
        (lower_path n (drop depth key) q p)

-- the best pair so far, at a node that is passed: its own, where it has one
module _ {K V : Type 0} (at : Bor (TrieNode K V)) (key : List ℕ) (depth : ℕ) (h : IsTreePlaced (tree_of at.now)) (most : depth ≤ length key)
    (best best' : Option (Bor (TrieNode K V) × ℕ))
    (own : (IsSome (unboxed (out-TrieNode K V at.now).pair) × (best' ≡ Some (at, depth))) ⊎ ((unboxed (out-TrieNode K V at.now).pair ≡ None) × (best' ≡ best)))
    (Goal : Option (Bor (TrieNode K V) × ℕ) → Type 0) (leads : (r : Option (Bor (TrieNode K V) × ℕ)) → FindsDeepestPair r at.now key depth → Goal (option_or r best)) where
  -- where the key can't go on, the best pair is the result
  pub best_at_end : IsStuck (tree_of at.now) (drop depth key) → Goal best'
  best_at_end stuck =
      elim own [
        | inl o ↦ subst Goal (sym o.1) (leads (Some (at, depth)) (own_deepest at.now key depth most stuck o.0))
        | inr o ↦ subst Goal (sym o.1) (leads None (no_pair_on_way at.now key depth h stuck o.0))
      ]

  -- the child's result is the result, and where it has none the best pair is
  pub best_through_child : (m : TrieNode K V) (i next : ℕ) (s : IsStep at.now key depth i next) (b : Box (TrieNode K V) Global) → get_or (out-TrieNode K V at.now).children.items i b ≡ b → m ≡ b.value
      → (r : Option (Bor (TrieNode K V) × ℕ)) → FindsDeepestPair r m key next → Goal (option_or r best')
  best_through_child m i next s b is em (Some x) found = leads (Some x) (deepest_pair_through_child at.now m key depth i next h s b is em (tree_of x.0.now) x.1 found)
  best_through_child m i next s b is em None free =
      elim own [
        | inl o ↦ subst Goal (sym o.1) (leads (Some (at, depth)) (own_deepest_through_child at.now m key depth i next h s b is em most free o.0))
        | inr o ↦ subst Goal (sym o.1) (leads None (no_pair_through_child at.now m key depth i next h s b is em free o.0))
      ]
