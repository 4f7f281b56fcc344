-- The pairs of a branch, one child after another.
use Rattle.std.proofs.Common.{◌≡◌, ℕ, ◌+◌, ◌<◌, ◌≤◌, List, [], ◌∷◌, ◌++◌, length, drop, drop_of_length-le, Option, ap, sym, subst, ◌∙◌, arith, append_assoc, append-nil}
use Rattle.std.proofs.Math.ListN.{get_or}
use Rattle.std.proofs.lemmas.List.{length-append, drop_more}
use Rattle.std.specs.declared.boxed.Box.{Box}
use Rattle.std.specs.declared.alloc.Global.{Global}
use Rattle.masked_tree.specs.Tree.{Tree, entries_in, entries_at, nodes_in, nibbles_in}
use Rattle.radix_nodes.specs.declared.whole.size.Measured.{Measured}
use Rattle.radix_nodes.specs.declared.trie_node.KeyValue.{KeyValue}
use Rattle.radix_nodes.specs.declared.trie_node.TrieNode.{TrieNode, out-TrieNode}
use Rattle.radix_nodes.specs.Nodes.{tree_of, children_of, unboxed}
use Rattle.radix_nodes.proofs.NodeLemmas.Nodes.{pair-tree_of, children-tree_of, fragment-tree_of}
use Rattle.radix_nodes.specs.Pairs.{own_pair, pairs_in, pairs_in_all}
use Rattle.radix_nodes.specs.Prunes.{CanCount}
use Rattle.radix_nodes.proofs.NodeLemmas.Pairs.{pairs_of-append, length-pairs_of, pairs_of-entries_at}

module _ {K V : Type 0} where
  -- the pairs of a first child and others: the child's, then the others'
  pairs_next : (b : Box (TrieNode K V) Global) (bs : List (Box (TrieNode K V) Global)) → pairs_in_all (children_of (b ∷ bs)) ≡ pairs_in (tree_of b.value) ++ pairs_in_all (children_of bs)
  pairs_next b bs = pairs_of-append (entries_at [] (tree_of b.value)) (entries_in [] (children_of bs))

  -- of what t holds so much is moved, nodes and nibbles are counted on from gone₀, and the children bs are left
  pub record LeavesChildren (t : Tree (KeyValue K V)) (start list : List (K × V)) (bs : List (Box (TrieNode K V) Global)) (gone₀ gone : Measured) : Type 0 where
    pub pairs : list ++ pairs_in_all (children_of bs) ≡ start ++ pairs_in t
    pub longer : length start ≤ length list
    pub more : gone₀.nodes ≤ gone.nodes
    pub noded : gone.nodes + nodes_in (children_of bs) ≡ gone₀.nodes + nodes_in t.children
    pub nibbled : gone.nibbles + nibbles_in (children_of bs) ≡ gone₀.nibbles + (length t.fragment + nibbles_in t.children)

  -- at first the node's own pair is moved, and all its children are left
  pub left_start : (n : TrieNode K V) (start list : List (K × V)) (bs : List (Box (TrieNode K V) Global)) (gone₀ gone : Measured) → let x = out-TrieNode K V n in
      list ≡ start ++ own_pair (unboxed x.pair) → bs ≡ x.children.items → gone.nodes ≡ gone₀.nodes → gone.nibbles ≡ gone₀.nibbles + length x.fragment
      → LeavesChildren (tree_of n) start list bs gone₀ gone
  left_start n start list bs gone₀ gone put is same size =
      let children : children_of bs ≡ (tree_of n).children = ap children_of is ∙ sym (children-tree_of n) in
      record {
        pairs = (let below = ap pairs_in_all children in let own = put ∙ ap (λ o. start ++ own_pair o) (sym (pair-tree_of n)) in λ i. own i ++ below i)
            ∙ append_assoc start (own_pair (tree_of n).pair) (pairs_in_all (tree_of n).children) ∙ ap (λ r. start ++ r) (sym (pairs_of-entries_at [] (tree_of n)));
        longer = let a = ap length put in let b = length-append start (own_pair (unboxed (out-TrieNode K V n).pair)) in omega (arith, a, b);
        more = omega (arith, same);
        noded = let a = ap nodes_in children in omega (arith, a, same);
        nibbled = let a = ap nibbles_in children in let b = ap length (fragment-tree_of n) in omega (arith, a, b, size);
      }

  module _ (t : Tree (KeyValue K V)) (start list : List (K × V)) (b : Box (TrieNode K V) Global) (bs : List (Box (TrieNode K V) Global)) (gone₀ gone : Measured)
      (left : LeavesChildren t start list (b ∷ bs) gone₀ gone) where
    -- the moved pairs, the next child's and the others' are those from before and all of the tree's
    append-next_pairs : list ++ (pairs_in (tree_of b.value) ++ pairs_in_all (children_of bs)) ≡ start ++ pairs_in t
    append-next_pairs = ap (λ r. list ++ r) (sym (pairs_next b bs)) ∙ left.pairs

    -- with the next child's pairs, nodes and nibbles moved and counted, the later children are left
    pub left_next : (list' : List (K × V)) (gone' : Measured) → list' ≡ list ++ pairs_in (tree_of b.value) → gone'.nodes ≡ gone.nodes + (nodes_in (tree_of b.value).children + 1)
        → gone'.nibbles ≡ gone.nibbles + (length (tree_of b.value).fragment + nibbles_in (tree_of b.value).children) → LeavesChildren t start list' bs gone₀ gone'
    left_next list' gone' put noded nibbled = record {
      pairs = ap (λ l. l ++ pairs_in_all (children_of bs)) put ∙ append_assoc list (pairs_in (tree_of b.value)) (pairs_in_all (children_of bs)) ∙ append-next_pairs;
      longer = let a = ap length put in let c = length-append list (pairs_in (tree_of b.value)) in omega (arith, a, c, left.longer);
      more = omega (arith, noded, left.more);
      noded = omega (arith, noded, left.noded);
      nibbled = omega (arith, nibbled, left.nibbled);
    }

    -- the moved pairs and the next child's are no more than those from before and all of the tree's
    next_pairs_fit : length list + length (entries_at [] (tree_of b.value)) ≤ length start + length (entries_at [] t)
    next_pairs_fit =
        let a = ap length append-next_pairs in let c = length-append list (pairs_in (tree_of b.value) ++ pairs_in_all (children_of bs)) in
        let d = length-append (pairs_in (tree_of b.value)) (pairs_in_all (children_of bs)) in let e = length-append start (pairs_in t) in
        omega (arith, a, c, d, e, length-pairs_of (entries_at [] (tree_of b.value)), length-pairs_of (entries_at [] t))

    -- a list with room for all of the tree's pairs has room for the next child's
    pub left_room : (most : ℕ) → length start + length (entries_at [] t) ≤ most → length list + length (entries_at [] (tree_of b.value)) ≤ most
    left_room most fits = omega (arith, next_pairs_fit, fits)

    -- where what the tree holds can be counted, what the next child holds can be counted on
    pub left_small : CanCount gone₀ t → CanCount gone (tree_of b.value)
    left_small s = record {
      nodes = omega (arith, left.noded, s.nodes);
      nibbles = omega (arith, left.nibbled, s.nibbles);
    }

    -- the next child has fewer nodes below it than the tree
    pub left_fewer : nodes_in (tree_of b.value).children < nodes_in t.children
    left_fewer = omega (arith, left.more, left.noded)

    -- the nodes counted so far and the next child's are no more than those from before and the tree's
    pub left_noded : gone.nodes + (nodes_in (tree_of b.value).children + 1) ≤ gone₀.nodes + nodes_in t.children
    left_noded = omega (arith, left.noded)

  -- where the children from place i on are left, the next one is that at i
  pub left_at : (t : Tree (KeyValue K V)) (start list : List (K × V)) (bs : List (Box (TrieNode K V) Global)) (i : ℕ) (b : Box (TrieNode K V) Global) (gone₀ gone : Measured)
      → i < length bs → get_or bs i b ≡ b → LeavesChildren t start list (drop i bs) gone₀ gone → LeavesChildren t start list (b ∷ drop (i + 1) bs) gone₀ gone
  left_at t start list bs i b gone₀ gone lt at left =
      subst (λ rest. LeavesChildren t start list rest gone₀ gone) (drop_more bs i b lt ∙ ap (λ x. x ∷ drop (i + 1) bs) at) left

  -- once no child of the node n is left from place i on, all of the tree's pairs are moved, its nodes and nibbles counted
  pub left_end : (t : Tree (KeyValue K V)) (start list : List (K × V)) (n : TrieNode K V) (i : ℕ) (gone₀ gone : Measured) → let bs = (out-TrieNode K V n).children.items in
      LeavesChildren t start list (drop i bs) gone₀ gone → length bs ≤ i
      → (list ≡ start ++ pairs_in t) × (gone.nodes ≡ gone₀.nodes + nodes_in t.children) × (gone.nibbles ≡ gone₀.nibbles + (length t.fragment + nibbles_in t.children))
  left_end t start list n i gone₀ gone left most =
      let bs = (out-TrieNode K V n).children.items in
      let end : LeavesChildren t start list [] gone₀ gone = subst (λ rest. LeavesChildren t start list rest gone₀ gone) (drop_of_length-le bs most) left in
      (sym (append-nil list) ∙ end.pairs, omega (arith, end.noded), omega (arith, end.nibbled))

  -- a tree's own pair, if it has one, is among the pairs it holds
  own_room : (o : Option (KeyValue K V)) (t : Tree (KeyValue K V)) → t.pair ≡ o → length (own_pair o) ≤ length (entries_at [] t)
  own_room o t e =
      let a = ap length (pairs_of-entries_at [] t) in let b = length-append (own_pair t.pair) (pairs_in_all t.children) in let c = ap (λ p. length (own_pair p)) e in
      omega (arith, a, b, c, length-pairs_of (entries_at [] t))

  -- a node's own pair, if it has one, is among the pairs it holds
  pub start_room : (n : TrieNode K V) → length (own_pair (unboxed (out-TrieNode K V n).pair)) ≤ length (entries_at [] (tree_of n))
  start_room n = own_room _ (tree_of n) (pair-tree_of n)
