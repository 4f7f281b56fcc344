-- From nodes to trees.
use Rattle.std.proofs.Common.{◌≡◌, ℕ, zero, suc, ◌<◌, List, [], ◌∷◌, ◌++◌, length, get_or, Option, Some, None, refl, ap, sym, ◌∙◌, arith, Vec}
use Rattle.std.proofs.lemmas.Simd.{map-map}
use Rattle.std.specs.Prelude.{slice_set}
use Rattle.std.specs.List.{insert}
use Rattle.std.specs.declared.boxed.Box.{Box}
use Rattle.std.specs.declared.alloc.Global.{Global}
use Rattle.radix_nodes.specs.declared.trie_node.KeyValue.{KeyValue}
use Rattle.radix_nodes.specs.declared.trie_node.TrieNode.{TrieNode, out-TrieNode, roll-TrieNode, out-roll-TrieNode}
use Rattle.radix_nodes.specs.declared.trie_node.TrieNode.TheOpen.{TrieNode-F}
use Rattle.radix_nodes.specs.declared.trie_node.TrieNode.TheFolds.{fold-roll-TrieNode, fold_out-TrieNode}
use Rattle.masked_tree.specs.Tree.{Tree, none, join, front, IsAt}
use Rattle.masked_tree.specs.Edits.{set_child, insert_child, with_fragment, empty, with_new_child, lowered, leaf}
use Rattle.masked_tree.specs.Mask.{marked}
use Rattle.nibble_map.specs.Trees.{first}
use Rattle.radix_nodes.specs.Nodes.{unboxed, tree_of, tree_step, children_of, fragment_of, IsUpper}

module _ {K V : Type 0} where
  -- the tree that a node's fields stand for
  abbrev tree_from : TrieNode-F K V (TrieNode K V) → Tree (KeyValue K V)
  tree_from x = record { fragment = x.fragment; pair = unboxed x.pair; mask = x.mask; children = children_of x.children.items }

  -- the tree of a node that is put together, by the fields it is made of
  pub tree_of-roll : (x : TrieNode-F K V (TrieNode K V)) → tree_of (roll-TrieNode K V x) ≡ tree_from x
  unfolding tree_of
  tree_of-roll x = fold-roll-TrieNode K V (Tree (KeyValue K V)) tree_step x ∙ ap (λ ts. record { fragment = x.fragment; pair = unboxed x.pair; mask = x.mask; children = join ts }) (map-map _ _ x.children.items)

  -- the tree of a node, by the fields it is taken apart into
  pub tree_of-out : (n : TrieNode K V) → tree_of n ≡ tree_from (out-TrieNode K V n)
  unfolding tree_of
  tree_of-out n = fold_out-TrieNode K V (Tree (KeyValue K V)) tree_step n ∙ (let x = out-TrieNode K V n in ap (λ ts. record { fragment = x.fragment; pair = unboxed x.pair; mask = x.mask; children = join ts }) (map-map _ _ x.children.items))

  -- the tree of the box at i is the child at i of the boxes' children
  pub box_is_at : (bs : List (Box (TrieNode K V) Global)) (i : ℕ) (b : Box (TrieNode K V) Global) → i < length bs → get_or bs i b ≡ b → IsAt i (children_of bs) (tree_of b.value)
  box_is_at [] i b lt at = absurd (omega arith)
  box_is_at (c ∷ bs) zero b lt at = ap (λ d. tree_of d.value) (sym at)
  box_is_at (c ∷ bs) (suc i) b lt at = box_is_at bs i b (omega arith) at

  -- the children of boxes of which the one at i is written: the child at i is the new one
  pub children_of-set : (bs : List (Box (TrieNode K V) Global)) (i : ℕ) (b : Box (TrieNode K V) Global) → children_of (slice_set bs i b) ≡ set_child i (tree_of b.value) (children_of bs)
  children_of-set [] i b = refl
  children_of-set (c ∷ bs) zero b = refl
  children_of-set (c ∷ bs) (suc i) b = ap (front (tree_of c.value)) (children_of-set bs i b)

  -- the children of boxes with one inserted at i: the new child stands at i
  children_of-insert : (bs : List (Box (TrieNode K V) Global)) (i : ℕ) (b : Box (TrieNode K V) Global) → children_of (insert bs i b) ≡ insert_child i (tree_of b.value) (children_of bs)
  children_of-insert bs zero b = refl
  children_of-insert [] (suc i) b = refl
  children_of-insert (c ∷ bs) (suc i) b = ap (front (tree_of c.value)) (children_of-insert bs i b)

  -- a node with an empty fragment, no pair, no bits and no children is the empty tree
  pub new_is : (x : TrieNode-F K V (TrieNode K V)) → x.fragment ≡ [] → x.pair ≡ None → x.mask ≡ 0 → x.children.items ≡ [] → tree_of (roll-TrieNode K V x) ≡ empty
  new_is x f p m c = tree_of-roll x ∙ rw (f, p, m, c) refl

  -- a field is written
  module _ (n : TrieNode K V) where
    -- the node's fields
    abbrev x : TrieNode-F K V (TrieNode K V)
    x = out-TrieNode K V n

    -- the tree of a node whose pair is written: the old one with that pair
    pub tree_of-written_pair : (o : Option (Box (KeyValue K V) Global)) → tree_of (roll-TrieNode K V record { fragment = x.fragment; pair = o; mask = x.mask; children = x.children })
        ≡ record { fragment = (tree_of n).fragment; pair = unboxed o; mask = (tree_of n).mask; children = (tree_of n).children }
    tree_of-written_pair o = tree_of-roll _ ∙ ap (λ (t : Tree (KeyValue K V)). record { fragment = t.fragment; pair = unboxed o; mask = t.mask; children = t.children }) (sym (tree_of-out n))

    -- the tree of a node whose fragment is written: the old one with that fragment
    pub tree_of-written_fragment : (f : List ℕ) → tree_of (roll-TrieNode K V record { fragment = f; pair = x.pair; mask = x.mask; children = x.children }) ≡ with_fragment f (tree_of n)
    tree_of-written_fragment f = tree_of-roll _ ∙ ap (with_fragment f) (sym (tree_of-out n))

    -- the tree of a node whose mask is written: the old one with that mask
    pub tree_of-written_mask : (m : ℕ) → tree_of (roll-TrieNode K V record { fragment = x.fragment; pair = x.pair; mask = m; children = x.children })
        ≡ record { fragment = (tree_of n).fragment; pair = (tree_of n).pair; mask = m; children = (tree_of n).children }
    tree_of-written_mask m = tree_of-roll _ ∙ ap (λ (t : Tree (KeyValue K V)). record { fragment = t.fragment; pair = t.pair; mask = m; children = t.children }) (sym (tree_of-out n))

    -- the tree of a node whose children are written: the old one with those children
    pub tree_of-written_children : (cs : Vec (Box (TrieNode K V) Global) Global) → tree_of (roll-TrieNode K V record { fragment = x.fragment; pair = x.pair; mask = x.mask; children = cs })
        ≡ record { fragment = (tree_of n).fragment; pair = (tree_of n).pair; mask = (tree_of n).mask; children = children_of cs.items }
    tree_of-written_children cs = tree_of-roll _ ∙ ap (λ (t : Tree (KeyValue K V)). record { fragment = t.fragment; pair = t.pair; mask = t.mask; children = children_of cs.items }) (sym (tree_of-out n))

    -- the fragment of a node's tree is the node's
    pub fragment-tree_of : (tree_of n).fragment ≡ x.fragment
    fragment-tree_of = ap (λ (t : Tree (KeyValue K V)). t.fragment) (tree_of-out n)

    -- the mask of a node's tree is the node's
    pub mask-tree_of : (tree_of n).mask ≡ x.mask
    mask-tree_of = ap (λ (t : Tree (KeyValue K V)). t.mask) (tree_of-out n)

    -- the pair of a node's tree is what the node's box holds, if there is one
    pub pair-tree_of : (tree_of n).pair ≡ unboxed x.pair
    pair-tree_of = ap (λ (t : Tree (KeyValue K V)). t.pair) (tree_of-out n)

    -- the children of a node's tree are the trees of the node's boxes
    pub children-tree_of : (tree_of n).children ≡ children_of x.children.items
    children-tree_of = ap (λ (t : Tree (KeyValue K V)). t.children) (tree_of-out n)

    -- a node given another vector of the same boxes stands for the same tree
    pub tree_of-same_children : (cs : Vec (Box (TrieNode K V) Global) Global) → cs.items ≡ x.children.items →
        tree_of (roll-TrieNode K V record { fragment = x.fragment; pair = x.pair; mask = x.mask; children = cs }) ≡ tree_of n
    tree_of-same_children cs e = tree_of-roll _ ∙ ap (λ bs. record { fragment = x.fragment; pair = unboxed x.pair; mask = x.mask; children = children_of bs }) e ∙ sym (tree_of-out n)

  -- a box inserted at i and its bit set in the mask: the tree has that new child at i
  pub tree_of-linked : (n : TrieNode K V) (cs : Vec (Box (TrieNode K V) Global) Global) (m i y : ℕ) (b : Box (TrieNode K V) Global) →
      let x = out-TrieNode K V n in
      let z = out-TrieNode K V (roll-TrieNode K V record { fragment = x.fragment; pair = x.pair; mask = x.mask; children = cs }) in
      cs.items ≡ insert x.children.items i b → m ≡ marked z.mask y →
      tree_of (roll-TrieNode K V record { fragment = z.fragment; pair = z.pair; mask = m; children = z.children }) ≡ with_new_child i y (tree_of b.value) (tree_of n)
  tree_of-linked n cs m i y b added is =
      let x = out-TrieNode K V n in
      let z = roll-TrieNode K V record { fragment = x.fragment; pair = x.pair; mask = x.mask; children = cs } in
      let same : m ≡ marked (tree_of n).mask y = is ∙ ap (λ k. marked k y) (ap (λ o. o.mask) (out-roll-TrieNode K V _) ∙ sym (mask-tree_of n)) in
      tree_of-written_mask z m
      ∙ ap (λ (t : Tree (KeyValue K V)). record { fragment = t.fragment; pair = t.pair; mask = m; children = t.children }) (tree_of-written_children n cs)
      ∙ ap (λ k. record { fragment = (tree_of n).fragment; pair = (tree_of n).pair; mask = k; children = children_of cs.items }) same
      ∙ ap (λ k. record { fragment = (tree_of n).fragment; pair = (tree_of n).pair; mask = marked (tree_of n).mask y; children = k })
      (ap children_of added ∙ children_of-insert x.children.items i b ∙ ap (insert_child i (tree_of b.value)) (sym (children-tree_of n)))

  -- a node with a fragment, no bits and no children, to which a pair is given, is a leaf
  pub tree_of-leaf : (n : TrieNode K V) (b : Box (KeyValue K V) Global) (f : List ℕ) (v : KeyValue K V) → let x = out-TrieNode K V n in
      x.fragment ≡ f → x.mask ≡ 0 → x.children.items ≡ [] → b.value ≡ v →
      tree_of (roll-TrieNode K V record { fragment = x.fragment; pair = Some b; mask = x.mask; children = x.children }) ≡ leaf f v
  tree_of-leaf n b f v ef em ec ev = tree_of-roll _ ∙ rw (ef, em, ec, ev) refl

  -- an upper node over one that keeps the rest of its fragment: the old tree, lowered
  pub tree_of-lowered : (u s : TrieNode K V) (ptr : Box (TrieNode K V) Global) (cs : Vec (Box (TrieNode K V) Global) Global) (tail : List ℕ) →
      let x = out-TrieNode K V u in let o = out-TrieNode K V s in
      IsUpper (fragment_of u) tail u → cs.items ≡ x.children.items ++ ptr ∷ [] →
      ptr.value ≡ roll-TrieNode K V record { fragment = tail; pair = o.pair; mask = o.mask; children = o.children } →
      tree_of (roll-TrieNode K V record { fragment = x.fragment; pair = x.pair; mask = x.mask; children = cs }) ≡ lowered (fragment_of u) tail (tree_of s)
  tree_of-lowered u s ptr cs tail up is at =
      let o = out-TrieNode K V s in
      let below : tree_of ptr.value ≡ with_fragment tail (tree_of s) = ap (λ n. tree_of n) at ∙ tree_of-written_fragment s tail in
      tree_of-roll _
      ∙ ap (λ p. record { fragment = fragment_of u; pair = unboxed p; mask = (out-TrieNode K V u).mask; children = children_of cs.items }) up.1
      ∙ ap (λ m. record { fragment = fragment_of u; pair = None; mask = m; children = children_of cs.items }) up.2
      ∙ ap (λ bs. record { fragment = fragment_of u; pair = None; mask = marked 0 (first tail); children = children_of bs }) (is ∙ ap (λ bs. bs ++ ptr ∷ []) up.3)
      ∙ ap (λ t. record { fragment = fragment_of u; pair = None; mask = marked 0 (first tail); children = front t none }) below
