-- A node that loses its pair or a child, and one merged with its only child.
use Rattle.std.proofs.Common.{◌≡◌, ◌≢◌, ℕ, zero, suc, ◌<◌, List, [], ◌∷◌, ◌++◌, length, get_or, Option, Some, None, refl, ap, sym, subst, ◌∙◌, arith, inl, inr, Result, Ok, Err, IfOk, IsOk, OnErr, false, true, Vec}
use Rattle.std.specs.declared.boxed.Box.{Box}
use Rattle.std.specs.declared.alloc.Global.{Global}
use Rattle.std.specs.List.{remove}
use Rattle.nibble_map.specs.Trees.{AreMany}
use Rattle.radix_nodes.specs.declared.trie_node.KeyValue.{KeyValue}
use Rattle.radix_nodes.specs.declared.trie_node.TrieNode.{TrieNode, out-TrieNode, roll-TrieNode, out-roll-TrieNode}
use Rattle.masked_tree.specs.Mask.{cleared}
use Rattle.masked_tree.specs.Tree.{Tree, Children, none, more, front, plain, IsAt, IsTreePlaced}
use Rattle.masked_tree.specs.Edits.{IsOne, remove_child, without_pair, without_child, merged, merged_into}
use Rattle.masked_tree.specs.Alters.{Cuts}
use Rattle.radix_nodes.specs.Nodes.{unboxed, tree_of, children_of, fragment_of}
use Rattle.radix_nodes.proofs.NodeLemmas.Nodes.{tree_of-roll, tree_of-out, tree_of-written_pair, tree_of-written_mask, tree_of-written_children, children-tree_of, pair-tree_of, mask-tree_of, fragment-tree_of}
use Rattle.radix_nodes.proofs.EditLemmas.Insertion.{box_is_child}
use Rattle.std.proofs.lemmas.Bool.Decides.{leb_tells}
use Rattle.nibble_map.specs.Nibbles.{IsShort}
use Rattle.masked_tree.proofs.TreeLemmas.Children.{child_at_is_unique}
use Rattle.masked_tree.proofs.EditLemmas.Removal.{pair_goes, root_as_child, merged_as_child}

-- what follows for each good result follows for a result that may be good
pub if_ok_implies : {A E : Type 0} (P Q : A → Type 0) (r : Result A E) → IfOk r P → ((a : A) → P a → Q a) → IfOk r Q
if_ok_implies P Q (Ok a) h f = f a h
if_ok_implies P Q (Err e) h f = h

-- what is refused is long
-- what follows of more than 32 nibbles follows of a refusal that spares short lists
pub refused_is_long : {A E : Type 0} {Q : Type 0} (r : Result A E) (xs : List ℕ) → (IsShort xs → IsOk r) → (32 < length xs → Q) → OnErr r Q
refused_is_long (Ok a) xs h f = tt
refused_is_long (Err e) xs h f = f (elim (leb_tells (length xs) 32) [ inl l ↦ absurd (let i : false ≡ true = h l.1 in cc i) | inr l ↦ omega (arith, l.1) ])

-- two items that both stand at one place within a list are one
pub item_is_unique : {A : Type 0} (xs : List A) (i : ℕ) (a b : A) → i < length xs → get_or xs i a ≡ a → get_or xs i b ≡ b → a ≡ b
item_is_unique [] i a b lt p q = absurd (omega (arith, lt))
item_is_unique (x ∷ xs) zero a b lt p q = sym p ∙ q
item_is_unique (x ∷ xs) (suc i) a b lt p q = item_is_unique xs i a b (omega (arith, lt)) p q

module _ {P : Type 0} where
  -- a fragment joined with an only child's is the fragment of the node merged with that child
  pub merged_fragment : (q f : List ℕ) (k : Children P) → IsOne k → ((u : Tree P) → IsAt 0 k u → f ≡ q ++ u.fragment) → f ≡ (merged_into q k).fragment
  merged_fragment q f none o h = absurd o
  merged_fragment q f (more g p m children none) o h = h (record { fragment = g; pair = p; mask = m; children = children }) refl
  merged_fragment q f (more g p m children (more a b c d others)) o h = absurd o

module _ {K V : Type 0} where
  -- the child at i is the tree of the box at i
  pub child_is_in_box : (n : TrieNode K V) (i : ℕ) (b : Box (TrieNode K V) Global) (u : Tree (KeyValue K V)) → IsTreePlaced (tree_of n) →
      i < length (out-TrieNode K V n).children.items → get_or (out-TrieNode K V n).children.items i b ≡ b → IsAt i (tree_of n).children u → u ≡ tree_of b.value
  child_is_in_box n i b u h lt at a = child_at_is_unique i (tree_of n).children (tree_of b.value) u (box_is_child n i b h lt at) a

  -- one box is exactly one child
  children_one : (bs : List (Box (TrieNode K V) Global)) → length bs ≡ 1 → IsOne (children_of bs)
  children_one [] e = absurd (omega (arith, e))
  children_one (b ∷ []) e = tt
  children_one (b ∷ (c ∷ bs)) e = absurd (omega (arith, e))

  -- two boxes or more are two children or more
  children_many : (bs : List (Box (TrieNode K V) Global)) → 1 < length bs → AreMany (plain (children_of bs))
  children_many [] e = absurd (omega (arith, e))
  children_many (b ∷ []) e = absurd (omega (arith, e))
  children_many (b ∷ (c ∷ bs)) e = tt

  -- a node with one box has exactly one child
  pub has_one_child : (n : TrieNode K V) → length (out-TrieNode K V n).children.items ≡ 1 → IsOne (tree_of n).children
  has_one_child n e = subst (λ k. IsOne k) (sym (children-tree_of n)) (children_one _ e)

  -- a node with two boxes or more has two children or more
  has_many_children : (n : TrieNode K V) → 1 < length (out-TrieNode K V n).children.items → AreMany (plain (tree_of n).children)
  has_many_children n e = subst (λ k. AreMany (plain k)) (sym (children-tree_of n)) (children_many _ e)

  -- a fragment merged with one box: that box's tree, with its fragment behind the other
  merged_children : (q : List ℕ) (bs : List (Box (TrieNode K V) Global)) (b : Box (TrieNode K V) Global) → length bs ≡ 1 → get_or bs 0 b ≡ b →
      merged_into q (children_of bs) ≡ record { fragment = q ++ (tree_of b.value).fragment; pair = (tree_of b.value).pair; mask = (tree_of b.value).mask; children = (tree_of b.value).children }
  merged_children q [] b e at = absurd (omega (arith, e))
  merged_children q (c ∷ []) b e at = ap (λ d. record { fragment = q ++ (tree_of d.value).fragment; pair = (tree_of d.value).pair; mask = (tree_of d.value).mask; children = (tree_of d.value).children }) at
  merged_children q (c ∷ (d ∷ bs)) b e at = absurd (omega (arith, e))

  -- the only child, given the merged fragment, stands for the node merged with it
  pub tree_of-absorbed : (n m : TrieNode K V) (b : Box (TrieNode K V) Global) (f : List ℕ) → length (out-TrieNode K V n).children.items ≡ 1 → get_or (out-TrieNode K V n).children.items 0 b ≡ b →
      m ≡ b.value → f ≡ (merged (tree_of n)).fragment →
      tree_of (roll-TrieNode K V record { fragment = f; pair = (out-TrieNode K V m).pair; mask = (out-TrieNode K V m).mask; children = (out-TrieNode K V m).children }) ≡ merged (tree_of n)
  tree_of-absorbed n m b f e at em ef =
      let is : merged (tree_of n) ≡ record { fragment = (tree_of n).fragment ++ (tree_of b.value).fragment; pair = (tree_of b.value).pair; mask = (tree_of b.value).mask; children = (tree_of b.value).children } =
      ap (λ k. merged_into (tree_of n).fragment k) (children-tree_of n) ∙ merged_children (tree_of n).fragment _ b e at in
      tree_of-roll _
      ∙ ap (λ (t : Tree (KeyValue K V)). record { fragment = f; pair = t.pair; mask = t.mask; children = t.children }) (sym (tree_of-out m) ∙ ap (λ n. tree_of n) em)
      ∙ ap (λ g. record { fragment = g; pair = (tree_of b.value).pair; mask = (tree_of b.value).mask; children = (tree_of b.value).children }) (ef ∙ ap (λ (t : Tree (KeyValue K V)). t.fragment) is)
      ∙ sym is

  -- the children of boxes without the one at i are the children without the one at i
  children_removed : (bs : List (Box (TrieNode K V) Global)) (i : ℕ) → children_of (remove bs i) ≡ remove_child i (children_of bs)
  children_removed [] zero = refl
  children_removed [] (suc i) = refl
  children_removed (b ∷ bs) zero = refl
  children_removed (b ∷ bs) (suc i) = ap (front (tree_of b.value)) (children_removed bs i)

  -- a box removed at i and its bit cleared in the mask: the tree lacks that child
  pub tree_of-unlinked : (n : TrieNode K V) (cs : Vec (Box (TrieNode K V) Global) Global) (m i y y' : ℕ) →
      let x = out-TrieNode K V n in
      let z = out-TrieNode K V (roll-TrieNode K V record { fragment = x.fragment; pair = x.pair; mask = x.mask; children = cs }) in
      cs.items ≡ remove x.children.items i → m ≡ cleared z.mask y → y ≡ y' →
      tree_of (roll-TrieNode K V record { fragment = z.fragment; pair = z.pair; mask = m; children = z.children }) ≡ without_child i y' (tree_of n)
  tree_of-unlinked n cs m i y y' gone is same_y =
      let x = out-TrieNode K V n in
      let z = roll-TrieNode K V record { fragment = x.fragment; pair = x.pair; mask = x.mask; children = cs } in
      let same : m ≡ cleared (tree_of n).mask y' = is ∙ ap (λ k. cleared k y) (ap (λ o. o.mask) (out-roll-TrieNode K V _) ∙ sym (mask-tree_of n)) ∙ ap (λ y. cleared (tree_of n).mask y) same_y in
      tree_of-written_mask z m
      ∙ ap (λ (t : Tree (KeyValue K V)). record { fragment = t.fragment; pair = t.pair; mask = m; children = t.children }) (tree_of-written_children n cs)
      ∙ ap (λ k. record { fragment = (tree_of n).fragment; pair = (tree_of n).pair; mask = k; children = children_of cs.items }) same
      ∙ ap (λ k. record { fragment = (tree_of n).fragment; pair = (tree_of n).pair; mask = cleared (tree_of n).mask y'; children = k })
      (ap children_of gone ∙ children_removed x.children.items i ∙ ap (remove_child i) (sym (children-tree_of n)))

  -- the pair is gone
  -- a node whose pair is set to none stands for its tree without the pair
  pub tree_of-unpaired : (n : TrieNode K V) (o : Option (Box (KeyValue K V) Global)) → o ≡ None →
      tree_of (roll-TrieNode K V (let x = out-TrieNode K V n in record { fragment = x.fragment; pair = o; mask = x.mask; children = x.children })) ≡ without_pair (tree_of n)
  tree_of-unpaired n o e = tree_of-written_pair n o ∙ ap (λ p. record { fragment = (tree_of n).fragment; pair = unboxed p; mask = (tree_of n).mask; children = (tree_of n).children }) e

  -- a node that had no pair, and is given none, stands for the same tree
  pub tree_of-unpaired_again : (n : TrieNode K V) (o : Option (Box (KeyValue K V) Global)) → o ≡ None → unboxed (out-TrieNode K V n).pair ≡ None →
      tree_of (roll-TrieNode K V (let x = out-TrieNode K V n in record { fragment = x.fragment; pair = o; mask = x.mask; children = x.children })) ≡ tree_of n
  tree_of-unpaired_again n o e bare =
      tree_of-unpaired n o e ∙ ap (λ p. record { fragment = (tree_of n).fragment; pair = p; mask = (tree_of n).mask; children = (tree_of n).children }) (sym (pair-tree_of n ∙ bare))

  module _ (n : TrieNode K V) (x : KeyValue K V) (leaf_has_pair : Some x ≡ unboxed (out-TrieNode K V n).pair) (h : IsTreePlaced (tree_of n)) where
    -- the tree has the pair that the node held
    is : (tree_of n).pair ≡ Some x
    is = pair-tree_of n ∙ sym leaf_has_pair

    -- a pair that goes from a node merged with its only child is cut there, and one node goes
    pub merged_cut : (t' : Tree (KeyValue K V)) → length (out-TrieNode K V n).children.items ≡ 1 → fragment_of n ≢ [] → t' ≡ merged (without_pair (tree_of n)) →
        Cuts (fragment_of n) x 1 0 (tree_of n) t'
    merged_cut t' e top et =
        subst (λ f. Cuts f x 1 0 (tree_of n) t') (fragment-tree_of n) (subst (λ t. Cuts (tree_of n).fragment x 1 0 (tree_of n) t) (sym et)
        (merged_as_child _ _ 0 0 0 0 (tree_of n) (without_pair (tree_of n)) (pair_goes (tree_of n) x is h) refl (has_one_child n e) (λ z. top (sym (fragment-tree_of n) ∙ z))))

    -- a pair that goes from a node with two children or more is cut there, and no node goes
    pub pair_cut : (t' : Tree (KeyValue K V)) → 1 < length (out-TrieNode K V n).children.items → t' ≡ without_pair (tree_of n) → Cuts (fragment_of n) x 0 0 (tree_of n) t'
    pair_cut t' e et =
        subst (λ f. Cuts f x 0 0 (tree_of n) t') (fragment-tree_of n) (subst (λ t. Cuts (tree_of n).fragment x 0 0 (tree_of n) t) (sym et)
        (root_as_child _ _ 0 0 0 0 (tree_of n) (without_pair (tree_of n)) (pair_goes (tree_of n) x is h) (λ f. (inr (has_many_children n e), f.1))))
