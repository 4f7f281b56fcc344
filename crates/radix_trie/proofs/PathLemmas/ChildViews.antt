-- The views at a node's children, and their paths.
use Rattle.std.proofs.Common.{◌≡◌, ◌≢◌, inl, inr, ℕ, zero, suc, ◌+◌, ◌≤◌, ◌<◌, List, [], ◌∷◌, ◌++◌, drop, get_or, length, refl, ap, sym, subst, ◌∙◌, append_assoc, append-nil, arith, Box, Global}
use Rattle.std.proofs.lemmas.List.{at_drop_more}
use Rattle.masked_tree.specs.Tree.{Tree, Children, none, more, IsAt, IsPlaced}
use Rattle.masked_tree.specs.Paths.{IsChildAt, IsNodeAt}
use Rattle.nibble_map.specs.Lists.{Each, Has, IsBefore, IsPrefix, IsRising}
use Rattle.nibble_map.specs.Maps.{PairMap}
use Rattle.nibble_map.specs.Nibbles.{IsShort}
use Rattle.nibble_map.specs.Trees.{first}
use Rattle.nibble_map.proofs.ListLemmas.Rising.{before_under}
use Rattle.masked_tree.proofs.PathLemmas.Paths.{below_from_child}
use Rattle.radix_nodes.specs.declared.trie_node.KeyValue.{KeyValue}
use Rattle.radix_nodes.specs.declared.trie_node.TrieNode.{TrieNode, out-TrieNode}
use Rattle.radix_nodes.specs.Nodes.{children_of, tree_of}
use Rattle.radix_nodes.proofs.NodeLemmas.Nodes.{box_is_at, children-tree_of}
use Rattle.radix_trie.specs.Loci.{child_views}
use Rattle.radix_trie.specs.Views.{ReadView, paths_of}

-- a list with a lower first nibble comes before
lower_before : (f g : List ℕ) → f ≢ [] → g ≢ [] → first f < first g → IsBefore f g
lower_before [] g n m lt = absurd (n refl)
lower_before (a ∷ f) [] n m lt = absurd (m refl)
lower_before (a ∷ f) (b ∷ g) n m lt = inl lt

module _ {P : Type 0} where
  -- the child at i stands below its parent at its own fragment
  pub direct_child : (i : ℕ) (k : Children P) (c : Tree P) → IsAt i k c → IsChildAt k c.fragment c
  direct_child i k c at = below_from_child i k c c.fragment c at (inl (refl, refl))

  -- a node below stands at or below a child
  pub child_child : (k : Children P) (x : List ℕ) (u : Tree P) → IsChildAt k x u → (i : ℕ) × (c : Tree P) × IsAt i k c × IsNodeAt c x u
  child_child none x u h = absurd h
  child_child (more f o m children others) x u (inl h) = (0, record { fragment = f; pair = o; mask = m; children = children }, refl, inl h)
  child_child (more f o m children others) x u (inr (inl h)) = (0, record { fragment = f; pair = o; mask = m; children = children }, refl, inr h)
  child_child (more f o m children others) x u (inr (inr h)) = let r = child_child others x u h in (suc r.0, r.1, r.2, r.3)

  -- the path of a tree's node has the tree's fragment as a prefix
  pub path_has_fragment : (c : Tree P) (x : List ℕ) (u : Tree P) → IsNodeAt c x u → IsPrefix c.fragment x
  path_has_fragment c x u (inl h) = ([], h.0 ∙ sym (append-nil c.fragment))
  path_has_fragment c x u (inr h) = (h.0, h.1)

module _ {K V : Type 0} (m : PairMap K V) (p : List ℕ) where
  -- a path with a lower nibble comes before those of the views at later children
  views_later : (low : ℕ) (k : Children (KeyValue K V)) (f : List ℕ) → IsPlaced (suc low) k → f ≢ [] → first f ≡ low → Each (IsBefore (p ++ f)) (paths_of (child_views m p k))
  views_later low none f h n e = tt
  views_later low (more g o k children others) f h n e =
      (before_under p f g (lower_before f g n h.0 (omega (arith, h.1, e))), views_later low others f (placed_less (suc low) (suc (first g)) others (omega (arith, h.1)) h.4) n e)
    where
      placed_less : (low high : ℕ) (k : Children (KeyValue K V)) → low ≤ high → IsPlaced high k → IsPlaced low k
      placed_less low high none le h = tt
      placed_less low high (more f o m children others) le h = (h.0, omega (arith, le, h.1), h.2, h.3, h.4)

  -- the paths of the views at a node's children rise
  pub views_rise : (low : ℕ) (k : Children (KeyValue K V)) → IsPlaced low k → IsRising (paths_of (child_views m p k))
  views_rise low none h = tt
  views_rise low (more f o k children others) h = (views_later (first f) others f h.4 h.0 refl, views_rise (suc (first f)) others h.4)

  -- the path of the child at i is among those of the views at the children
  pub child_views_have : (i : ℕ) (k : Children (KeyValue K V)) (c : Tree (KeyValue K V)) → IsAt i k c → Has (paths_of (child_views m p k)) (p ++ c.fragment)
  child_views_have i none c at = absurd at
  child_views_have zero (more f o k children others) c at = inl (ap (λ (t : Tree (KeyValue K V)). p ++ t.fragment) at)
  child_views_have (suc i) (more f o k children others) c at = inr (child_views_have i others c at)

  -- each path of the views at the children is that of some child
  pub has_view : (k : Children (KeyValue K V)) (q : List ℕ) → Has (paths_of (child_views m p k)) q → (i : ℕ) × (c : Tree (KeyValue K V)) × IsAt i k c × (q ≡ p ++ c.fragment)
  has_view none q h = absurd h
  has_view (more f o k children others) q (inl e) = (0, record { fragment = f; pair = o; mask = k; children = children }, refl, e)
  has_view (more f o k children others) q (inr h) = let r = has_view others q h in (suc r.0, r.1, r.2, r.3)

  -- each of the views at the children is one of the same map
  pub child_views_map : (k : Children (KeyValue K V)) → Each (λ (c : ReadView K V). c.map ≡ m) (child_views m p k)
  child_views_map none = tt
  child_views_map (more f o k children others) = (refl, child_views_map others)

  -- where the paths of the views at the children are short, so is that of the child at i
  pub child_view_is_short : (i : ℕ) (k : Children (KeyValue K V)) (c : Tree (KeyValue K V)) → IsAt i k c → Each IsShort (paths_of (child_views m p k)) → IsShort (p ++ c.fragment)
  child_view_is_short i none c at h = absurd at
  child_view_is_short zero (more f o k children others) c at h = subst (λ (t : Tree (KeyValue K V)). IsShort (p ++ t.fragment)) (sym at) h.0
  child_view_is_short (suc i) (more f o k children others) c at h = child_view_is_short i others c at h.1

-- a child of a node, by its box
module _ {K V : Type 0} (node : TrieNode K V) (i : ℕ) (b : Box (TrieNode K V) Global) where
  -- the box at i in a node's list of children holds the child at i
  pub child_at : (items : List (Box (TrieNode K V) Global)) → items ≡ (out-TrieNode K V node).children.items → i < length items → b ≡ get_or items i b → IsAt i (tree_of node).children (tree_of b.value)
  child_at items same lt is = subst (λ k. IsAt i k (tree_of b.value)) (ap children_of same ∙ sym (children-tree_of node)) (box_is_at items i b lt (sym is))

module _ {K V : Type 0} where
  -- with the view at the child i pushed, the views done and those to come are the same list
  pub views_pushed : (m : PairMap K V) (p : List ℕ) (items : List (Box (TrieNode K V) Global)) (i : ℕ) (b : Box (TrieNode K V) Global) (old new : List (ReadView K V)) (v : ReadView K V)
      → i < length items → b ≡ get_or items i b → v.map ≡ m → v.path ≡ p ++ (tree_of b.value).fragment → new ≡ old ++ v ∷ []
      → new ++ child_views m p (children_of (drop (i + 1) items)) ≡ old ++ child_views m p (children_of (drop i items))
  views_pushed m p items i b old new v lt is map path pushed =
      let rest = child_views m p (children_of (drop (i + 1) items)) in
      ap (λ x. x ++ rest) pushed ∙ append_assoc old (v ∷ []) rest
      ∙ ap (λ w. old ++ w ∷ rest) (λ n. record { map = map n; path = path n })
      ∙ ap (λ c. old ++ child_views m p (children_of (c ∷ drop (i + 1) items))) is
      ∙ ap (λ vs. old ++ vs) (sym (at_drop_more (λ bs. child_views m p (children_of bs)) items i b lt))
