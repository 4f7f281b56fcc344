-- The plain data of a kept tree and the tree of fragments.
use Rattle.nibble_map.specs.Answers.{IsCompared}
use Rattle.nibble_map.specs.Stored.{IsStored}
use Rattle.std.proofs.Common.{◌≡◌, ℕ, suc, List, [], ◌∷◌, ◌++◌, Option, Some, None, ap, sym, subst, ◌∙◌, refl}
use Rattle.std.proofs.lemmas.List.Elements.{filter_map-append}
use Rattle.nibble_map.specs.Swaps.{entry}
use Rattle.nibble_map.specs.Trees as trees
use Rattle.nibble_map.specs.Trees.{IsShaped, first, nodes_below, walked}
use Rattle.masked_tree.specs.Tree.{Tree, Children, none, more, plain, IsPlaced, IsTreePlaced, IsFullBelow, entries_in, entries_at}
use Rattle.nibble_map.proofs.TreeLemmas.Walked.{tree_compared}

module _ {P : Type 0} where
  -- placed and full is shaped
  pub placed_and_full_is_shaped : (low : ℕ) (k : Children P) → IsPlaced low k → trees.IsFull (plain k) → IsShaped low (plain k)
  placed_and_full_is_shaped low none h f = tt
  placed_and_full_is_shaped low (more f o m children others) h g = (h.0, h.1, g.0, placed_and_full_is_shaped 0 children h.3 g.1, placed_and_full_is_shaped (suc (first f)) others h.4 g.2)

  -- the children's entries are those of the nodes that they make without masks
  entries-nodes_below : (q : List ℕ) (k : Children P) → trees.entries (nodes_below q (plain k)) ≡ entries_in q k
  entries-nodes_below q none = refl
  entries-nodes_below q (more f None m children others) =
      filter_map-append _ (nodes_below (q ++ f) (plain children)) (nodes_below q (plain others))
      ∙ (λ i. entries-nodes_below (q ++ f) children i ++ entries-nodes_below q others i)
  entries-nodes_below q (more f (Some x) m children others) =
      ap (λ es. (q ++ f, x) ∷ es) (filter_map-append _ (nodes_below (q ++ f) (plain children)) (nodes_below q (plain others))
      ∙ (λ i. entries-nodes_below (q ++ f) children i ++ entries-nodes_below q others i))

  -- the plain tree of a root: its pair, and its children without masks
  abbrev points_tree : Tree P → trees.FragmentTree P
  points_tree t = record { top = t.pair; children = plain t.children }

  -- a root's entries are those of the nodes of its plain tree
  entries-points_tree : (t : Tree P) → t.fragment ≡ [] → trees.entries (trees.nodes (points_tree t)) ≡ entries_at [] t
  entries-points_tree t e = go t.pair ∙ ap (λ f. entry f t.pair ++ entries_in f t.children) (sym e)
    where
      go : (o : Option P) → trees.entries (trees.nodes (record { top = o; children = plain t.children })) ≡ entry [] o ++ entries_in [] t.children
      go None = entries-nodes_below [] t.children
      go (Some x) = ap (λ es. ([], x) ∷ es) (entries-nodes_below [] t.children)

  -- what a search compares
  -- a search in a full root compares as many nibbles as the query over its entries says
  pub walked_is_compared : (t : Tree P) → t.fragment ≡ [] → IsTreePlaced t → IsFullBelow t → (e : List ℕ) → IsCompared (IsStored (entries_at [] t)) e (walked (plain t.children) e)
  walked_is_compared t top h f e = subst (λ es. IsCompared (IsStored es) e (walked (plain t.children) e)) (entries-points_tree t top) (tree_compared (points_tree t) (placed_and_full_is_shaped 0 t.children h.1 f) e)
