-- The steps of a branch that is grafted in, at nodes.
use Rattle.std.proofs.Common.{◌≡◌, ◌≢◌, ℕ, ◌+◌, ◌<◌, ◌^◌, List, ◌++◌, length, take, drop, slice_index, get_or, Result, Ok, Err, refl, ap, sym, subst, ◌∙◌, arith}
use Rattle.masked_tree.specs.Mask.{IsMask, IsRisingFrom, IsPlaceOf}
use Rattle.masked_tree.specs.Paths.{IsOccupied, IsVacant}
use Rattle.masked_tree.specs.Agreement.{Agrees}
use Rattle.masked_tree.proofs.PathLemmas.Agreement.{agrees_some}
use Rattle.masked_tree.proofs.TreeLemmas.Children.{child_tree_is_placed}
use Rattle.masked_tree.specs.Tree.{Tree, IsTreePlaced}
use Rattle.masked_tree.specs.Edits.{with_fragment}
use Rattle.masked_tree.specs.Alters.{Grafts, GraftsChild}
use Rattle.masked_tree.proofs.EditLemmas.Insertion.{child_grafted, node_as_child}
use Rattle.std.specs.declared.boxed.Box.{Box}
use Rattle.std.specs.declared.alloc.Global.{Global}
use Rattle.std.specs.Vec.{with_item}
use Rattle.radix_nodes.specs.declared.trie_node.KeyValue.{KeyValue}
use Rattle.radix_nodes.specs.declared.trie_node.TrieNode.{TrieNode, out-TrieNode, roll-TrieNode}
use Rattle.radix_nodes.specs.declared.search.compare.Agreement.{Agreement}
use Rattle.radix_nodes.specs.declared.insertion.graft.Grafted.{Grafted}
use Rattle.radix_nodes.specs.declared.insertion.graft.Ungrafted.{Ungrafted}
use Rattle.radix_nodes.specs.declared.insertion.graft.Ungrafted.TheVariants as why
use Rattle.radix_nodes.specs.Nodes.{tree_of, fragment_of, IsMet}
use Rattle.radix_nodes.specs.Grafts.{told, GraftNodeOutcome, GraftChildOutcome, GraftOutcome}
use Rattle.radix_nodes.proofs.NodeLemmas.Nodes.{fragment-tree_of}
use Rattle.radix_nodes.proofs.SearchLemmas.Compared.{append-met_rest}
use Rattle.radix_nodes.proofs.SearchLemmas.Nearest.{nearest_here, nearest_inside, nearest_parted, none_through_child}
use Rattle.radix_nodes.proofs.EditLemmas.Branches.{path_up}
use Rattle.radix_nodes.proofs.EditLemmas.Removal.{tree_of-with_child, tree_of-same_child}
use Rattle.radix_nodes.proofs.EditLemmas.KeyParts.{first-drop, drop_some, append-agreed_part}
use Rattle.radix_nodes.proofs.EditLemmas.Insertion.{box_is_child, place_by_mask}
use Rattle.radix_nodes.proofs.EditLemmas.Steps.{child_is_met}

module _ {K V : Type 0} where
  -- a branch whose fragment is written, as a list and its own behind, has that list in front
  pub refitted_is_grafted : (b m r : TrieNode K V) (f rest : List ℕ) → m ≡ b → f ≡ rest ++ fragment_of m → tree_of r ≡ with_fragment f (tree_of b) →
      tree_of r ≡ with_fragment (rest ++ (tree_of b).fragment) (tree_of b)
  refitted_is_grafted b m r f rest em ef is = is ∙ ap (λ f. with_fragment f (tree_of b)) (ef ∙ ap (λ m. rest ++ fragment_of m) em ∙ ap (λ g. rest ++ g) (sym (fragment-tree_of b)))

  -- what a graft returns and does where no node stood at or below the place
  pub told_outcome : (r : Result Grafted (Box (TrieNode K V) Global)) (branch : Box (TrieNode K V) Global) (p : List ℕ) (old new : Tree (KeyValue K V)) →
      IsVacant old p → GraftNodeOutcome r branch p old new → GraftOutcome (told r) branch p old new
  told_outcome (Ok made) branch p old new free s = (free, s)
  told_outcome (Err back) branch p old new free s = (s.0, s.1, free)

  -- the child that the mask gives for the key's next nibble, compared with the key, is met
  pub met_by_place : (n : TrieNode K V) (key : List ℕ) (depth i y : ℕ) (h : IsTreePlaced (tree_of n)) (b : Box (TrieNode K V) Global) (m : TrieNode K V) (a : Agreement) → y ≡ slice_index key depth →
      ((xs : List ℕ) → IsMask (out-TrieNode K V n).mask xs → IsRisingFrom 0 xs → IsPlaceOf y xs (Ok i)) → get_or (out-TrieNode K V n).children.items i b ≡ b → m ≡ b.value →
      Agrees (fragment_of m) (drop depth key) a.same a.compared → depth + a.same < 2 ^ 64 → IsMet n key depth i a
  met_by_place n key depth i y h b m a ey at is em ag fits =
      child_is_met n key depth i h y b a ey (place_by_mask n y (Ok i) h at) is fits (subst (λ m. Agrees (fragment_of m) (drop depth key) a.same a.compared) em ag)

  -- where the key is at its end, the node itself stands at it
  pub occupied_here : (n : TrieNode K V) (key : List ℕ) (depth : ℕ) → depth ≡ length key → IsOccupied (tree_of n) (fragment_of n ++ drop depth key)
  occupied_here n key depth e =
      let near = nearest_here n key depth (length (fragment_of n)) e refl in
      let rest = drop (length (fragment_of n)) (tree_of n).fragment in
      ((fragment_of n ++ drop depth key) ++ rest, (tree_of n, near.node), (rest, refl))

  -- a branch that comes below the child that a key meets
  module _ (n : TrieNode K V) (key : List ℕ) (depth : ℕ) (h : IsTreePlaced (tree_of n)) (i : ℕ) (a : Agreement) (lt : depth < length key) (met : IsMet n key depth i a)
      (b : Box (TrieNode K V) Global) (is : get_or (out-TrieNode K V n).children.items i b ≡ b) where
    -- the key's path in the node
    abbrev path : List ℕ
    path = fragment_of n ++ drop depth key

    -- the child's place is within the boxes
    inside : i < length (out-TrieNode K V n).children.items
    inside = omega (arith, met.within, (out-TrieNode K V n).children.ok.0)

    -- a key that goes on to a child has a nibble or more in common with the child's fragment
    pub meets_some : 0 < a.same
    meets_some =
        let at = box_is_child n i b h inside is in
        agrees_some (tree_of b.value).fragment (drop depth key) a.same a.compared (met.agrees (tree_of b.value) at) (child_tree_is_placed 0 i (tree_of n).children (tree_of b.value) at h.1).0 (drop_some key depth lt)
        (met.start (tree_of b.value) at ∙ sym (first-drop key depth))

    -- where the key ends within the child's fragment, or at its end, the child stands below the key
    pub occupied_child : depth + a.same ≡ length key → IsOccupied (tree_of n) path
    occupied_child e =
        let near = nearest_inside n key depth h b.value i a lt met b is refl e in
        let rest = drop a.same (tree_of b.value).fragment in
        (path ++ rest, (tree_of b.value, near.node), (rest, refl))

    module _ (b' : Box (TrieNode K V) Global) where
      -- the node's tree with another box in the child's place
      abbrev new : Tree (KeyValue K V)
      new = tree_of (roll-TrieNode K V (let o = out-TrieNode K V n in record { fragment = o.fragment; pair = o.pair; mask = o.mask; children = with_item o.children i b' }))

      -- where the child's tree stays, the node's stays
      pub kept : tree_of b'.value ≡ tree_of b.value → new ≡ tree_of n
      kept same = tree_of-same_child n i b b' h inside is same

      -- a branch that comes to the child comes to the node
      come_up : (u : Tree (KeyValue K V)) (p : List ℕ) (k l : ℕ) → path ≡ fragment_of n ++ p → GraftsChild p u k l (tree_of b.value) (tree_of b'.value) → Grafts path u k l (tree_of n) new
      come_up u p k l ep d = rw (tree_of-with_child n i b', ep, ← fragment-tree_of n) (child_grafted (tree_of n) (tree_of b.value) (tree_of b'.value) u i p k l h (box_is_child n i b h inside is) d)

      -- what a split of the child returns and does is what a graft below the node does
      pub split_through_child : (r : Result Grafted (Box (TrieNode K V) Global)) (branch : Box (TrieNode K V) Global) → a.same ≢ length (fragment_of b.value) → depth + a.same ≢ length key →
          GraftChildOutcome r branch (take a.same (fragment_of b.value) ++ drop (depth + a.same) key) (tree_of b.value) (tree_of b'.value) → GraftOutcome (told r) branch path (tree_of n) new
      split_through_child (Ok made) branch part on s =
          let alike = (met.agrees (tree_of b.value) (box_is_child n i b h inside is)).alike in
          let same = subst (λ f. take a.same f ≡ take a.same (drop depth key)) (fragment-tree_of b.value) alike in (
            nearest_parted n key depth h b.value i a lt met b is refl part on,
            come_up (tree_of branch.value) _ _ _ (ap (λ p. fragment_of n ++ p) (sym (append-agreed_part (fragment_of b.value) key depth a.same same))) s,
          )
      split_through_child (Err back) branch part on s = (s.0, kept s.1, nearest_parted n key depth h b.value i a lt met b is refl part on)

      -- what a graft returns and does below the child is what it returns and does below the node
      pub graft_through_child : (r : Result Grafted (Ungrafted K V)) (branch : Box (TrieNode K V) Global) → a.same ≡ length (fragment_of b.value) →
          GraftOutcome r branch (fragment_of b.value ++ drop (depth + a.same) key) (tree_of b.value) (tree_of b'.value) → GraftOutcome r branch path (tree_of n) new
      graft_through_child (Ok made) branch e s = (
        none_through_child n key depth h b.value i a lt met b is refl e s.0,
        come_up (tree_of branch.value) _ _ _ (ap (λ p. fragment_of n ++ p) (sym (append-met_rest n key depth h b.value i a lt met b is refl e))) (node_as_child _ _ _ _ _ _ _ _ s.1),
      )
      graft_through_child (Err (why.Occupied back)) branch e s = (s.0, kept s.1, path_up n b.value key depth h i a lt met b is refl b' e s.2.0 s.2.1 s.2.2)
      graft_through_child (Err (why.Memory back)) branch e s = (s.0, kept s.1, none_through_child n key depth h b.value i a lt met b is refl e s.2)
