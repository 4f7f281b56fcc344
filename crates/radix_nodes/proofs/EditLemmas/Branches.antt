-- A branch that is cut, seen from the nodes above it.
use Rattle.std.proofs.Common.{◌≡◌, ◌≢◌, ℕ, zero, suc, ◌+◌, ◌<◌, ◌≤◌, List, [], ◌∷◌, ◌++◌, length, get_or, drop, Option, Some, None, Result, Ok, Err, refl, ap, sym, subst, ◌∙◌, arith, append_assoc}
use Rattle.std.specs.declared.boxed.Box.{Box}
use Rattle.std.specs.declared.alloc.Global.{Global}
use Rattle.std.specs.Vec.{with_item}
use Rattle.masked_tree.specs.Agreement.{Agrees}
use Rattle.masked_tree.specs.Tree.{Tree, IsAt, IsTreePlaced, IsTreeFull, nodes_in, nibbles_in}
use Rattle.masked_tree.specs.Edits.{IsOne, remove_child, without_child, merged}
use Rattle.masked_tree.specs.Paths.{IsPath}
use Rattle.nibble_map.specs.Lists.{IsPrefix}
use Rattle.nibble_map.specs.Trees.{first}
use Rattle.masked_tree.proofs.TreeLemmas.Sizes.{length-entries_at}
use Rattle.masked_tree.specs.Alters.{Prunes, PrunesRoot, AltersNode, all_of, none_of}
use Rattle.masked_tree.proofs.TreeLemmas.Children.{swaps-length}
use Rattle.masked_tree.proofs.EditLemmas.Removal.{child_goes, merged_as_child, root_as_child}
use Rattle.masked_tree.proofs.EditLemmas.Insertion.{child_pruned, node_as_child}
use Rattle.radix_keys.specs.declared.nibbles.Memory.{Memory}
use Rattle.radix_nodes.specs.declared.trie_node.KeyValue.{KeyValue}
use Rattle.radix_nodes.specs.declared.trie_node.TrieNode.{TrieNode, out-TrieNode, roll-TrieNode}
use Rattle.radix_nodes.specs.declared.search.compare.Agreement.{Agreement}
use Rattle.radix_nodes.specs.Nodes.{tree_of, fragment_of, IsMet}
use Rattle.radix_nodes.proofs.NodeLemmas.Nodes.{fragment-tree_of}
use Rattle.radix_nodes.proofs.EditLemmas.Insertion.{box_is_child}
use Rattle.radix_nodes.proofs.EditLemmas.Removal.{tree_of-with_child, tree_of-same_child}
use Rattle.masked_tree.proofs.PathLemmas.Agreement.{append_drop-whole_list}
use Rattle.masked_tree.proofs.PathLemmas.Paths.{node_from_child}
use Rattle.std.proofs.lemmas.List.{length-drop}
use Rattle.radix_nodes.proofs.SearchLemmas.Compared.{met_down, met_inside, append-met_rest}
use Rattle.radix_nodes.proofs.SearchLemmas.Nearest.{nearest_through_child, nearest_inside, none_through_child}
use Rattle.radix_nodes.specs.declared.removal.cut_child.Branch.{Branch}
use Rattle.radix_nodes.specs.Prunes.{IsSmall, IsBranch, BranchOutcome, BranchRootOutcome, branch_of, nodes_gone, nibbles_gone}

-- what stands at a place
-- for each place within a list there is an item that stands there, as `get_or` gives it
pub item_at : {A : Type 0} (xs : List A) (i : ℕ) → i < length xs → (b : A) × (get_or xs i b ≡ b)
item_at [] i l = absurd (omega (arith, l))
item_at (x ∷ xs) zero l = (x, refl)
item_at (x ∷ xs) (suc i) l = item_at xs i (omega (arith, l))

-- what a branch that was cut off holds can be counted too
pub branch_is_small : {P : Type 0} (old new u : Tree P) (s : List ℕ) (m l : ℕ) → IsSmall old → PrunesRoot s u m l old new → nodes_in u.children ≤ m → length u.fragment + nibbles_in u.children ≤ l → IsSmall u
branch_is_small old new u s m l small cut few short = record {
  pairs = let w = swaps-length _ _ _ _ (cut.alters.swaps []) in let a = length-entries_at s u in let b = length-entries_at [] u in omega (arith, w, a, b, small.pairs);
  nodes = omega (arith, cut.alters.nodes, few, small.nodes);
  nibbles = omega (arith, cut.alters.nibbles, short, small.nibbles);
}

module _ {K V : Type 0} where
  -- a child goes, from a node that stays full or is merged with the one that is left
  module _ (n leaf : TrieNode K V) (i : ℕ) (h : IsTreePlaced (tree_of n)) (at : IsAt i (tree_of n).children (tree_of leaf)) (low : first (tree_of leaf).fragment < 16) where
    -- the nibble that the child begins with
    abbrev y : ℕ
    y = first (tree_of leaf).fragment

    -- how many nodes are below the child
    abbrev gone : ℕ
    gone = nodes_in (tree_of leaf).children

    -- how many nibbles the child and the nodes below it have
    abbrev lost : ℕ
    lost = length (tree_of leaf).fragment + nibbles_in (tree_of leaf).children

    -- the child and the nodes below it, as a sum
    one_more : suc gone ≡ 1 + gone
    one_more = omega arith

    -- the child, the nodes below it and one node more, as a sum
    two_more : suc (suc gone) ≡ 2 + gone
    two_more = omega arith

    -- the child goes from the node with all below it, where the node is seen as a root
    branch_goes : PrunesRoot (tree_of n).fragment (tree_of leaf) (suc gone) lost (tree_of n) (without_child i y (tree_of n))
    branch_goes = child_goes (tree_of n) (tree_of leaf) i y at refl low h

    -- a root whose child at i is taken out has that branch pruned, with all its nodes
    pub branch_root : (t' : Tree (KeyValue K V)) → t' ≡ without_child i y (tree_of n) → PrunesRoot (tree_of n).fragment (tree_of leaf) (1 + gone) lost (tree_of n) t'
    branch_root t' et = rw (et, ← one_more) branch_goes

    -- a node that stays full without its child at i has that branch pruned, with all its nodes
    pub branch_cut : (t' : Tree (KeyValue K V)) → (IsTreeFull (tree_of n) → IsTreeFull (without_child i y (tree_of n))) → t' ≡ without_child i y (tree_of n) →
        Prunes (tree_of n).fragment (tree_of leaf) (1 + gone) lost (tree_of n) t'
    branch_cut t' full et = rw (et, ← one_more) (root_as_child (all_of (tree_of n).fragment (tree_of leaf)) none_of 0 _ 0 _ (tree_of n) (without_child i y (tree_of n)) branch_goes full)

    -- a node merged with the child that is left has the branch pruned, and one node more goes
    pub branch_merged : (t' : Tree (KeyValue K V)) → (tree_of n).pair ≡ None → IsOne (remove_child i (tree_of n).children) → fragment_of n ≢ [] → t' ≡ merged (without_child i y (tree_of n)) →
        Prunes (tree_of n).fragment (tree_of leaf) (2 + gone) lost (tree_of n) t'
    branch_merged t' bare one top et =
        rw (et, ← two_more) (merged_as_child (all_of (tree_of n).fragment (tree_of leaf)) none_of 0 _ 0 _ (tree_of n) (without_child i y (tree_of n)) branch_goes bare one (λ z. top (sym (fragment-tree_of n) ∙ z)))

  -- what is known of a branch below a child
  module _ (n m : TrieNode K V) (key : List ℕ) (depth : ℕ) (h : IsTreePlaced (tree_of n)) (i : ℕ) (a : Agreement) (lt : depth < length key) (met : IsMet n key depth i a)
      (b : Box (TrieNode K V) Global) (is : get_or (out-TrieNode K V n).children.items i b ≡ b) (em : m ≡ b.value) where
    -- the key's path in the node
    abbrev goal_path : List ℕ
    goal_path = fragment_of n ++ drop depth key

    -- m is the node's child at i
    at_m : IsAt i (tree_of n).children (tree_of m)
    at_m = subst (λ k. IsAt i (tree_of n).children (tree_of k)) (sym em) (box_is_child n i b h (omega (arith, met.within, (out-TrieNode K V n).children.ok.0)) is)

    -- the child's fragment and the rest of the key agree as far as was compared
    child_agrees : Agrees (tree_of m).fragment (drop depth key) a.same a.compared
    child_agrees = met.agrees (tree_of m) at_m

    -- the child itself
    -- where the key ends within a child's fragment, the branch at the key is that child
    pub branch_child : depth + a.same ≡ length key → IsBranch (tree_of n) (tree_of m) goal_path (tree_of n).fragment
    branch_child e =
        let f = (tree_of m).fragment in
        let rest = drop depth key in
        let l = length-drop depth key in
        let x : rest ++ drop a.same f ≡ f = append_drop-whole_list f rest a.same a.compared child_agrees (omega (arith, l, e, lt)) in
        record {
          covered = a.same;
          nearest = nearest_inside n key depth h m i a lt met b is em e;
          path = ap (λ g. g ++ f) (fragment-tree_of n) ∙ sym (append_assoc (fragment_of n) rest (drop a.same f) ∙ ap (λ z. fragment_of n ++ z) x);
        }

    -- the child that the key goes on to, while it goes on
    -- a key that doesn't end with a child's whole fragment is further on behind it, with more to go
    pub key_goes_on : a.same ≡ length (fragment_of m) → depth + a.same ≢ length key → (depth < depth + a.same) × (depth + a.same < length key)
    key_goes_on e part =
        let further = (met_down n key depth h m i a lt met b is em e).further in
        let within = met_inside n key depth h m i a lt met b is em in
        (further, omega (arith, within, part))

    -- one below it
    -- a branch of the child at the rest of the key is a branch of the node at the key
    pub branch_below : a.same ≡ length (fragment_of m) → (u : Tree (KeyValue K V)) (s : List ℕ) → IsBranch (tree_of m) u (fragment_of m ++ drop (depth + a.same) key) s
        → IsBranch (tree_of n) u goal_path (fragment_of n ++ s)
    branch_below e u s d =
        let f = fragment_of n in
        let left = drop d.covered u.fragment in
        record {
          covered = d.covered;
          nearest = nearest_through_child n key depth h m i a lt met b is em e u d.covered d.nearest;
          path = append_assoc f s u.fragment ∙ ap (λ z. f ++ z) (d.path ∙ ap (λ r. r ++ left) (append-met_rest n key depth h m i a lt met b is em e)) ∙ sym (append_assoc f (drop depth key) left);
        }

    -- what a cut below the child does to the node
    module _ (b' : Box (TrieNode K V) Global) (e : a.same ≡ length (fragment_of m)) where
      -- the node's tree with another box in the child's place
      abbrev new : Tree (KeyValue K V)
      new = tree_of (roll-TrieNode K V (let o = out-TrieNode K V n in record { fragment = o.fragment; pair = o.pair; mask = o.mask; children = with_item o.children i b' }))

      -- the child's place is within the boxes
      inside : i < length (out-TrieNode K V n).children.items
      inside = omega (arith, met.within, (out-TrieNode K V n).children.ok.0)

      -- a branch that goes from the child goes from the node, with the same nodes and nibbles
      cut_up : (u : Tree (KeyValue K V)) (s : List ℕ) (k l : ℕ) → Prunes s u k l (tree_of m) (tree_of b'.value) → AltersNode (all_of (fragment_of n ++ s) u) none_of 0 k 0 l (tree_of n) new
      cut_up u s k l d = rw (tree_of-with_child n i b', ← fragment-tree_of n) (child_pruned (tree_of n) (tree_of m) (tree_of b'.value) u i s k l h at_m d)

      -- where the child's tree stays, the node's stays
      kept_up : tree_of b'.value ≡ tree_of m → new ≡ tree_of n
      kept_up same = tree_of-same_child n i b b' h inside is (same ∙ ap tree_of em)

      -- a path of the child that the key's rest begins gives one of the node that the key begins
      pub path_up : (q : List ℕ) → IsPath (tree_of m) q → IsPrefix (fragment_of m ++ drop (depth + a.same) key) q → (x : List ℕ) × IsPath (tree_of n) x × IsPrefix goal_path x
      path_up q p i2 =
          let f = fragment_of n in (
            (tree_of n).fragment ++ q,
            (p.0, node_from_child (tree_of n) (tree_of m) i h at_m q p.0 p.1),
            (i2.0, ap (λ g. g ++ q) (fragment-tree_of n) ∙ ap (λ z. f ++ z) (i2.1 ∙ ap (λ r. r ++ i2.0) (append-met_rest n key depth h m i a lt met b is em e)) ∙ sym (append_assoc f (drop depth key) i2.0)),
          )

      -- what a cut returns and does in the child is what it returns and does in the node
      pub cut_through_child : (r : Result (Option (Branch K V)) Memory) → BranchOutcome r (fragment_of m ++ drop (depth + a.same) key) (tree_of m) (tree_of b'.value) → BranchOutcome r goal_path (tree_of n) new
      cut_through_child (Ok (Some c)) s =
          let t = cut_up (branch_of c) s.0 (nodes_gone c) (nibbles_gone c) s.2 in
          (fragment_of n ++ s.0, branch_below e (branch_of c) s.0 s.1, node_as_child _ _ _ _ _ _ _ _ t, s.3)
      cut_through_child (Ok None) s = (kept_up s.0, none_through_child n key depth h m i a lt met b is em e s.1)
      cut_through_child (Err x) s = let p = path_up s.1 s.2 s.3 in (kept_up s.0, p.0, p.1, p.2)

      -- what a cut returns and does in a root's child is what it returns and does in the root
      pub root_cut_through_child : (r : Result (Option (Branch K V)) Memory) → BranchOutcome r (fragment_of m ++ drop (depth + a.same) key) (tree_of m) (tree_of b'.value) → BranchRootOutcome r goal_path (tree_of n) new
      root_cut_through_child (Ok (Some c)) s =
          let t = cut_up (branch_of c) s.0 (nodes_gone c) (nibbles_gone c) s.2 in
          (fragment_of n ++ s.0, branch_below e (branch_of c) s.0 s.1, t.root, s.3)
      root_cut_through_child (Ok None) s = (kept_up s.0, none_through_child n key depth h m i a lt met b is em e s.1)
      root_cut_through_child (Err x) s = let p = path_up s.1 s.2 s.3 in (kept_up s.0, p.0, p.1, p.2)
