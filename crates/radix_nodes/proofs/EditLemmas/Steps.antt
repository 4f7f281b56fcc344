-- The child that a key meets, the step to it, and a node's own pair.
use Rattle.std.proofs.Common.{◌≡◌, ◌≢◌, ℕ, ◌+◌, ◌<◌, ◌≤◌, ◌^◌, List, ◌++◌, length, get_or, drop, slice_index, Option, Some, None, IsSome, false, true, refl, ap, sym, subst, ◌∙◌, arith, append-nil, Ok, drop-drop}
use Rattle.std.proofs.lemmas.List.{length-drop}
use Rattle.std.proofs.Math.Seq.{drop-length}
use Rattle.std.specs.declared.boxed.Box.{Box}
use Rattle.std.specs.declared.alloc.Global.{Global}
use Rattle.nibble_map.specs.Trees.{first}
use Rattle.radix_nodes.specs.declared.trie_node.KeyValue.{KeyValue}
use Rattle.radix_nodes.specs.declared.trie_node.TrieNode.{TrieNode, out-TrieNode}
use Rattle.masked_tree.specs.Mask.{IsPlaceOf, bit_of}
use Rattle.masked_tree.specs.Paths.{IsHeld, IsStuck}
use Rattle.masked_tree.specs.Agreement.{Agrees}
use Rattle.masked_tree.proofs.PathLemmas.Agreement.{agrees_some, append_drop-whole_fragment, agrees_not_prefix}
use Rattle.radix_nodes.specs.declared.search.compare.Agreement.{Agreement}
use Rattle.masked_tree.proofs.PathLemmas.Paths.{own_unheld, own_held, stuck_unheld, stuck_gap, stuck_at_child}
use Rattle.masked_tree.specs.Tree.{Tree, IsAt, firsts, IsTreePlaced}
use Rattle.radix_nodes.specs.Nodes.{unboxed, tree_of, fragment_of, IsMet, IsStep}
use Rattle.radix_nodes.proofs.NodeLemmas.Nodes.{pair-tree_of, fragment-tree_of}
use Rattle.masked_tree.proofs.TreeLemmas.Children.{child_at_is_unique, child_tree_is_placed}
use Rattle.radix_nodes.proofs.EditLemmas.KeyParts.{first-drop, drop_some}
use Rattle.radix_nodes.proofs.EditLemmas.Insertion.{box_is_child, first-fragment_at_place, place_is_within}

module _ {K V : Type 0} (n : TrieNode K V) (key : List ℕ) (depth i : ℕ) (h : IsTreePlaced (tree_of n)) where
  -- the node's boxes
  abbrev boxes : List (Box (TrieNode K V) Global)
  boxes = (out-TrieNode K V n).children.items

  -- the child at the place of the key's next nibble, compared with the rest of the key, is met
  pub child_is_met : (y : ℕ) (b : Box (TrieNode K V) Global) (a : Agreement) → y ≡ slice_index key depth → IsPlaceOf y (firsts (tree_of n).children) (Ok i) → get_or boxes i b ≡ b → depth + a.same < 2 ^ 64 →
      Agrees (fragment_of b.value) (drop depth key) a.same a.compared → IsMet n key depth i a
  child_is_met y b a ey at is small ag =
      let lt = place_is_within n i y h at in
      record {
        within = omega (arith, lt, (out-TrieNode K V n).children.ok.0);
        fits = small;
        start = λ u v. ap (λ (t : Tree (KeyValue K V)). first t.fragment) (only u v lt) ∙ ap first (fragment-tree_of b.value) ∙ first-fragment_at_place n i b h y lt is at ∙ ey;
        agrees = λ u v. subst (λ f. Agrees f (drop depth key) a.same a.compared) (sym (ap (λ (t : Tree (KeyValue K V)). t.fragment) (only u v lt) ∙ fragment-tree_of b.value)) ag;
      }
    where
      -- the child at i is the tree of the box at i
      only : (u : Tree (KeyValue K V)) → IsAt i (tree_of n).children u → i < length boxes → u ≡ tree_of b.value
      only u v lt = child_at_is_unique i (tree_of n).children (tree_of b.value) u (box_is_child n i b h lt is) v

  module _ (a : Agreement) (b : Box (TrieNode K V) Global) (m : IsMet n key depth i a) (lt : depth < length key) (is : get_or boxes i b ≡ b) where
    -- the tree of the box at i is the node's child at i
    met_child : IsAt i (tree_of n).children (tree_of b.value)
    met_child = box_is_child n i b h (omega (arith, m.within, (out-TrieNode K V n).children.ok.0)) is

    -- the child's fragment and the rest of the key agree as far as was compared
    agrees : Agrees (tree_of b.value).fragment (drop depth key) a.same a.compared
    agrees = m.agrees (tree_of b.value) met_child

    -- as much of the key as agrees with a met child's fragment is within the key
    pub met_fits : depth + a.same ≤ length key
    met_fits = let l = length-drop depth key in omega (arith, l, agrees.inside, lt)

    -- the whole fragment
    -- where a met child's whole fragment agrees, the key goes on to that child
    pub met_step : a.same ≡ length (fragment_of b.value) → IsStep n key depth i (depth + a.same)
    met_step e =
        let whole : a.same ≡ length (tree_of b.value).fragment = e ∙ ap length (sym (fragment-tree_of b.value)) in
        let start : first (tree_of b.value).fragment ≡ first (drop depth key) = m.start (tree_of b.value) met_child ∙ sym (first-drop key depth) in
        let some = agrees_some (tree_of b.value).fragment (drop depth key) a.same a.compared agrees (child_tree_is_placed 0 i (tree_of n).children (tree_of b.value) met_child h.1).0 (drop_some key depth lt) start in
        record {
          within = m.within;
          further = omega (arith, some);
          inside = met_fits;
          path = λ u v. ap (λ (t : Tree (KeyValue K V)). t.fragment ++ drop (depth + a.same) key) (child_at_is_unique i (tree_of n).children (tree_of b.value) u met_child v)
              ∙ ap (λ r. (tree_of b.value).fragment ++ r) (sym (drop-drop a.same depth key))
              ∙ append_drop-whole_fragment (tree_of b.value).fragment (drop depth key) a.same a.compared agrees whole;
        }

    -- where only a part of a met child's fragment agrees, the key can't go on below the node
    pub met_stuck : a.same ≢ length (fragment_of b.value) → IsStuck (tree_of n) (drop depth key)
    met_stuck e =
        stuck_at_child (tree_of n) (tree_of b.value) i (drop depth key) h met_child (first-drop key depth ∙ sym (m.start (tree_of b.value) met_child))
        (agrees_not_prefix (tree_of b.value).fragment (drop depth key) a.same a.compared agrees
        (let w = agrees.within in let f = ap length (fragment-tree_of b.value) in let s : a.same ≢ length (tree_of b.value).fragment = λ z. e (z ∙ f) in omega (arith, w, s)))

  -- where no child begins with the key's next nibble, the key can't go on below the node
  pub none_stuck : bit_of (slice_index key depth) (firsts (tree_of n).children) ≡ 0 → IsStuck (tree_of n) (drop depth key)
  none_stuck e = stuck_gap (tree_of n) (drop depth key) h (ap (λ y. bit_of y (firsts (tree_of n).children)) (first-drop key depth) ∙ e)

  -- nothing is held where a key can't go
  pub stuck_lacks : depth < length key → IsStuck (tree_of n) (drop depth key) → IsHeld (tree_of n) (fragment_of n ++ drop depth key) → ⊥
  stuck_lacks lt s d =
      stuck_unheld (tree_of n) (drop depth key) (drop_some key depth lt) s (subst (λ f. IsHeld (tree_of n) (f ++ drop depth key)) (sym (fragment-tree_of n)) d)

  -- the child that a key goes on to
  module _ (next : ℕ) (b : Box (TrieNode K V) Global) (s : IsStep n key depth i next) (is : get_or boxes i b ≡ b) where
    -- the child that a key goes on to is within the boxes
    step_within : i < length boxes
    step_within = omega (arith, s.within, (out-TrieNode K V n).children.ok.0)

    -- the tree of the box that a key goes on to is the node's child there
    pub step_is_child : IsAt i (tree_of n).children (tree_of b.value)
    step_is_child = box_is_child n i b h step_within is

    -- the child's fragment, joined with what the key has behind it, is what was left of the key
    append-step_rest : fragment_of b.value ++ drop next key ≡ drop depth key
    append-step_rest = ap (λ f. f ++ drop next key) (sym (fragment-tree_of b.value)) ∙ s.path (tree_of b.value) step_is_child

    -- where the key ends behind the child, the child's fragment is all that was left of the key
    pub fragment_of-step_to_end : next ≡ length key → fragment_of b.value ≡ drop depth key
    fragment_of-step_to_end e =
        sym (append-nil (fragment_of b.value)) ∙ ap (λ r. fragment_of b.value ++ r) (sym (ap (λ d. drop d key) e ∙ drop-length key)) ∙ append-step_rest

-- a node's own pair
module _ {K V : Type 0} (n : TrieNode K V) where
  -- a node without a pair has none at its own fragment
  pub free_here : IsTreePlaced (tree_of n) → unboxed (out-TrieNode K V n).pair ≡ None → IsHeld (tree_of n) (fragment_of n) → ⊥
  free_here h e d = own_unheld (tree_of n) h (pair-tree_of n ∙ e) (subst (λ p. IsHeld (tree_of n) p) (sym (fragment-tree_of n)) d)

  -- a node with a pair has one at its own fragment
  pub held_here : IsSome (unboxed (out-TrieNode K V n).pair) → IsHeld (tree_of n) (fragment_of n)
  held_here s = subst (λ p. IsHeld (tree_of n) p) (fragment-tree_of n) (go (tree_of n).pair refl (subst (λ o. IsSome o) (sym (pair-tree_of n)) s))
    where
      go : (o : Option (KeyValue K V)) → (tree_of n).pair ≡ o → IsSome o → IsHeld (tree_of n) (tree_of n).fragment
      go None e s = absurd (let i : false ≡ true = s in cc i)
      go (Some v) e s = own_held (tree_of n) v e
