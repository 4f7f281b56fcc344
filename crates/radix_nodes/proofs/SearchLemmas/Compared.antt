-- How many nibbles a search compares, and how a key goes on past the child that it meets.
use Rattle.std.proofs.Common.{◌≡◌, ◌≢◌, ℕ, ◌+◌, ◌<◌, ◌≤◌, List, ◌++◌, length, get_or, drop, slice_index, ap, sym, subst, ◌∙◌, arith, inl, inr, drop-drop}
use Rattle.std.proofs.Math.Seq.{drop-length}
use Rattle.std.proofs.lemmas.Bool.{cases_eq}
use Rattle.std.specs.declared.boxed.Box.{Box}
use Rattle.std.specs.declared.alloc.Global.{Global}
use Rattle.masked_tree.specs.Agreement.{Agrees}
use Rattle.masked_tree.specs.Mask.{bit_of}
use Rattle.nibble_map.specs.Trees.{along, walked}
use Rattle.masked_tree.specs.Tree.{IsAt, IsTreePlaced, firsts, plain}
use Rattle.masked_tree.specs.Paths.{IsStuck}
use Rattle.masked_tree.proofs.PathLemmas.Search.{walked-nil, walked-gap, walked-child}
use Rattle.masked_tree.proofs.PathLemmas.Agreement.{along-whole_fragment, along-part_fragment}
use Rattle.radix_nodes.specs.declared.trie_node.TrieNode.{TrieNode, out-TrieNode}
use Rattle.radix_nodes.specs.Nodes.{tree_of, fragment_of, IsMet, IsStep}
use Rattle.radix_nodes.specs.declared.search.compare.Agreement.{Agreement}
use Rattle.radix_nodes.proofs.NodeLemmas.Nodes.{fragment-tree_of}
use Rattle.radix_nodes.proofs.EditLemmas.KeyParts.{drop_some, first-drop}
use Rattle.radix_nodes.proofs.EditLemmas.Insertion.{box_is_child}
use Rattle.radix_nodes.proofs.EditLemmas.Steps.{met_step, met_stuck, met_fits}
use Rattle.radix_nodes.proofs.SearchLemmas.Deepest.{append-child_rest}

-- how many nibbles a search compares
module _ {K V : Type 0} (n : TrieNode K V) (key : List ℕ) (depth : ℕ) (h : IsTreePlaced (tree_of n)) where
  -- a key that is at its end is compared with nothing below the node
  pub count_end : depth ≡ length key → 0 ≡ walked (plain (tree_of n).children) (drop depth key)
  count_end e = sym (ap (λ d. walked (plain (tree_of n).children) (drop d key)) e ∙ ap (λ r. walked (plain (tree_of n).children) r) (drop-length key) ∙ walked-nil (tree_of n).children)

  -- a key whose next nibble begins no child is compared with nothing below the node
  pub count_none : bit_of (slice_index key depth) (firsts (tree_of n).children) ≡ 0 → 0 ≡ walked (plain (tree_of n).children) (drop depth key)
  count_none e = sym (walked-gap (tree_of n) (drop depth key) h (ap (λ y. bit_of y (firsts (tree_of n).children)) (first-drop key depth) ∙ e))

  module _ (m : TrieNode K V) (i : ℕ) (a : Agreement) (lt : depth < length key) (met : IsMet n key depth i a) (b : Box (TrieNode K V) Global)
      (is : get_or (out-TrieNode K V n).children.items i b ≡ b) (em : m ≡ b.value) where
    -- m is the node's child at i
    pub met_child : IsAt i (tree_of n).children (tree_of m)
    met_child = subst (λ k. IsAt i (tree_of n).children (tree_of k)) (sym em) (box_is_child n i b h (omega (arith, met.within, (out-TrieNode K V n).children.ok.0)) is)

    -- the child's fragment and the rest of the key agree as far as was compared
    agrees : Agrees (tree_of m).fragment (drop depth key) a.same a.compared
    agrees = met.agrees (tree_of m) met_child

    -- a search below the node compares along the child's fragment, and then below the child
    walked-met_child : walked (plain (tree_of n).children) (drop depth key) ≡ along (tree_of m).fragment (drop depth key) (λ rest. walked (plain (tree_of m).children) rest)
    walked-met_child = walked-child (tree_of n) (tree_of m) i (drop depth key) h met_child (drop_some key depth lt) (first-drop key depth ∙ sym (met.start (tree_of m) met_child))

    -- past a whole fragment, what was compared along it and what is compared below are all
    pub count_step : a.same ≡ length (fragment_of m) → a.compared + walked (plain (tree_of m).children) (drop (depth + a.same) key) ≡ walked (plain (tree_of n).children) (drop depth key)
    count_step e =
        ap (λ r. a.compared + walked (plain (tree_of m).children) r) (sym (drop-drop a.same depth key))
        ∙ sym (along-whole_fragment (tree_of m).fragment (drop depth key) a.same a.compared (λ rest. walked (plain (tree_of m).children) rest) agrees (e ∙ ap length (sym (fragment-tree_of m))))
        ∙ sym walked-met_child

    -- where only a part of a fragment agrees, what was compared along it is all
    pub count_stop : a.same ≢ length (fragment_of m) → a.compared ≡ walked (plain (tree_of n).children) (drop depth key)
    count_stop e =
        let w = agrees.within in let f = ap length (fragment-tree_of m) in
        let s : a.same ≢ length (tree_of m).fragment = λ z. e (z ∙ f) in
        sym (along-part_fragment (tree_of m).fragment (drop depth key) a.same a.compared (λ rest. walked (plain (tree_of m).children) rest) agrees (omega (arith, w, s))) ∙ sym walked-met_child

    -- what was compared along a child's fragment is a part of all, whether the fragment agrees or not
    pub count_most : a.compared ≤ walked (plain (tree_of n).children) (drop depth key)
    count_most = elim (cases_eq a.same (length (fragment_of m))) [
      | inl e ↦ (let all = count_step e in omega (arith, all))
      | inr e ↦ (let all = count_stop e in omega (arith, all))
    ]

    -- where a met child's whole fragment agrees, the key goes on to that child
    pub met_down : a.same ≡ length (fragment_of m) → IsStep n key depth i (depth + a.same)
    met_down e = met_step n key depth i h a b met lt is (e ∙ ap (λ k. length (fragment_of k)) em)

    -- a met child's whole fragment that agrees, joined with the key's rest, is what was left
    pub append-met_rest : a.same ≡ length (fragment_of m) → fragment_of m ++ drop (depth + a.same) key ≡ drop depth key
    append-met_rest e = append-child_rest n m key depth i (depth + a.same) h (met_down e) b is em

    -- where only a part of a met child's fragment agrees, the key can't go on below the node
    pub met_off : a.same ≢ length (fragment_of m) → IsStuck (tree_of n) (drop depth key)
    met_off e = met_stuck n key depth i h a b met lt is (λ z. e (z ∙ ap (λ k. length (fragment_of k)) (sym em)))

    -- as much of the key as agrees with a met child's fragment is within the key
    pub met_inside : depth + a.same ≤ length key
    met_inside = met_fits n key depth i h a b met lt is
