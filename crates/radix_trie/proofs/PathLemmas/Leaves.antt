-- A path with nothing below it.
use Rattle.std.proofs.Common.{◌≡◌, ◌≤◌, ℕ, ap, inl, inr, List, [], length, length-append, Option, None, Some, arith, refl, Bor}
use Rattle.std.proofs.lemmas.Bool.{cases_eq, cases_lt}
use Rattle.masked_tree.specs.Sizes.{levels}
use Rattle.masked_tree.specs.Tree.{Children, more, none}
use Rattle.nibble_map.specs.MapQueries.{IsLeaf}
use Rattle.nibble_map.specs.Maps.{PairMap}
use Rattle.radix_nodes.specs.Nodes.{fragment_of, tree_of}
use Rattle.radix_nodes.specs.Pairs.{own_pair, pairs_in_all}
use Rattle.radix_nodes.specs.declared.trie_node.KeyValue.{KeyValue}
use Rattle.radix_nodes.specs.declared.trie_node.TrieNode.{TrieNode}
use Rattle.radix_nodes.proofs.NodeLemmas.Pairs.{pairs_of-entries_at}
use Rattle.radix_trie.specs.Loci.{IsLocus}
use Rattle.radix_trie.specs.Views.{pairs_below}
use Rattle.radix_trie.proofs.PathLemmas.Loci.{child_found_no_leaf, first_child, found_placed, inside_no_leaf, nothing_found-pairs, pairs_in-found, whole_or_inside}

module _ {K V : Type 0} (enc : K → List ℕ) (m : PairMap K V) (p : List ℕ) (found : Option (Bor (TrieNode K V) × ℕ)) (locus : IsLocus enc m p found)
    (r : Bor (TrieNode K V)) (n : ℕ) (is : found ≡ Some (r, n)) where
  -- a leaf ends with the fragment of the node that was found
  leaf_is_whole : IsLeaf m p → n ≡ length (fragment_of r.now)
  leaf_is_whole leaf = elim (cases_eq n (length (fragment_of r.now))) [
    | inl whole ↦ whole
    | inr apart ↦ absurd (inside_no_leaf enc m p found locus r n is (whole_or_inside enc m p found locus r n is apart) leaf)
  ]

  -- and this has no node below
  pub leaf_has_no_levels : IsLeaf m p → levels (tree_of r.now).children ≡ 0
  leaf_has_no_levels leaf = elim (cases_lt 0 (levels (tree_of r.now).children)) [
    | inl some ↦ absurd (let k = first_child 0 (tree_of r.now).children (found_placed enc m p found locus r n is).1 some in child_found_no_leaf enc m p found locus r n is (leaf_is_whole leaf) k.0 k.1 k.2 k.3 leaf)
    | inr flat ↦ omega (arith, flat)
  ]

-- at a leaf there is at most one pair
pub leaf_is_small : {K V : Type 0} (enc : K → List ℕ) (m : PairMap K V) (p : List ℕ) (found : Option (Bor (TrieNode K V) × ℕ)) → IsLocus enc m p found → IsLeaf m p → length (pairs_below m p) ≤ 1
leaf_is_small enc m p None locus leaf = omega (arith, ap length (nothing_found-pairs enc m p None locus refl))
leaf_is_small {K} {V} enc m p (Some (r, n)) locus leaf =
    let t = tree_of r.now in
    omega (
      arith,
      ap length (pairs_in-found enc m p (Some (r, n)) locus r n refl),
      ap length (pairs_of-entries_at [] t),
      length-append (own_pair t.pair) (pairs_in_all t.children),
      one t.pair,
      bare t.children (leaf_has_no_levels enc m p (Some (r, n)) locus r n refl leaf),
    )
  where
    one : (o : Option (KeyValue K V)) → length (own_pair o) ≤ 1
    one None = omega arith
    one (Some x) = omega arith

    bare : (k : Children (KeyValue K V)) → levels k ≡ 0 → length (pairs_in_all k) ≡ 0
    bare none flat = refl
    bare (more f o m children others) flat = absurd (omega (arith, flat))
