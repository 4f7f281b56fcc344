-- What a removal from the root does, once it has removed a pair.
use Rattle.std.proofs.Common.{◌≡◌, ℕ, suc, ◌-◌, ◌≤◌, List, length, Some, None, ap, arith}
use Rattle.std.specs.FinMap as fin
use Rattle.masked_tree.specs.Alters.{CutsRoot}
use Rattle.masked_tree.specs.Tree.{Tree}
use Rattle.masked_tree.proofs.TreeLemmas.Children.{swaps-length}
use Rattle.radix_nodes.specs.declared.trie_node.KeyValue.{KeyValue}
use Rattle.radix_nodes.specs.Pairs.{pair_of}
use Rattle.radix_trie.specs.Roots.{entries_of, map_of, IsKept}
use Rattle.radix_trie.proofs.ChangeLemmas.Changes.{entry_change, kept_after, map_of-cut, get-before_cut}

-- what a removal from the root does, once it has removed a pair
module _ {K V : Type 0} (enc : K → List ℕ) (old new : Tree (KeyValue K V)) (count nodes nibbles : ℕ) (q : List ℕ) (x : KeyValue K V) (m l : ℕ)
    (kept : IsKept enc old count nodes nibbles) (cut : CutsRoot q x m l old new) where
  -- the pair that was removed is the old map's at the list
  pub get-removed : fin.get (map_of old) q ≡ Some (pair_of x)
  get-removed = get-before_cut enc old new count nodes nibbles q x m l kept cut

  -- after the removal the map is the old one with the list removed
  pub map_of-removed : map_of new ≡ fin.remove (map_of old) q
  map_of-removed = map_of-cut enc old new count nodes nibbles q x m l kept cut

  -- the removal left one pair less
  one_pair_less : suc (length (entries_of new)) ≡ count
  one_pair_less =
      let s = swaps-length _ _ _ _ (entry_change enc old new count nodes nibbles q (Some x) None 0 m 0 l kept cut) in
      omega (arith, s, kept.counted)

  -- before the removal there was a pair
  pub removed_some : 1 ≤ count
  removed_some = omega (arith, one_pair_less)

  -- no more nodes were removed than there were
  removed_nodes : m ≤ nodes
  removed_nodes = omega (arith, cut.alters.nodes, kept.noded)

  -- no more nibbles were removed than there were
  removed_nibbles : l ≤ nibbles
  removed_nibbles = let s = ap length cut.fragment in omega (arith, s, cut.alters.nibbles, kept.nibbled)

  -- after the removal the root is kept, with one pair less and without the nodes and nibbles that went
  pub removed_kept : IsKept enc new (count - 1) (nodes - m) (nibbles - l)
  removed_kept =
      kept_after enc old new count nodes nibbles q (Some x) None 0 m 0 l kept cut (count - 1) tt (omega (arith, one_pair_less))
      (nodes - m) (nibbles - l) (omega (arith, removed_nodes)) (omega (arith, removed_nibbles))
