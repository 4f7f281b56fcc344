-- What the checker of nodes finds at a trie's root.
use Rattle.std.proofs.Common.{◌≡◌, ℕ, List, [], ◌∷◌, length, map, ap, sym, subst, ◌∙◌, inl}
use Rattle.std.proofs.lemmas.List.{length-map}
use Rattle.std.specs.FinMap as fin
use Rattle.masked_tree.specs.Tree.{Tree, plain, entries_at}
use Rattle.nibble_map.specs.Lists.{Each}
use Rattle.nibble_map.specs.Maps.{PairMap}
use Rattle.nibble_map.proofs.TreeLemmas.Canonical.{local_canonical}
use Rattle.masked_tree.proofs.TreeLemmas.Points as kept
use Rattle.nibble_map.proofs.TreeLemmas.OneTree.{shaped_parts}
use Rattle.radix_nodes.specs.declared.trie_node.KeyValue.{KeyValue}
use Rattle.radix_nodes.specs.Soundness.{IsSoundAt}
use Rattle.radix_trie.specs.Roots.{AllKeyed, IsRoot}
use Rattle.radix_trie.proofs.RootLemmas.Held.{entries-root}
use Rattle.radix_trie.proofs.RootLemmas.Roots.{root_is_full_below}
use Rattle.radix_trie.proofs.RootLemmas.Shown.{row_of}

module _ {K V : Type 0} (enc : K → List ℕ) (m : PairMap K V) (t : Tree (KeyValue K V)) (root : IsRoot enc m t) where
  -- where the rows are keyed, each kept pair stands at its key's encoding
  each_keyed : (es : List (List ℕ × KeyValue K V)) → AllKeyed enc (map row_of es) → Each (λ e. enc e.1.key ≡ e.0) es
  each_keyed [] h = tt
  each_keyed (e ∷ es) h = (sym h.0, each_keyed es h.2)

  -- a kept root is canonical at the empty path, as the checker of nodes asks
  pub root_canonical_at : IsSoundAt enc [] t
  root_canonical_at =
      let parts = shaped_parts 0 (plain t.children) (kept.placed_and_full_is_shaped 0 t.children root.masked.1 (root_is_full_below enc m t root)) in
      record {
        keyed = each_keyed (entries_at [] t) (subst (AllKeyed enc) (entries-root enc m t root) root.keyed);
        placed = root.masked;
        points = local_canonical [] t.fragment t.pair (plain t.children) (parts.0, parts.1, inl root.top);
      }

  -- a kept root has as many entries as its map has pairs
  pub length-root_entries : length (entries_at [] t) ≡ fin.len m
  length-root_entries = sym (length-map (entries_at [] t) row_of) ∙ ap length (sym (entries-root enc m t root)) ∙ sym (fin.len-entries m)
