use Rattle.std.proofs.Common.{refl, subst, ◌↔◌}
use Rattle.std.specs.Prelude.{IsTrue}
use Rattle.nibble_map.specs.MapQueries.{IsLeaf}
use Rattle.radix_trie.proofs.view.subtrie_mut.SubTrieMut.is_leaf.Goals as goal

pub returns : goal.returns
returns g c = record {
  leaf = subst (λ p. IsTrue c.is_leaf.result ↔ IsLeaf c.args.self.trie.now p) c.nibbles.ensures (c.is_leaf.ensures _ _ c.find.ensures);
  kept = refl;
}
