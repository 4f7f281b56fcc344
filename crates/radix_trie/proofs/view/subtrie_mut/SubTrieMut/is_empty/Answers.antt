use Rattle.std.proofs.Common.{◌≡◌, ◌↔◌, subst}
use Rattle.std.specs.FinMap as map
use Rattle.std.specs.Prelude.{IsTrue}
use Rattle.nibble_map.specs.Maps.{below}
use Rattle.radix_trie.proofs.view.subtrie_mut.SubTrieMut.is_empty.Goals as goal

pub returns-clause-empty : goal.returns-clause-empty
returns-clause-empty g c =
    subst (λ p. IsTrue c.is_empty.result ↔ (map.len (below c.args.self.trie.now p) ≡ 0)) c.nibbles.ensures (c.is_empty.ensures _ _ c.find.ensures)
