use Rattle.std.proofs.Common.{◌∙◌, ◌↔◌, sym, subst}
use Rattle.std.specs.Prelude.{IsTrue}
use Rattle.nibble_map.specs.MapQueries.{IsSame}
use Rattle.nibble_map.proofs.MapLemmas.SameTests.{maps_tell}
use Rattle.masked_tree.proofs.SameLemmas.Tests.{same_tree-same_maps}
use Rattle.radix_nodes.specs.Pairs.{pair_of}
use Rattle.radix_trie.proofs.RootLemmas.Held.{entries-root}
use Rattle.radix_trie.proofs.RootLemmas.Roots.{root_is_full}
use Rattle.radix_trie.proofs.trie.equality.TriePartialEq.eq.Goals as goal

pub returns-clause-computed : goal.returns-clause-computed
returns-clause-computed g c =
    let enc = g.K.TrieKey.encoding in
    c.same.ensures ∙ same_tree-same_maps pair_of g.V.PartialEq.eq _ _ _ _ (root_is_full enc _ _ c.root.ensures) (root_is_full enc _ _ c.root-2.ensures)
    (entries-root enc _ _ c.root.ensures) (entries-root enc _ _ c.root-2.ensures)

pub returns-clause-same : goal.returns-clause-same
returns-clause-same g c =
    subst (λ b. IsTrue b ↔ IsSame g.V.PartialEq.eq c.args.self.now c.args.other.now) (sym (returns-clause-computed g c))
    (maps_tell g.V.PartialEq.eq c.args.self.now c.args.other.now)
