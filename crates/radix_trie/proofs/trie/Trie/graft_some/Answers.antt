use Rattle.std.proofs.Common.{◌∙◌, ap, arith, subst, sym}
use Rattle.std.specs.Result.{OnOk}
use Rattle.std.specs.FinMap as map
use Rattle.radix_nodes.specs.Nodes.{tree_of}
use Rattle.radix_trie.specs.Keys.{IsKeyed}
use Rattle.radix_trie.specs.Roots.{map_of}
use Rattle.radix_trie.proofs.RootLemmas.Shown.{len-map_of_kept}
use Rattle.radix_trie.proofs.trie.Trie.graft_some.Goals as goal

pub graft_root-requires-clause-some : goal.graft_root-requires-clause-some
graft_root-requires-clause-some g c =
    let l = sym (len-map_of_kept g.K.TrieKey.encoding (tree_of c.part.inside.root) _ _ _ c.part.invariant) ∙ ap map.len c.part.view_is in
    omega (arith, l, c.requires.some)

pub graft_root-requires-clause-room : goal.graft_root-requires-clause-room
graft_root-requires-clause-room g c =
    let l = sym (len-map_of_kept g.K.TrieKey.encoding (tree_of c.part.inside.root) _ _ _ c.part.invariant) ∙ ap map.len c.part.view_is in
    omega (arith, l, c.requires.room)

pub returns-in-Ok-clause-keyed : goal.returns-in-Ok-clause-keyed
returns-in-Ok-clause-keyed g c here there =
    let keyed = subst
    (λ r. OnOk r (IsKeyed g.K.TrieKey.encoding g.K.TrieKey.is_value c.args.self.now → IsKeyed g.K.TrieKey.encoding g.K.TrieKey.is_value (map_of (tree_of c.part.inside.root))
    → IsKeyed g.K.TrieKey.encoding g.K.TrieKey.is_value c.graft_root.new.self)) c.in-Ok.is c.graft_root.ensures.keyed in
    keyed here (subst (IsKeyed g.K.TrieKey.encoding g.K.TrieKey.is_value) (sym c.part.view_is) there)
