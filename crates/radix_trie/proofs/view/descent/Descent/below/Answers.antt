use Rattle.std.proofs.Common.{◌++◌, ◌∙◌, ap, append_assoc, sym}
use Rattle.std.specs.FinMap as map
use Rattle.radix_trie.proofs.PathLemmas.Behind.{get-map_behind_path}
use Rattle.radix_trie.proofs.view.descent.Descent.below.Goals as goal

pub invariant_of-result : goal.invariant_of-result
invariant_of-result g c =
    let at = c.self.invariant in
    (at.0, at.1 ++ c.args.list.now, c.below.ensures at.0 at.1 at.2)

pub returns : goal.returns
returns g c = λ q.
    let at = c.self.invariant in
    let list = c.args.list.now in
    rw (← c.self.view_is)
    (get-map_behind_path g.K.TrieKey.encoding at.0 (at.1 ++ list) c.below.result.found (c.below.ensures at.0 at.1 at.2).0 q
    ∙ ap (map.get at.0) (append_assoc at.1 list q)
    ∙ sym (get-map_behind_path g.K.TrieKey.encoding at.0 at.1 c.self.inside.locus.found at.2.0 (list ++ q)))
