use Rattle.std.proofs.Common.{◌∙◌, [], ap, append-nil, sym}
use Rattle.std.specs.FinMap as map
use Rattle.radix_trie.proofs.PathLemmas.Behind.{get-map_behind_path}
use Rattle.radix_trie.proofs.view.descent.Descent.get_key_value.Goals as goal

pub returns : goal.returns
returns g c =
    let at = c.self.invariant in
    rw (← c.self.view_is)
    (c.key_value_of.ensures ∙ c.pair.ensures at.0 at.1 at.2 ∙ ap (map.get at.0) (sym (append-nil at.1))
    ∙ sym (get-map_behind_path g.K.TrieKey.encoding at.0 at.1 c.self.inside.locus.found at.2.0 []))
