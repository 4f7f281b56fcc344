use Rattle.std.proofs.Common.{◌∙◌, sym}
use Rattle.radix_trie.proofs.PathLemmas.Behind.{len-map_behind_path}
use Rattle.radix_trie.proofs.view.descent.Descent.is_empty.Goals as goal

pub returns : goal.returns
returns g c =
    let at = c.self.invariant in
    let same = len-map_behind_path g.K.TrieKey.encoding at.0 at.1 c.self.inside.locus.found at.2.0 in
    let tells = c.is_empty.ensures at.0 at.1 at.2 in
    rw (← c.self.view_is) (λ t. same ∙ tells.0 t, λ none. tells.1 (sym same ∙ none))
