use Rattle.std.proofs.Common.{◌≡◌, sym, ◌∙◌, eqb-true, eq-eqb}
use Rattle.std.specs.FinMap as map
use Rattle.radix_trie.proofs.RootLemmas.Shown.{len-map_of_kept}
use Rattle.radix_trie.proofs.trie.Trie.is_empty.Goals as goal

pub returns : goal.returns
returns g c =
    let same : c.self.inside.length ≡ map.len c.args.self.now = rw (← c.self.view_is) (sym (len-map_of_kept g.K.TrieKey.encoding _ _ _ _ c.self.invariant)) in
    (λ t. sym same ∙ eqb-true _ 0 t, λ z. eq-eqb _ 0 (same ∙ z))
