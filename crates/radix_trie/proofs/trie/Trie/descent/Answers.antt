use Rattle.std.proofs.Common.{◌++◌, ◌∙◌, ap}
use Rattle.std.proofs.lemmas.Cmp.{nat_list_cmp_total}
use Rattle.std.specs.FinMap as map
use Rattle.nibble_map.proofs.ListLemmas.Sorted.{tied_lists_equal}
use Rattle.radix_trie.proofs.PathLemmas.Behind.{get-map_behind_path}
use Rattle.radix_trie.proofs.trie.Trie.descent.Goals as goal

pub returns : goal.returns
returns g c =
    let m = c.args.self.now in
    map.same_map nat_list_cmp_total tied_lists_equal _ m
    (λ q. get-map_behind_path g.K.TrieKey.encoding m c.top.result.now c.at.result.found c.at.ensures.0 q ∙ ap (λ p. map.get m (p ++ q)) c.top.ensures)
