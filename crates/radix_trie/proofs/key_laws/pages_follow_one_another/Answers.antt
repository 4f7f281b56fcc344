use Rattle.std.proofs.Common.{◌≡◌, ◌+◌, ◌∙◌, suc, ◌++◌, ap, arith, take}
use Rattle.std.specs.FinMap as map
use Rattle.nibble_map.specs.Maps.{below, walk}
use Rattle.radix_trie.specs.Views.{pairs_after, pairs_below}
use Rattle.radix_trie.proofs.LawLemmas.Pages.{next_page}
use Rattle.radix_trie.proofs.WalkLemmas.Keyed.{keyed_entries}
use Rattle.radix_trie.proofs.key_laws.pages_follow_one_another.Goals as goal

pub returns : goal.returns
returns g c =
    let enc = g.K.TrieKey.encoding in
    let m = c.args.trie.now in
    λ e n p at. (let one_more : n + 1 ≡ suc n = omega arith in
    ap (λ k. take k (pairs_below m e) ++ pairs_after m e (enc p.0)) one_more
    ∙ next_page enc (walk m e) n p (map.entries_sorted (below m e)) (keyed_entries enc m e c.root.ensures.keyed) at)
