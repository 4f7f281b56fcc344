use Rattle.std.proofs.Common.{◌≡◌, ◌∙◌, ap, string_bytes}
use Rattle.std.specs.FinMap as map
use Rattle.nibble_map.specs.Computed.{footprint}
use Rattle.trie_tool.specs.Numbers.{texts_of}
use Rattle.trie_tool.specs.Request.{Numbers}
use Rattle.radix_trie.proofs.MappedLemmas.{points-mapped, prefixes-mapped}
use Rattle.trie_tool.proofs.numbers.Numbers.footprint.Goals as goal

pub returns : goal.returns
returns c =
    let n = points-mapped string_bytes c.self.inside.trie _ c.footprint.ensures.nodes in
    let k = prefixes-mapped string_bytes c.self.inside.trie _ c.footprint.ensures.nibbles in
    let counts : c.footprint.result ≡ footprint (map.entries (texts_of c.self.inside.trie)) = λ i. (n i, k i) in
    counts ∙ ap (λ (m : Numbers). footprint (map.entries m)) c.self.view_is
