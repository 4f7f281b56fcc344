use Rattle.std.proofs.Common.{ap, ◌∙◌, nat_cmp}
use Rattle.std.specs.Cmp.Lexicographic.{slice_cmp}
use Rattle.nibble_map.proofs.MapLemmas.Bridge.{from_sorted-nil}
use Rattle.radix_trie.specs.Roots.{map_of}
use Rattle.radix_trie.proofs.trie.Trie.new.Goals as goal

pub returns : goal.returns
returns g c = ap map_of c.new.ensures ∙ from_sorted-nil (slice_cmp nat_cmp)
