use Rattle.std.proofs.Common.{◌∙◌, sym}
use Rattle.nibble_map.proofs.MapLemmas.Mapped.{len-mapped}
use Rattle.trie_tool.specs.Numbers.{text}
use Rattle.trie_tool.proofs.numbers.Numbers.len.Goals as goal

pub returns : goal.returns
returns c = rw (← c.self.view_is) (c.len.ensures ∙ sym (len-mapped text c.self.inside.trie))
