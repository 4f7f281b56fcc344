use Rattle.std.proofs.Common.{◌∙◌, ap}
use Rattle.trie_tool.specs.Numbers.{text, texts_of}
use Rattle.nibble_map.proofs.MapLemmas.Mapped.{mapped-empty}
use Rattle.trie_tool.proofs.numbers.Numbers.new.Goals as goal

pub returns : goal.returns
returns c = ap texts_of c.new.ensures ∙ mapped-empty text
