use Rattle.std.proofs.Common.{◌∙◌, sym, string_bytes}
use Rattle.nibble_map.specs.Nibbles.{nibbles}
use Rattle.radix_trie.proofs.MappedLemmas.{value_at-mapped}
use Rattle.trie_tool.proofs.numbers.Numbers.get.Goals as goal

pub returns : goal.returns
returns c = rw (← c.self.view_is) (c.copied.ensures ∙ c.in_ok-get.ensures.value ∙ sym (value_at-mapped string_bytes c.self.inside.trie (nibbles c.args.key.now)))
