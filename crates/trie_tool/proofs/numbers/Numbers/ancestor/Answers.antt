use Rattle.std.proofs.Common.{◌∙◌, string_bytes}
use Rattle.nibble_map.specs.Nibbles.{nibbles}
use Rattle.radix_trie.proofs.MappedLemmas.{ancestor-mapped}
use Rattle.trie_tool.proofs.numbers.Numbers.ancestor.Goals as goal

pub returns : goal.returns
returns c = rw (← c.self.view_is) (c.copied.ensures ∙ ancestor-mapped string_bytes c.self.inside.trie (nibbles c.args.key.now) _ c.in_ok-get_ancestor_value.ensures.value)
