use Rattle.std.proofs.Common.{◌∙◌, ap, sym, string_bytes}
use Rattle.std.proofs.lemmas.Result.{IfOk-weaker}
use Rattle.nibble_map.specs.Nibbles.{nibbles}
use Rattle.trie_tool.specs.Numbers.{text, texts_of}
use Rattle.nibble_map.proofs.MapLemmas.Mapped.{mapped-remove}
use Rattle.radix_trie.proofs.MappedLemmas.{value_at-mapped}
use Rattle.trie_tool.proofs.numbers.Numbers.remove.Goals as goal

pub returns-clause-old_number : goal.returns-clause-old_number
returns-clause-old_number c =
    rw (← c.self.view_is) (IfOk-weaker c.remove.result _ _ (λ old is. is ∙ sym (value_at-mapped string_bytes c.self.inside.trie (nibbles c.args.key.now))) c.remove.ensures.old_value)

pub returns-clause-removed : goal.returns-clause-removed
returns-clause-removed c =
    rw (← c.self.view_is) (IfOk-weaker c.remove.result _ _ (λ _ is. ap texts_of is ∙ mapped-remove text c.self.inside.trie (nibbles c.args.key.now)) c.remove.ensures.removed)
