use Rattle.std.proofs.Common.{◌∙◌, ap, sym, not, map as each, string_bytes}
use Rattle.std.proofs.lemmas.Result.{IfOk-weaker}
use Rattle.nibble_map.specs.Lists.{is_prefix}
use Rattle.nibble_map.specs.Nibbles.{nibbles}
use Rattle.trie_tool.specs.Numbers.{text, texts_of}
use Rattle.nibble_map.proofs.MapLemmas.Mapped.{mapped-retain_keys}
use Rattle.radix_trie.proofs.MappedLemmas.{pairs_below-mapped}
use Rattle.trie_tool.proofs.numbers.Numbers.prune.Goals as goal

pub returns-clause-gone : goal.returns-clause-gone
returns-clause-gone c =
    rw (← c.self.view_is) (IfOk-weaker c.remove_prefix.result _ _ (λ gone is. ap (each text) is ∙ sym (pairs_below-mapped string_bytes c.self.inside.trie (nibbles c.args.key.now))) c.remove_prefix.ensures.pairs)

pub returns-clause-removed : goal.returns-clause-removed
returns-clause-removed c =
    rw (← c.self.view_is) (IfOk-weaker c.remove_prefix.result _ _ (λ _ is. ap texts_of is ∙ mapped-retain_keys text c.self.inside.trie (λ q. not (is_prefix (nibbles c.args.key.now) q))) c.remove_prefix.ensures.removed)
