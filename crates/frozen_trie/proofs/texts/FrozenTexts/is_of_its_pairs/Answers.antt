use Rattle.std.proofs.Common.{[], sym, ap, subst, ◌∙◌}
use Rattle.nibble_map.specs.Lists.{IsRising}
use Rattle.nibble_map.specs.Nibbles.{nibbles}
use Rattle.radix_trie.specs.Views.{pairs_below}
use Rattle.frozen_trie.specs.Frozen.{codes_of, map_of_pairs}
use Rattle.frozen_trie.proofs.TextLemmas.Pairs.{all_texts, texts_rise}
use Rattle.frozen_trie.proofs.texts.FrozenTexts.is_of_its_pairs.Goals as goal

pub returns-clause-mapped : goal.returns-clause-mapped
returns-clause-mapped g c =
    sym c.self.view_is ∙ ap (map_of_pairs nibbles) (sym (all_texts _ _ _ c.self.invariant)) ∙ ap (λ m. map_of_pairs nibbles (pairs_below m [])) c.self.view_is

pub returns-clause-rising : goal.returns-clause-rising
returns-clause-rising g c =
    subst (λ ps. IsRising (codes_of nibbles ps)) (sym (all_texts _ _ _ c.self.invariant) ∙ ap (λ m. pairs_below m []) c.self.view_is) (texts_rise _ _ _ c.self.invariant)
