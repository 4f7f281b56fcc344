-- One more text, of one more key.
use Rattle.std.proofs.Common.{◌+◌, [], take, refl, sym, ap, subst, ◌∙◌}
use Rattle.std.proofs.lemmas.List.{take_all}
use Rattle.std.specs.List.{AllZip}
use Rattle.nibble_map.specs.Nibbles.{nibbles}
use Rattle.radix_trie.specs.Views.{pairs_below}
use Rattle.frozen_trie.proofs.FrozenLemmas.Thawed.{none_of_empty}
use Rattle.flat_tries.specs.TrieImages.{HasOddKey, IsCodedPair}
use Rattle.flat_tries.proofs.ZipLemmas.{taken_item, zip_both}
use Rattle.flat_tries.proofs.tables.to_image.Goals as goal

pub loop-key-init : goal.loop-key-init
loop-key-init g c =
    subst (λ ps. AllZip (IsCodedPair g.K.TrieKey.encoding) ps []) (sym (ap (λ m. pairs_below m []) c.new-texts.ensures ∙ none_of_empty nibbles)) tt

pub loop-key-preserved : goal.loop-key-preserved
loop-key-preserved g c =
    let row = c.loop-key-item.result in
    let at = c.loop-key.key-index in
    let items = c.pairs-key-items.result.now in
    zip_both (IsCodedPair g.K.TrieKey.encoding) (pairs_below c.loop-key.texts []) (pairs_below c.push.new.self []) (take at items) (take (at + 1) items)
    (c.deref.result.now, row.1) row c.loop-key.invariant (ap nibbles c.deref.ensures.value ∙ c.in-Ok.ensures.ok, refl)
    c.in-Ok-push.ensures.pairs (taken_item items at row c.loop-key-test.true c.loop-key-item.is)

pub returns-in-Err-clause-odd : goal.returns-in-Err-clause-odd
returns-in-Err-clause-odd g c = λ told.
    subst (HasOddKey g.K.TrieKey.encoding) c.pairs-key-items.ensures.pairs
    (c.loop-key.key-index, c.loop-key-item.result, c.loop-key-test.true, sym c.loop-key-item.is, c.in-Err.ensures.odd told)

pub returns-in-Ok-to_image-clause-pairs : goal.returns-in-Ok-to_image-clause-pairs
returns-in-Ok-to_image-clause-pairs g c =
    let coded = IsCodedPair g.K.TrieKey.encoding in
    let all = pairs_below c.args.trie.now [] in
    subst (λ ps. AllZip coded ps all) (sym c.in-Ok-to_image.ensures.pairs)
    (subst (AllZip coded (pairs_below c.loop-key.texts [])) (take_all c.loop-key.key-index c.pairs-key-items.result.now c.loop-key-test.false ∙ c.pairs-key-items.ensures.pairs) c.loop-key.invariant)
