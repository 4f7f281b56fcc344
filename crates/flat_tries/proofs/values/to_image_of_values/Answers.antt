-- One more text, of one more key, and its value.
use Rattle.std.proofs.Common.{◌+◌, [], inl, take, sym, ap, subst, ◌∙◌}
use Rattle.std.proofs.lemmas.List.{take_all}
use Rattle.std.specs.List.{AllZip}
use Rattle.nibble_map.specs.Nibbles.{nibbles}
use Rattle.radix_trie.specs.Views.{pairs_below}
use Rattle.frozen_trie.proofs.FrozenLemmas.Thawed.{none_of_empty}
use Rattle.image_parts.specs.Parts.{HoldsPayload}
use Rattle.flat_tries.specs.TrieImages.{HasOddKey}
use Rattle.frozen_trie.specs.FileRows.{counted_bytes}
use Rattle.flat_tries.specs.ValueImages.{IsPlacedPair, laid_values}
use Rattle.flat_tries.proofs.ValueLemmas.{one_laid, placed_still}
use Rattle.flat_tries.proofs.ZipLemmas.{taken_item, zip_both}
use Rattle.flat_tries.proofs.values.to_image_of_values.Goals as goal

pub loop-key-init : goal.loop-key-init
loop-key-init g c = record {
  laid = c.new-own.ensures.items;
  pairs = subst (λ ps. AllZip (IsPlacedPair g.V.FileItem.file_bytes g.V.FileItem.is_item g.K.TrieKey.encoding c.new-own.result.items) ps [])
      (sym (ap (λ m. pairs_below m []) c.new-texts.ensures ∙ none_of_empty nibbles)) tt;
}

pub loop-key-preserved : goal.loop-key-preserved
loop-key-preserved g c =
    let placed = IsPlacedPair g.V.FileItem.file_bytes g.V.FileItem.is_item g.K.TrieKey.encoding in
    let row = c.loop-key-item.result in
    let at = c.loop-key.key-index in
    let items = c.pairs-key-items.result.now in
    let before = pairs_below c.loop-key.texts [] in
    let own = c.put_value.new.own.items in
    let next = taken_item items at row c.loop-key-test.true c.loop-key-item.is in
    let added = c.in-Ok-put_value.ensures.bytes in
    record {
      laid = one_laid g.V.FileItem.file_bytes c.loop-key.own.items own (take at items) (take (at + 1) items) row c.loop-key.invariant.laid added next;
      pairs = zip_both (placed own) before (pairs_below c.push.new.self []) (take at items) (take (at + 1) items) (c.deref.result.now, c.in-Ok-put_value.place) row
          (placed_still g.V.FileItem.file_bytes g.V.FileItem.is_item g.K.TrieKey.encoding c.loop-key.own.items (counted_bytes (g.V.FileItem.file_bytes row.1)) own before (take at items) added c.loop-key.invariant.pairs)
          (record { key = ap nibbles c.deref.ensures.value ∙ c.in-Ok.ensures.ok; value = c.in-Ok-put_value.ensures.value })
          c.in-Ok-push.ensures.pairs next;
    }

pub returns-in-Err-clause-odd : goal.returns-in-Err-clause-odd
returns-in-Err-clause-odd g c = λ told.
    subst (HasOddKey g.K.TrieKey.encoding) c.pairs-key-items.ensures.pairs
    (c.loop-key.key-index, c.loop-key-item.result, c.loop-key-test.true, sym c.loop-key-item.is, c.in-Err.ensures.odd told)

pub returns-in-Ok-to_image-clause-pairs : goal.returns-in-Ok-to_image-clause-pairs
returns-in-Ok-to_image-clause-pairs g c =
    let placed = IsPlacedPair g.V.FileItem.file_bytes g.V.FileItem.is_item g.K.TrieKey.encoding c.loop-key.own.items in
    let all = pairs_below c.args.trie.now [] in
    record {
      own = c.loop-key.own.items;
      are_own = inl (subst (HoldsPayload c.in-Ok-to_image.image.items) c.deref-2.ensures.value c.in-Ok-to_image.ensures.payload);
      pairs = subst (λ ps. AllZip placed ps all) (sym c.in-Ok-to_image.ensures.pairs)
          (subst (AllZip placed (pairs_below c.loop-key.texts [])) (take_all c.loop-key.key-index c.pairs-key-items.result.now c.loop-key-test.false ∙ c.pairs-key-items.ensures.pairs) c.loop-key.invariant.pairs);
    }

pub returns-in-Ok-to_image-clause-payload : goal.returns-in-Ok-to_image-clause-payload
returns-in-Ok-to_image-clause-payload g c =
    subst (HoldsPayload c.in-Ok-to_image.image.items)
    (c.deref-2.ensures.value ∙ c.loop-key.invariant.laid ∙ ap (laid_values g.V.FileItem.file_bytes) (take_all c.loop-key.key-index c.pairs-key-items.result.now c.loop-key-test.false ∙ c.pairs-key-items.ensures.pairs))
    c.in-Ok-to_image.ensures.payload
