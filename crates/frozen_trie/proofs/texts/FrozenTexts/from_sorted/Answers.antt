use Rattle.std.proofs.Common.{◌≡◌, ◌++◌, [], append-nil, string_bytes, Err, sym, ap, subst, ◌∙◌, arith}
use Rattle.std.proofs.lemmas.List.{nil_from_length}
use Rattle.std.specs.Vec.Iter.{into_iter_items}
use Rattle.nibble_map.specs.Nibbles.{nibbles}
use Rattle.frozen_trie.specs.Frozen.{IsFirstListOutOfOrder, IsFrozen, codes_of}
use Rattle.frozen_trie.proofs.TextLemmas.Growth.{values_of}
use Rattle.frozen_trie.proofs.TextLemmas.Sorted.{map_of_texts, text_codes, text_codes_rise, texts_of_pairs}
use Rattle.frozen_trie.proofs.texts.FrozenTexts.from_sorted.Goals as goal

pub returns-in-Err-clause-unsorted : goal.returns-in-Err-clause-unsorted
returns-in-Err-clause-unsorted g c = λ i e.
    subst (λ cs. IsFirstListOutOfOrder cs i) (ap (codes_of (λ s. nibbles (string_bytes s))) c.deref.ensures.value ∙ text_codes c.args.pairs.items) (c.in-Err.ensures.unsorted i (ap Err e))

pub invariant_of-result : goal.invariant_of-result
invariant_of-result g c =
    let ps = c.args.pairs.items in
    let rest = into_iter_items c.loop-value.value-iterator in
    let none : rest ≡ [] = nil_from_length rest (omega (arith, c.in-None.ensures.steps.0, c.loop-value.invariant.many)) in
    let values = sym (append-nil c.loop-value.values.items) ∙ ap (λ xs. c.loop-value.values.items ++ values_of xs) (sym none) ∙ c.loop-value.invariant.moved in
    texts_of_pairs ps _ _ _ (subst (λ xs. IsFrozen (λ s. nibbles (string_bytes s)) c.in-Ok.made.0 xs c.in-Ok.made.1.items) c.deref.ensures.value c.in-Ok.ensures.ok) values

pub returns-clause-pairs : goal.returns-clause-pairs
returns-clause-pairs g c =
    let ps = c.args.pairs.items in
    let rest = into_iter_items c.loop-value.value-iterator in
    let none : rest ≡ [] = nil_from_length rest (omega (arith, c.in-None.ensures.steps.0, c.loop-value.invariant.many)) in
    let values = sym (append-nil c.loop-value.values.items) ∙ ap (λ xs. c.loop-value.values.items ++ values_of xs) (sym none) ∙ c.loop-value.invariant.moved in
    map_of_texts ps _ _ c.in-Ok.made.1.items (subst (λ xs. IsFrozen (λ s. nibbles (string_bytes s)) c.in-Ok.made.0 xs c.in-Ok.made.1.items) c.deref.ensures.value c.in-Ok.ensures.ok) values

pub returns-clause-rising : goal.returns-clause-rising
returns-clause-rising g c =
    let ps = c.args.pairs.items in
    let rest = into_iter_items c.loop-value.value-iterator in
    let none : rest ≡ [] = nil_from_length rest (omega (arith, c.in-None.ensures.steps.0, c.loop-value.invariant.many)) in
    let values = sym (append-nil c.loop-value.values.items) ∙ ap (λ xs. c.loop-value.values.items ++ values_of xs) (sym none) ∙ c.loop-value.invariant.moved in
    text_codes_rise ps _ _ c.in-Ok.made.1.items (subst (λ xs. IsFrozen (λ s. nibbles (string_bytes s)) c.in-Ok.made.0 xs c.in-Ok.made.1.items) c.deref.ensures.value c.in-Ok.ensures.ok) values
