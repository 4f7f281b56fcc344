-- One more key and value, of one more pair.
use Rattle.std.proofs.Common.{◌≡◌, ◌+◌, [], length, take, refl, sym, ap, subst, ◌∙◌, arith}
use Rattle.std.proofs.lemmas.List.{take_all}
use Rattle.std.specs.List.{AllZip}
use Rattle.radix_trie.specs.Views.{pairs_below}
use Rattle.frozen_trie.proofs.FrozenLemmas.Thawed.{none_of_empty}
use Rattle.flat_texts.specs.TextImages.{given_pair, image_pairs}
use Rattle.flat_texts.proofs.TableLemmas.{taken_next}
use Rattle.flat_tries.specs.TrieImages.{IsForeignPair}
use Rattle.flat_tries.specs.ValueImages.{IsPlacedPair, LacksValue, ShareValues, laid_values}
use Rattle.flat_tries.proofs.KeyLemmas.{none_has, some_has}
use Rattle.flat_tries.proofs.ValueLemmas.{laid_longer, laid_size, values_longer}
use Rattle.flat_tries.proofs.ZipLemmas.{zip_both}
use Rattle.flat_tries.proofs.values.from_image_of_values.Goals as goal

pub loop-at-init : goal.loop-at-init
loop-at-init g c =
    let none = ap (λ m. pairs_below m []) c.new-trie.ensures ∙ none_of_empty g.K.TrieKey.encoding in
    record {
      pairs = subst (AllZip (IsPlacedPair g.V.FileItem.file_bytes g.V.FileItem.is_item g.K.TrieKey.encoding c.own_bytes-own.result.now) []) (sym none) tt;
      left = omega (arith, ap (λ qs. length (laid_values g.V.FileItem.file_bytes qs)) none);
    }

pub loop-at-preserved : goal.loop-at-preserved
loop-at-preserved g c =
    let pair = given_pair c.in-Some.pair in
    let at = c.loop-at.at in
    let all = image_pairs c.args.image.now in
    let before = pairs_below c.loop-at.trie [] in
    let after = pairs_below c.push.new.self [] in
    let found = c.in-Ok-Some-value_at in
    let size = some_has _ _ _ found.field-0-is found.ensures.size in
    record {
      pairs = zip_both (IsPlacedPair g.V.FileItem.file_bytes g.V.FileItem.is_item g.K.TrieKey.encoding c.own_bytes-own.result.now)
          (take at all) (take (at + 1) all) before after pair (c.in-Ok-Some.key, found.found.0) c.loop-at.invariant.pairs
          (record { key = some_has _ _ _ c.in-Ok-Some.field-0-is c.in-Ok-Some.ensures.encoded; value = some_has _ _ _ found.field-0-is found.ensures.value })
          (taken_next all at pair (c.in-Some.ensures (c.in-Ok.ensures.image.0 refl))) c.in-Ok-push.ensures.pairs;
      left = omega (arith, laid_longer g.V.FileItem.file_bytes before after (c.in-Ok-Some.key, found.found.0) c.in-Ok-push.ensures.pairs, c.loop-at.invariant.left, size);
    }

pub returns-then-size-left-clause-shared : goal.returns-then-size-left-clause-shared
returns-then-size-left-clause-shared g c = λ i told.
    let same : c.loop-at.at ≡ i = cc told in
    let own = c.own_bytes-own.result.now in
    let pair = given_pair c.in-Some.pair in
    let at = c.loop-at.at in
    let all = image_pairs c.args.image.now in
    let found = c.in-Ok-Some-value_at in
    let value = some_has _ _ _ found.field-0-is found.ensures.value in
    let size = some_has _ _ _ found.field-0-is found.ensures.size in
    let laid = laid_size g.V.FileItem.file_bytes g.V.FileItem.is_item g.K.TrieKey.encoding own (take at all) (pairs_below c.loop-at.trie []) c.loop-at.invariant.pairs in
    let more = values_longer own (take at all) (take (at + 1) all) pair (taken_next all at pair (c.in-Some.ensures (c.in-Ok.ensures.image.0 refl))) in
    subst (ShareValues c.args.image.now) same
    (record {
      own = own;
      are_own = c.own_bytes-own.ensures;
      more = omega (arith, more, laid, size, value.stands.counted, c.loop-at.invariant.left, c.if-size-left.true);
    })

pub returns-clause-bounded : goal.returns-clause-bounded
returns-clause-bounded g c =
    omega (arith, c.loop-at.invariant.left, ap (λ m. length (laid_values g.V.FileItem.file_bytes (pairs_below m []))) c.finish.ensures.same)

pub returns-in-Ok-None-clause-key : goal.returns-in-Ok-None-clause-key
returns-in-Ok-None-clause-key g c = λ i told.
    let same : c.loop-at.at ≡ i = cc told in
    subst (IsForeignPair g.K.TrieKey.encoding g.K.TrieKey.is_value (image_pairs c.args.image.now)) same
    (given_pair c.in-Some.pair, sym (c.in-Some.ensures (c.in-Ok.ensures.image.0 refl)), none_has _ _ c.in-Ok-None.field-0-is c.in-Ok-None.ensures.malformed)

pub returns-in-Ok-None-value_at-clause-value : goal.returns-in-Ok-None-value_at-clause-value
returns-in-Ok-None-value_at-clause-value g c = λ i told.
    let same : c.loop-at.at ≡ i = cc told in
    subst (LacksValue g.V.FileItem.file_bytes g.V.FileItem.is_item c.args.image.now) same
    (record {
      own = c.own_bytes-own.result.now;
      are_own = c.own_bytes-own.ensures;
      pair = given_pair c.in-Some.pair;
      stored = sym (c.in-Some.ensures (c.in-Ok.ensures.image.0 refl));
      lacks = none_has _ _ c.in-Ok-None-value_at.field-0-is c.in-Ok-None-value_at.ensures.malformed;
    })

pub returns-clause-pairs : goal.returns-clause-pairs
returns-clause-pairs g c =
    let own = c.own_bytes-own.result.now in
    let placed = IsPlacedPair g.V.FileItem.file_bytes g.V.FileItem.is_item g.K.TrieKey.encoding own in
    let at = c.loop-at.at in
    let all = image_pairs c.args.image.now in
    record {
      own = own;
      are_own = c.own_bytes-own.ensures;
      pairs = subst (λ m. AllZip placed all (pairs_below m [])) (sym c.finish.ensures.same)
          (subst (λ ps. AllZip placed ps (pairs_below c.loop-at.trie [])) (take_all at all (omega (arith, c.loop-at-test.false, c.len-at-end.ensures (c.in-Ok.ensures.image.0 refl)))) c.loop-at.invariant.pairs);
    }
