-- One more key, of one more pair.
use Rattle.std.proofs.Common.{◌≡◌, ◌+◌, [], take, refl, sym, ap, subst, ◌∙◌}
use Rattle.std.specs.List.{AllZip}
use Rattle.radix_trie.specs.Views.{pairs_below}
use Rattle.frozen_trie.proofs.FrozenLemmas.Thawed.{none_of_empty}
use Rattle.flat_texts.specs.TextImages.{given_pair, image_pairs}
use Rattle.flat_texts.proofs.TableLemmas.{taken_next}
use Rattle.flat_tries.specs.TrieImages.{IsCodedPair, IsForeignPair}
use Rattle.flat_tries.proofs.KeyLemmas.{none_has, some_has}
use Rattle.flat_tries.proofs.ZipLemmas.{zip_both}
use Rattle.flat_tries.proofs.tables.from_image.Goals as goal

pub loop-at-init : goal.loop-at-init
loop-at-init g c =
    subst (AllZip (IsCodedPair g.K.TrieKey.encoding) []) (sym (ap (λ m. pairs_below m []) c.new-trie.ensures ∙ none_of_empty g.K.TrieKey.encoding)) tt

pub loop-at-preserved : goal.loop-at-preserved
loop-at-preserved g c =
    let pair = given_pair c.in-Some.pair in
    let at = c.loop-at.at in
    let all = image_pairs c.args.image.now in
    zip_both (IsCodedPair g.K.TrieKey.encoding) (take at all) (take (at + 1) all) (pairs_below c.loop-at.trie []) (pairs_below c.push.new.self [])
    pair (c.in-Ok-Some.key, pair.1) c.loop-at.invariant (some_has _ _ _ c.in-Ok-Some.field-0-is c.in-Ok-Some.ensures.encoded, refl)
    (taken_next all at pair (c.in-Some.ensures (c.in-Ok.ensures.image.0 refl))) c.in-Ok-push.ensures.pairs

pub returns-in-Ok-None-clause-key : goal.returns-in-Ok-None-clause-key
returns-in-Ok-None-clause-key g c = λ i told.
    let same : c.loop-at.at ≡ i = cc told in
    subst (IsForeignPair g.K.TrieKey.encoding g.K.TrieKey.is_value (image_pairs c.args.image.now)) same
    (given_pair c.in-Some.pair, sym (c.in-Some.ensures (c.in-Ok.ensures.image.0 refl)), none_has _ _ c.in-Ok-None.field-0-is c.in-Ok-None.ensures.malformed)
