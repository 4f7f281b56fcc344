use Rattle.std.proofs.Common.{◌≡◌, suc, ◌+◌, ◌-◌, ◌/◌, length, refl, ap, ◌∙◌, arith}
use Rattle.encoded_keys.specs.Index.{hash_of_words, mixed_with}
use Rattle.encoded_keys.proofs.CodeLemmas.Slots.{hash_of_few, hash_of_many}
use Rattle.encoded_keys.proofs.hash.hash_bytes.Goals as goal

pub returns-then-count-lt8 : goal.returns-then-count-lt8
returns-then-count-lt8 c =
    c.mixed.ensures ∙ ap (mixed_with (length c.args.bytes.now)) c.number.ensures ∙ hash_of_few c.args.bytes.now c.if-count-lt8.true

pub loop-i-init : goal.loop-i-init
unfolding hash_of_words
loop-i-init c = refl

pub loop-i-preserved : goal.loop-i-preserved
unfolding hash_of_words
loop-i-preserved c =
    let bytes = c.args.bytes.now in
    let i = c.loop-i.i in
    let next : suc i ≡ i + 1 = omega arith in
    c.mixed-hash.ensures ∙ ap (λ h. mixed_with h c.word.result) c.loop-i.invariant
    ∙ ap (mixed_with (hash_of_words bytes i)) c.word.ensures ∙ ap (hash_of_words bytes) next

pub returns : goal.returns
returns c =
    let bytes = c.args.bytes.now in
    let all : c.loop-i.i ≡ (length bytes - 1) / 8 = omega (arith, c.loop-i-test.false, c.loop-i.auto.i-end) in
    c.mixed-2.ensures ∙ ap (λ h. mixed_with h c.word-2.result) (c.loop-i.invariant ∙ ap (hash_of_words bytes) all)
    ∙ ap (mixed_with (hash_of_words bytes ((length bytes - 1) / 8))) c.word-2.ensures
    ∙ hash_of_many bytes c.if-count-lt8.false
