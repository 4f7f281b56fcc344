use Rattle.std.proofs.Common.{◌*◌, ◌/◌, ◌≤◌, inl, inr, length, ◌∙◌, arith}
use Rattle.std.proofs.lemmas.Bool.{cases_lt}
use Rattle.std.proofs.lemmas.List.{get_or_past}
use Rattle.radix_keys.proofs.NibbleLemmas.Slices.{byte_count, nibble_fits, two_padded, two_past}
use Rattle.encoded_keys.proofs.CodeLemmas.Heads.{word_head}
use Rattle.encoded_keys.proofs.heads.padded_head.Goals as goal

pub returns-clause-nibbles : goal.returns-clause-nibbles
returns-clause-nibbles c = λ k.
    nibble_fits c.as_packed.result.0.now c.as_packed.result.1 c.args.list.now c.as_packed.ensures.padded c.as_packed.ensures.nibbles k (c.first_word.ensures.bytes (k / 2))

pub returns-clause-head : goal.returns-clause-head
returns-clause-head c =
    let bs = c.as_packed.result.0.now in
    let odd = c.as_packed.result.1 in
    let list = c.args.list.now in
    let padded = c.as_packed.ensures.padded in
    let nibbles = c.as_packed.ensures.nibbles in
    c.first_word.ensures.word ∙ word_head bs list (λ i l. elim (cases_lt (2 * i) (length list)) [
      | inl lt ↦ two_padded bs odd list padded nibbles i lt
      | inr ge ↦
          let past : length bs ≤ i = omega (arith, ge, byte_count bs odd list padded nibbles) in
          omega (arith, get_or_past bs i 0 past, two_past bs odd list padded nibbles i 0 past)
    ])
