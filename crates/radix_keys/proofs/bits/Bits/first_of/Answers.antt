use Rattle.std.proofs.Common.{◌≡◌, ◌+◌, ◌-◌, ◌*◌, ◌/◌, ◌%◌, ◌^◌, ◌++◌, [], ◌∷◌, arith, ap, sym, ◌∙◌, true, false, length, take, get_or}
use Rattle.std.proofs.lemmas.List.{length-take, length-take-le, length-append, take_all}
use Rattle.nibble_map.specs.Nibbles.{nibbles}
use Rattle.radix_keys.specs.Bits.{bits_high_first, bits_of}
use Rattle.radix_keys.proofs.BitLemmas.{length-bits_of, take-bits_of, next_byte, next_bit, few_bits}
use Rattle.radix_keys.proofs.bits.Bits.first_of.Goals as goal

pub loop-byte-init : goal.loop-byte-init
loop-byte-init c = c.new-list.ensures

pub push_bytes-requires : goal.push_bytes-requires
push_bytes-requires c =
    omega (arith, ap length c.loop-byte.invariant, length-bits_of (take c.loop-byte.byte-index (take c.min-whole.result c.args.bytes.now)))

pub returns-in_err-push_bytes-clause-succeeds : goal.returns-in_err-push_bytes-clause-succeeds
returns-in_err-push_bytes-clause-succeeds c = λ short.
    let bytes = c.args.bytes.now in
    let first = take c.min-whole.result bytes in
    let k = c.loop-byte.byte-index in
    let refused : false ≡ true = c.in_err-push_bytes.ensures.succeeds
    (omega (
      arith,
      short,
      c.min-whole.ensures,
      length-take c.args.count (bits_of bytes),
      length-bits_of bytes,
      length-take c.min-whole.result bytes,
      length-take-le k first (omega (arith, c.loop-byte-test.true)),
      length-bits_of (take k first),
      ap length c.loop-byte.invariant,
      ap length c.bits_in_pairs.ensures,
      length-append c.loop-byte.list (nibbles c.bits_in_pairs.result),
    )) in
    cc

pub loop-byte-preserved : goal.loop-byte-preserved
loop-byte-preserved c =
    let first = take c.min-whole.result c.args.bytes.now in
    let k = c.loop-byte.byte-index in
    c.in_ok-push_bytes.ensures.ok
    ∙ ap (λ t. c.loop-byte.list ++ t) c.bits_in_pairs.ensures
    ∙ ap (λ t. t ++ bits_high_first 8 (get_or first k 0)) c.loop-byte.invariant
    ∙ sym (next_byte first k c.loop-byte-test.true)

pub returns-then-whole-bytes-clause-ok : goal.returns-then-whole-bytes-clause-ok
returns-then-whole-bytes-clause-ok c =
    let bytes = c.args.bytes.now in
    let whole = c.min-whole.result in
    c.loop-byte.invariant
    ∙ ap bits_of (take_all c.loop-byte.byte-index (take whole bytes) (omega (arith, c.loop-byte-test.false)) ∙ take_all whole bytes (omega (arith, c.if-whole-bytes.true)))
    ∙ sym (take_all c.args.count (bits_of bytes) (omega (arith, length-bits_of bytes, c.if-whole-bytes.true, c.min-whole.ensures)))

pub loop-i-init : goal.loop-i-init
loop-i-init c =
    let bytes = c.args.bytes.now in
    let whole = c.min-whole.result in
    let start : 8 * whole ≡ 8 * whole + 0 = omega arith in
    c.loop-byte.invariant
    ∙ ap bits_of (take_all c.loop-byte.byte-index (take whole bytes) (omega (arith, c.loop-byte-test.false)))
    ∙ sym (take-bits_of whole bytes)
    ∙ ap (λ n. take n (bits_of bytes)) start

pub returns-in_err-push-clause-succeeds : goal.returns-in_err-push-clause-succeeds
returns-in_err-push-clause-succeeds c = λ short.
    let whole = c.min-whole.result in
    let i = c.loop-i.i in
    let refused : false ≡ true = c.in_err-push.ensures.succeeds
    (omega (
      arith,
      ap length c.loop-i.invariant,
      few_bits c.args.bytes.now (8 * whole + i) c.args.count (omega (arith, c.if-whole-bytes.false, c.min-whole.ensures, c.loop-i-test.true)) (omega (arith, c.min-whole.ensures, c.loop-i-test.true)) short,
    )) in
    cc

pub loop-i-preserved : goal.loop-i-preserved
loop-i-preserved c =
    let bytes = c.args.bytes.now in
    let whole = c.min-whole.result in
    let i = c.loop-i.i in
    let place = 8 * whole + i in
    let byte : whole ≡ place / 8 = omega (arith, c.loop-i-test.true) in
    let bit : i ≡ place % 8 = omega (arith, c.loop-i-test.true) in
    let next : place + 1 ≡ 8 * whole + (i + 1) = omega arith in
    c.in_ok-push.ensures.ok
    ∙ ap (λ t. t ++ (get_or bytes whole 0 / 2 ^ (7 - i) % 2) ∷ []) c.loop-i.invariant
    ∙ ap (λ b. take place (bits_of bytes) ++ (get_or bytes b 0 / 2 ^ (7 - i) % 2) ∷ []) byte
    ∙ ap (λ b. take place (bits_of bytes) ++ (get_or bytes (place / 8) 0 / 2 ^ (7 - b) % 2) ∷ []) bit
    ∙ sym (next_bit bytes place (omega (arith, c.if-whole-bytes.false, c.min-whole.ensures, c.loop-i-test.true)))
    ∙ ap (λ n. take n (bits_of bytes)) next

pub returns-clause-ok : goal.returns-clause-ok
returns-clause-ok c =
    let all : 8 * c.min-whole.result + c.loop-i.i ≡ c.args.count = omega (arith, c.if-whole-bytes.false, c.min-whole.ensures, c.loop-i-test.false) in
    c.loop-i.invariant ∙ ap (λ n. take n (bits_of c.args.bytes.now)) all
