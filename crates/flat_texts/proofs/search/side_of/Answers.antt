use Rattle.std.proofs.Common.{ltb, ◌≡◌, ◌*◌, ◌<◌, length, min, take, get_or, arith, ap, subst, sym, ◌∙◌}
use Rattle.nibble_map.specs.Nibbles.{nibbles}
use Rattle.radix_keys.proofs.NibbleLemmas.Bytes.{length-nibbles}
use Rattle.encoded_keys.specs.Codes.{IsSide}
use Rattle.encoded_keys.proofs.CodeLemmas.Sides.{agree_less, side_by_nibble, side_by_numbers}
use Rattle.flat_texts.proofs.HeadLemmas.{short_begun}
use Rattle.flat_texts.proofs.search.side_of.Goals as goal

pub returns-then-most-le8 : goal.returns-then-most-le8
returns-then-most-le8 c = λ head.
    c.side_of_begun.ensures (short_begun c.args.is_through c.args.own.now c.args.key.now (λ i. (c.type_inv.own i).fits) (λ i. (c.type_inv.key i).fits)
    (omega (arith, c.min-most.ensures, c.if-most-le8.true)) head)

pub returns-then-same-most : goal.returns-then-same-most
returns-then-same-most c = λ head.
    let own = c.args.own.now in
    let key = c.args.key.now in
    let n = c.agreement-same.result in
    let same : take n (nibbles own) ≡ take n (nibbles key) =
    subst (λ p. take n p ≡ take n (nibbles key)) c.from_bytes-code.ensures (subst (λ q. take n c.from_bytes-code.result ≡ take n q) c.from_bytes-list.ensures c.agreement-same.ensures.same) in
    c.side_of_begun-then-same-most.ensures (agree_less (2 * min (length own) (length key)) n (nibbles own) (nibbles key) (omega (arith, c.min-most.ensures, c.if-same-most.true)) same)

pub get-requires : goal.get-requires
get-requires c = omega (arith, c.min-most.ensures, c.if-same-most.false, ap length c.from_bytes-code.ensures, length-nibbles c.args.own.now)

pub get-requires-2 : goal.get-requires-2
get-requires-2 c = omega (arith, c.min-most.ensures, c.if-same-most.false, ap length c.from_bytes-list.ensures, length-nibbles c.args.key.now)

pub returns : goal.returns
returns c = λ head.
    let t = c.args.is_through in
    let code = nibbles c.args.own.now in
    let q = nibbles c.args.key.now in
    let n = c.agreement-same.result in
    let is = c.from_bytes-code.ensures in
    let asked = c.from_bytes-list.ensures in
    let same : take n code ≡ take n q =
    subst (λ p. take n p ≡ take n q) is (subst (λ p. take n c.from_bytes-code.result ≡ take n p) asked c.agreement-same.ensures.same) in
    let here : n < length code = omega (arith, c.min-most.ensures, c.if-same-most.false, length-nibbles c.args.own.now) in
    let there : n < length q = omega (arith, c.min-most.ensures, c.if-same-most.false, length-nibbles c.args.key.now) in
    let value = c.get.ensures.value ∙ ap (λ p. get_or p n 0) is in
    let other = c.get-2.ensures.value ∙ ap (λ p. get_or p n 0) asked in
    let differ : get_or code n 0 ≡ get_or q n 0 → ⊥ = λ e.
    c.agreement-same.ensures.apart (omega (arith, here, ap length is)) (omega (arith, there, ap length asked))
    (ap (λ p. get_or p n 0) is ∙ e ∙ sym (ap (λ p. get_or p n 0) asked)) in
    subst (IsSide t q code) (sym c.cmp.ensures)
    (side_by_numbers t q code c.get.result c.get-2.result
    (ap (λ a. ltb a c.get-2.result) value ∙ ap (λ b. ltb (get_or code n 0) b) other ∙ side_by_nibble t code q n here there same differ)
    (λ e. differ (sym value ∙ e ∙ other)) (λ _ s. value ∙ ap (λ p. get_or p n 0) s ∙ sym other))
