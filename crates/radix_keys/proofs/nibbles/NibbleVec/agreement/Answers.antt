use Rattle.std.proofs.Common.{◌≡◌, ℕ, ◌+◌, ◌*◌, ◌/◌, ◌%◌, ◌<◌, List, length, take, drop, slice_index, sym, ap, subst, ◌∙◌, arith, length-drop}
use Rattle.std.proofs.lemmas.List.{take_more_same, get_or-drop}
use Rattle.radix_keys.proofs.nibbles.NibbleVec.agreement.Goals as goal

-- lists that agree so far agree in one more element
one_more : (xs ys : List ℕ) (n d : ℕ) → n < length xs → d + n < length ys → take n xs ≡ take n (drop d ys)
    → slice_index xs n ≡ slice_index ys (d + n) → take (n + 1) xs ≡ take (n + 1) (drop d ys)
one_more xs ys n d in_xs in_ys so_far here =
    take_more_same xs (drop d ys) n 0 in_xs (omega (arith, length-drop d ys)) so_far (here ∙ sym (get_or-drop d ys n 0))

pub loop-pair-preserved : goal.loop-pair-preserved
loop-pair-preserved c =
    let n = 2 * c.loop-pair.pair in
    let xs = c.args.self.now in
    let ys = c.args.other.now in
    let d = c.args.depth in
    let same = c.if-byte_from.false in
    let first = sym c.byte_from.ensures.first ∙ ap (λ b. b / 16) same ∙ c.byte_from-in-loop-pair.ensures.first in
    let second = sym c.byte_from.ensures.second ∙ ap (λ b. b % 16) same ∙ c.byte_from-in-loop-pair.ensures.second in
    let one : take (n + 1) xs ≡ take (n + 1) (drop d ys) = one_more xs ys n d (omega arith) (omega arith) c.loop-pair.invariant first in
    let next : d + n + 1 ≡ d + (n + 1) = omega arith in
    let two : take (n + 1 + 1) xs ≡ take (n + 1 + 1) (drop d ys) = one_more xs ys (n + 1) d (omega arith) (omega arith) one (second ∙ ap (slice_index ys) next) in
    let count : n + 1 + 1 ≡ 2 * (c.loop-pair.pair + 1) = omega arith in
    subst (λ k. take k xs ≡ take k (drop d ys)) count two

pub returns-then-get-clause-same : goal.returns-then-get-clause-same
returns-then-get-clause-same c =
    one_more _ _ _ _ (omega arith) (omega arith) c.loop-pair.invariant (sym c.get.ensures.value ∙ c.if-get.true ∙ c.get-then-byte_from.ensures.value)
