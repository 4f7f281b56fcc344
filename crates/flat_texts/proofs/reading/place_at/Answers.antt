use Rattle.std.proofs.Common.{◌≡◌, ◌+◌, ◌-◌, Some, min, ap, sym, ◌∙◌, arith, length, take, drop, drop-drop}
use Rattle.flat_texts.specs.TextImages.{key_end, key_in, key_start, keys_place, keys_size}
use Rattle.flat_texts.proofs.MapLemmas.{no_pair, pair_at}
use Rattle.flat_texts.proofs.PlaceLemmas.{part_there}
use Rattle.flat_texts.proofs.reading.place_at.Goals as goal

pub returns-then-at-plan-clause-pair : goal.returns-then-at-plan-clause-pair
returns-then-at-plan-clause-pair c = λ image.
    no_pair c.args.image.now c.args.at (omega (arith, c.if-at-plan.true, c.in-Ok.ensures.plan.pairs))

pub returns-clause-pair : goal.returns-clause-pair
returns-clause-pair c = λ image.
    let bs = c.args.image.now in
    let at = c.args.at in
    let s = key_start bs at in
    let plan = c.in-Ok.ensures.plan in
    let first : c.in-Ok.plan.keys_at + c.min-from.result ≡ keys_place bs + min s (keys_size bs) =
    cc (plan.keys_at, plan.keys_len, c.min-from.ensures, c.start_at.ensures) in
    let key : take (length c.key_at.result.now) (drop (c.in-Ok.plan.keys_at + c.min-from.result) bs) ≡ key_in bs at =
    ap (λ k. take (length k) (drop (c.in-Ok.plan.keys_at + c.min-from.result) bs)) c.key_at.ensures
    ∙ ap (λ d. take (length (key_in bs at)) (drop d bs)) first
    ∙ ap (take (length (key_in bs at))) (sym (drop-drop (min s (keys_size bs)) (keys_place bs) bs))
    ∙ part_there (key_end bs at - s) s (keys_size bs) (drop (keys_place bs) bs) in
    ap (λ k. Some (k, c.value_at.result)) key ∙ ap (λ v. Some (key_in bs at, v)) c.value_at.ensures
    ∙ sym (pair_at bs at (omega (arith, c.if-at-plan.false, plan.pairs)))
