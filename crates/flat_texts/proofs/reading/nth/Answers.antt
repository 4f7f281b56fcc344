use Rattle.std.proofs.Common.{Some, ap, sym, ◌∙◌, arith}
use Rattle.flat_texts.specs.TextImages.{key_in}
use Rattle.flat_texts.proofs.MapLemmas.{no_pair, pair_at}
use Rattle.flat_texts.proofs.reading.nth.Goals as goal

pub returns-then-at-plan : goal.returns-then-at-plan
returns-then-at-plan c = λ image. no_pair c.args.image.now c.args.at (omega (arith, c.if-at-plan.true, c.in-Ok.ensures.plan.pairs))

pub returns : goal.returns
returns c = λ image.
    ap (λ k. Some (k, c.value_at.result)) c.key_at.ensures ∙ ap (λ v. Some (key_in c.args.image.now c.args.at, v)) c.value_at.ensures
    ∙ sym (pair_at c.args.image.now c.args.at (omega (arith, c.if-at-plan.false, c.in-Ok.ensures.plan.pairs)))
