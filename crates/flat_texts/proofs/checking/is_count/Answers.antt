use Rattle.std.proofs.Common.{arith}
use Rattle.flat_texts.proofs.ImageLemmas.{count_right, right_below, right_from, right_within}
use Rattle.flat_texts.proofs.checking.is_count.Goals as goal

pub returns-then-count-plan : goal.returns-then-count-plan
returns-then-count-plan c = (
  λ no. absurd (cc no),
  λ top. absurd (let le = right_within c.args.image.now c.args.at c.count_at-count.result c.count_at-count.ensures top in omega (arith, le, c.if-count-plan.true, c.requires.plan.pairs)),
)

pub returns-then-not-are_below : goal.returns-then-not-are_below
returns-then-not-are_below c = (
  λ no. absurd (cc no),
  λ top. absurd (
      let yes = c.are_below.ensures.1 (right_below c.args.image.now c.args.at c.count_at-count.result c.count_at-count.ensures top) in
      let no = c.if-not-are_below.true in
      cc (yes, no)),
)

pub returns : goal.returns
returns c = (
  λ yes. count_right c.args.image.now c.args.at c.count_at-count.result c.count_at-count.ensures (omega (arith, c.if-count-plan.false, c.requires.plan.pairs))
      (c.are_below.ensures.0 c.if-not-are_below.false) (λ k l m. c.are_from.ensures.0 yes k l (omega (arith, m, c.requires.plan.pairs))),
  λ top. c.are_from.ensures.1 (λ k l m. right_from c.args.image.now c.args.at c.count_at-count.result c.count_at-count.ensures top k l (omega (arith, m, c.requires.plan.pairs))),
)
