use Rattle.std.proofs.Common.{arith}
use Rattle.flat_texts.proofs.ImageLemmas.{heads_rise}
use Rattle.flat_texts.proofs.writing.next_count.Goals as goal

pub returns-else-head_at-at : goal.returns-else-head_at-at
returns-else-head_at-at c = record {
  within = omega (arith, c.loop-count.invariant.within, c.requires.plan.pairs);
  below = c.loop-count.invariant.before;
  others = λ k l m.
      let least = heads_rise c.args.image.now c.args.plan.pairs c.loop-count.count k (λ i. (c.type_inv.image i).fits) c.requires.right l (omega (arith, m, c.requires.plan.pairs)) in
      omega (arith, least, c.head_at.ensures, c.if-head_at-at.false);
}
