use Rattle.std.proofs.Common.{arith}
use Rattle.std.proofs.lemmas.Bool.{le-leb, leb-true}
use Rattle.flat_texts.proofs.ImageLemmas.{heads_rise}
use Rattle.flat_texts.proofs.checking.are_from.Goals as goal

pub returns : goal.returns
returns c = (
  λ yes k l m.
      let le = leb-true _ _ yes in
      let least = heads_rise c.args.image.now c.args.plan.pairs c.args.count k (λ i. (c.type_inv.image i).fits) c.requires.pairs l m in
      omega (arith, le, least, c.head_at.ensures),
  λ from.
      let least = from c.args.count (omega arith) (omega (arith, c.requires.within, c.if-count-plan.false)) in
      le-leb _ _ (omega (arith, least, c.head_at.ensures)),
)
