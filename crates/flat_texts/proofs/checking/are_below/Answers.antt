use Rattle.std.proofs.Common.{◌-◌, arith}
use Rattle.std.proofs.lemmas.Bool.{lt-ltb, ltb-true}
use Rattle.flat_texts.proofs.ImageLemmas.{heads_rise}
use Rattle.flat_texts.proofs.checking.are_below.Goals as goal

pub returns : goal.returns
returns c = (
  λ yes k l.
      let lt = ltb-true _ _ yes in
      let most = heads_rise c.args.image.now c.args.plan.pairs k (c.args.count - 1) (λ i. (c.type_inv.image i).fits) c.requires.pairs (omega (arith, l)) (omega (arith, l, c.requires.within)) in
      omega (arith, lt, most, c.head_at.ensures),
  λ below.
      let less = below (c.args.count - 1) (omega (arith, c.if-count-eq0.false)) in
      lt-ltb _ _ (omega (arith, less, c.head_at.ensures)),
)
