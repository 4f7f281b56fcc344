use Rattle.std.proofs.Common.{◌/◌, below_more, get_or, subst, sym, arith, ◌∙◌}
use Rattle.std.proofs.lemmas.List.{get_or-set_other, get_or-set_same}
use Rattle.std.proofs.Math.ListN.{length-set, set}
use Rattle.flat_routes.specs.Images.{IsImage, start_in}
use Rattle.flat_routes.specs.SpanLaws.{IsCountedBy}
use Rattle.flat_routes.proofs.search.counts_of.Goals as goal

pub loop-i-preserved : goal.loop-i-preserved
loop-i-preserved c =
    let starts = start_in c.args.wide c.args.image.now in
    let known = IsImage c.args.wide c.args.image.now in
    let m = c.args.plan.spans.count in
    let i = c.loop-i.i in
    let fs = c.loop-i.from in
    let left = c.loop-left.left in
    let next = c.halved.result in
    let long = c.loop-i.invariant.long in
    let same = get_or-set_same fs i next 0 (omega (arith, long, c.loop-i-test.true)) in
    record {
      long = length-set fs i next ∙ long;
      done = below_more (λ j. IsCountedBy starts known m (get_or c.args.numbers.now j 0) (get_or (set fs i next) j 0) (left / 2)) i
          (λ j l. subst (λ f. IsCountedBy starts known m (get_or c.args.numbers.now j 0) f (left / 2)) (sym (get_or-set_other fs i j next 0 (λ e. omega (arith, e, l)))) (c.loop-i.invariant.done j l))
          (subst (λ f. IsCountedBy starts known m (get_or c.args.numbers.now i 0) f (left / 2)) (sym same) (c.halved.ensures (c.loop-i.invariant.left i (omega arith) c.loop-i-test.true)));
      left = λ j l lt. subst (λ f. IsCountedBy starts known m (get_or c.args.numbers.now j 0) f left) (sym (get_or-set_other fs i j next 0 (λ e. omega (arith, e, l))))
          (c.loop-i.invariant.left j (omega (arith, l)) lt);
    }
