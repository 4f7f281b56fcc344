use Rattle.std.proofs.Common.{◌+◌, below_more, get_or, subst, sym, arith, ◌∙◌}
use Rattle.std.proofs.lemmas.List.{get_or-set_other, get_or-set_same}
use Rattle.std.proofs.Math.ListN.{length-set, set}
use Rattle.flat_routes.specs.Images.{IsImage, start_in}
use Rattle.flat_routes.specs.SpanLaws.{IsCountedBy}
use Rattle.flat_routes.proofs.SpanLemmas.{IsBounded, bounded_back, bounded_more}
use Rattle.flat_routes.proofs.search.blocks_of.Goals as goal

pub loop-i-preserved : goal.loop-i-preserved
loop-i-preserved c =
    let starts = start_in c.args.wide c.args.image.now in
    let known = IsImage c.args.wide c.args.image.now in
    let m = c.args.plan.spans.count in
    let i = c.loop-i.i in
    let fs = c.loop-i.from in
    let lo = c.block_of-lo.result.0 in
    let left = c.loop-i.left + c.saturating_sub-left.result in
    let block = c.block_of-lo.ensures in
    let long = c.loop-i.invariant.long in
    let same = get_or-set_same fs i lo 0 (omega (arith, long, c.loop-i-test.true)) in
    record {
      long = length-set fs i lo ∙ long;
      most = omega (arith, c.saturating_sub-left.ensures, c.loop-i.invariant.most, block.within);
      bounds = below_more (λ j. IsBounded starts known m (get_or c.args.numbers.now j 0) (get_or (set fs i lo) j 0) left) i
          (λ j l. subst (λ f. IsBounded starts known m (get_or c.args.numbers.now j 0) f left) (sym (get_or-set_other fs i j lo 0 (λ e. omega (arith, e, l))))
          (bounded_more starts known m _ _ c.loop-i.left left (omega (arith, c.saturating_sub-left.ensures)) (c.loop-i.invariant.bounds j l)))
          (subst (λ f. IsBounded starts known m (get_or c.args.numbers.now i 0) f left) (sym same) (record {
            within = (let x = block.order in let y = block.within in omega (arith, x, y));
            below = block.below;
            above = λ h k l lt. block.above h k (omega (arith, l, c.saturating_sub-left.ensures, block.order)) lt;
          }));
    }

pub loop-at-preserved : goal.loop-at-preserved
loop-at-preserved c =
    let starts = start_in c.args.wide c.args.image.now in
    let known = IsImage c.args.wide c.args.image.now in
    let m = c.args.plan.spans.count in
    let at = c.loop-at.at in
    let fs = c.loop-at.from in
    let left = c.loop-i.left in
    let first = c.min.result in
    let long = c.loop-at.invariant.long in
    let same = get_or-set_same fs at first 0 (omega (arith, long, c.loop-at-test.true)) in
    record {
      long = length-set fs at first ∙ long;
      bounds = λ j l lt. subst (λ f. IsBounded starts known m (get_or c.args.numbers.now j 0) f left) (sym (get_or-set_other fs at j first 0 (λ e. omega (arith, e, l))))
          (c.loop-at.invariant.bounds j (omega (arith, l)) lt);
      counted = below_more (λ j. IsCountedBy starts known m (get_or c.args.numbers.now j 0) (get_or (set fs at first) j 0) left) at
          (λ j l. subst (λ f. IsCountedBy starts known m (get_or c.args.numbers.now j 0) f left) (sym (get_or-set_other fs at j first 0 (λ e. omega (arith, e, l)))) (c.loop-at.invariant.counted j l))
          (subst (λ f. IsCountedBy starts known m (get_or c.args.numbers.now at 0) f left) (sym (same ∙ c.min.ensures))
          (bounded_back starts known m _ _ left c.loop-i.invariant.most (c.loop-at.invariant.bounds at (omega arith) c.loop-at-test.true)));
    }
