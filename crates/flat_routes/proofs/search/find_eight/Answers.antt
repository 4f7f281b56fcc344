use Rattle.std.proofs.Common.{◌≡◌, ℕ, ◌+◌, ◌-◌, ◌<◌, ◌≤◌, inl, inr, get_or, subst, sym, arith, ◌∙◌}
use Rattle.std.proofs.lemmas.Bool.{cases_lt}
use Rattle.std.proofs.lemmas.List.{get_or-set_other, get_or-set_same}
use Rattle.std.proofs.Math.ListN.{length-set, set}
use Rattle.frozen_routes.specs.Routes.{IsLongestRow}
use Rattle.flat_routes.specs.Images.{found_row, image_rows, start_in, width}
use Rattle.flat_routes.proofs.SpanLemmas.{counted_parted}
use Rattle.flat_routes.proofs.search.find_eight.Goals as goal

pub loop-i-preserved : goal.loop-i-preserved
loop-i-preserved c =
    let wide = c.args.wide in
    let bs = c.args.image.now in
    let i = c.loop-i.i in
    let at = c.args.at + i in
    let fs = c.loop-i.found in
    let r = c.answer_before.result in
    let asked = c.args.numbers.now in
    let long = c.loop-i.invariant.long in
    let same = get_or-set_same fs at r 0 (omega (arith, long, c.loop-i-test.true, c.requires.room)) in
    let other = λ (k : ℕ) (l : k < at). get_or-set_other fs at k r 0 (λ e. omega (arith, e, l)) in
    let Is : ℕ → ℕ → Type 0 = λ k f. IsLongestRow (width wide) (λ n. n) (image_rows wide bs) (get_or asked (k - c.args.at) 0) (found_row wide bs f) in
    let index : i ≡ at - c.args.at = omega arith in
    record {
      long = length-set fs at r ∙ long;
      within = λ k from to. elim (cases_lt k at) [
        | inl lt ↦ let le = c.loop-i.invariant.within k from lt in omega (arith, other k lt, le)
        | inr ge ↦
            let is : at ≡ k = omega (arith, to, ge) in
            subst (λ j. get_or (set fs at r) j 0 ≤ c.args.plan.rows.rows) is (omega (arith, same, c.answer_before.ensures.within))
      ];
      rows = λ image k from to. elim (cases_lt k at) [
        | inl lt ↦ subst (Is k) (sym (other k lt)) (c.loop-i.invariant.rows image k from lt)
        | inr ge ↦
            let is : at ≡ k = omega (arith, to, ge) in
            subst (λ j. Is j (get_or (set fs at r) j 0)) is (subst (Is at) (sym same)
            (subst (λ n. IsLongestRow (width wide) (λ m. m) (image_rows wide bs) (get_or asked n 0) (found_row wide bs r)) index
            (c.answer_before.ensures.row (get_or asked i 0) (c.requires.fit i c.loop-i-test.true) image
            (counted_parted (start_in wide bs) _ c.args.plan.spans.count (get_or asked i 0) _ image (c.counts_of-counts.ensures.counts i c.loop-i-test.true)))))
      ];
      before = λ k l. other k (omega (arith, l)) ∙ c.loop-i.invariant.before k l;
      behind = λ k l. get_or-set_other fs at k r 0 (λ e. omega (arith, e, l)) ∙ c.loop-i.invariant.behind k (omega (arith, l));
    }
