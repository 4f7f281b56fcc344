use Rattle.std.proofs.Common.{◌≡◌, ℕ, ◌+◌, ◌-◌, ◌≤◌, inl, inr, below_more, get_or, map as each, subst, sym, arith, ◌∙◌}
use Rattle.std.proofs.lemmas.Bool.{cases_lt}
use Rattle.std.proofs.lemmas.List.{get_or-set_other, get_or-set_same}
use Rattle.std.proofs.Math.ListN.{length-set, set}
use Rattle.image_parts.specs.Parts.{row_count}
use Rattle.frozen_routes.specs.Routes.{IsLongestRow}
use Rattle.flat_routes.specs.Images.{IsImage, found_row, image_rows, width}
use Rattle.flat_routes.proofs.WriteLemmas.{numbered_at}
use Rattle.flat_routes.proofs.many.find_many.Goals as goal

pub loop-at-preserved : goal.loop-at-preserved
loop-at-preserved g c =
    let wide = g.N.FlatAddress.WIDE in
    let bs = c.args.image.now in
    let asked = each g.N.FlatAddress.number c.args.addresses.now in
    let at = c.loop-at.at in
    let gs = c.find_eight.new.found in
    let eight = c.find_eight.ensures in
    let Is : ℕ → ℕ → Type 0 = λ k f. IsLongestRow (width wide) (λ n. n) (image_rows wide bs) (get_or asked k 0) (found_row wide bs f) in
    record {
      within = λ k l. elim (cases_lt k at) [
        | inl lt ↦ let le = c.loop-at.invariant.within k lt in omega (arith, eight.before k lt, le)
        | inr ge ↦ let le = eight.within k ge l in omega (arith, le, c.requires.plan.rows.rows)
      ];
      rest = λ k l. eight.behind k l ∙ c.loop-at.invariant.rest k (omega (arith, l));
      rows = λ image k l. elim (cases_lt k at) [
        | inl lt ↦ subst (Is k) (sym (eight.before k lt)) (c.loop-at.invariant.rows image k lt)
        | inr ge ↦
            let place : at + (k - at) ≡ k = omega (arith, ge) in
            let number = c.numbers_at.ensures.numbers (k - at) (omega (arith, l, ge)) in
            let has = subst (λ b. IsImage b bs) (sym c.WIDE.ensures) image in
            subst (λ j. IsLongestRow (width wide) (λ n. n) (image_rows wide bs) (get_or asked j 0) (found_row wide bs (get_or gs k 0))) place
            (subst (λ a. IsLongestRow (width wide) (λ n. n) (image_rows wide bs) a (found_row wide bs (get_or gs k 0))) number
            (subst (λ b. IsLongestRow (width b) (λ n. n) (image_rows b bs) (get_or c.numbers_at.result (k - at) 0) (found_row b bs (get_or gs k 0))) c.WIDE.ensures
            (eight.rows has k ge l)))
      ];
      long = eight.length ∙ c.loop-at.invariant.long;
      most = omega (arith, c.loop-at-test.true);
    }

pub loop-i-preserved : goal.loop-i-preserved
loop-i-preserved g c =
    let wide = g.N.FlatAddress.WIDE in
    let bs = c.args.image.now in
    let asked = each g.N.FlatAddress.number c.args.addresses.now in
    let i = c.loop-i.i in
    let fs = c.loop-i.found in
    let r = c.find.result in
    let long = c.loop-i.invariant.long in
    let same = get_or-set_same fs i r 0 (omega (arith, long, c.loop-i-test.true, c.requires.room)) in
    let Is : ℕ → ℕ → Type 0 = λ k f. IsLongestRow (width wide) (λ n. n) (image_rows wide bs) (get_or asked k 0) (found_row wide bs f) in
    record {
      within = below_more (λ k. get_or (set fs i r) k 0 ≤ row_count bs) i
          (λ k l. let other = get_or-set_other fs i k r 0 (λ e. omega (arith, e, l)) in let le = c.loop-i.invariant.within k l in omega (arith, other, le))
          (omega (arith, same, c.find.ensures.within, c.requires.plan.rows.rows));
      rest = λ k l. get_or-set_other fs i k r 0 (λ e. omega (arith, e, l)) ∙ c.loop-i.invariant.rest k (omega (arith, l));
      rows = λ image. below_more (λ k. Is k (get_or (set fs i r) k 0)) i
          (λ k l. subst (Is k) (sym (get_or-set_other fs i k r 0 (λ e. omega (arith, e, l)))) (c.loop-i.invariant.rows image k l))
          (subst (Is i) (sym same)
          (subst (λ a. IsLongestRow (width wide) (λ n. n) (image_rows wide bs) a (found_row wide bs r))
          (sym (numbered_at g.N.FlatAddress.number c.args.addresses.now i c.index-addresses-i.result (omega (arith, c.loop-i-test.true, c.requires.asked)) c.index-addresses-i.is ∙ sym c.number.ensures.value))
          (subst (λ b. IsLongestRow (width b) (λ n. n) (image_rows b bs) c.number.result (found_row b bs r)) c.WIDE-in-loop-i.ensures (c.find.ensures.row (subst (λ b. IsImage b bs) (sym c.WIDE-in-loop-i.ensures) image)))));
      long = length-set fs i r ∙ long;
    }
