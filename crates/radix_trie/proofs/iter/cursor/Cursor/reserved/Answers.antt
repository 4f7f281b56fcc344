use Rattle.std.proofs.Common.{[], ◌∷◌, ◌++◌, ap, length, length-append, suc, vec_capacity, subst, sym, arith}
use Rattle.radix_trie.specs.Walks.{HasRowRoom, left_rows}
use Rattle.radix_trie.proofs.PathLemmas.Loci.{false_is_not_true}
use Rattle.radix_trie.proofs.WalkLemmas.Back.{few-levels, room-tallest, tallest, tallest-end, tallest-next, tallest-push}
use Rattle.radix_trie.proofs.iter.cursor.Cursor.reserved.Goals as goal

pub returns-in_err-most-clause-none : goal.returns-in_err-most-clause-none
returns-in_err-most-clause-none g c = λ few.
    let self = c.self.inside in
    absurd (false_is_not_true (c.in_err-most.ensures.low
    (omega (arith, few, ap length c.self.view_is, few-levels (self.stack.items ++ self.at ∷ []) c.self.invariant, tallest-push self.stack.items self.at))))

pub loop-rest-init : goal.loop-rest-init
loop-rest-init g c = omega (arith, tallest-push c.deref-rest-items.result.now c.self.inside.at, c.in_ok-most.ensures.count)

pub returns-in_err-tall-clause-none : goal.returns-in_err-tall-clause-none
returns-in_err-tall-clause-none g c = λ few.
    let self = c.self.inside in
    absurd (false_is_not_true (c.in_err-tall.ensures.low
    (omega (
      arith,
      few,
      ap length c.self.view_is,
      few-levels (self.stack.items ++ self.at ∷ []) c.self.invariant,
      ap (λ rs. tallest (rs ++ self.at ∷ [])) c.deref-rest-items.ensures.value,
      c.loop-rest.invariant,
      tallest-next c.deref-rest-items.result.now c.loop-rest.rest-index c.rest-item.result c.loop-rest-test.true c.rest-item.is,
    ))))

pub returns-in_err-reserve-clause-none : goal.returns-in_err-reserve-clause-none
returns-in_err-reserve-clause-none g c = λ few.
    let self = c.self.inside in
    let most = tallest-end self.stack.items c.deref-rest-items.result.now self.at c.loop-rest.rest-index c.loop-rest.most c.deref-rest-items.ensures.value
    (omega (arith, c.loop-rest-test.false, c.loop-rest.auto.rest-index-end)) c.loop-rest.invariant in
    absurd (false_is_not_true (c.in_err-reserve.ensures.succeeds
    (omega (arith, few, ap length c.self.view_is, few-levels (self.stack.items ++ self.at ∷ []) c.self.invariant, most, c.saturating_sub.ensures, self.stack.ok.1))))

pub invariant_of-result : goal.invariant_of-result
invariant_of-result g c =
    let self = c.self.inside in
    let most = tallest-end self.stack.items c.deref-rest-items.result.now self.at c.loop-rest.rest-index c.loop-rest.most c.deref-rest-items.ensures.value
    (omega (arith, c.loop-rest-test.false, c.loop-rest.auto.rest-index-end)) c.loop-rest.invariant in
    subst (λ rs. HasRowRoom (suc (vec_capacity c.reserve.new.self)) 0 (left_rows (rs ++ self.at ∷ []))) (sym c.in_ok-reserve.ensures.items)
    (room-tallest c.saturating_sub.result (vec_capacity c.reserve.new.self) 0 (self.stack.items ++ self.at ∷ []) (omega (arith, most, c.saturating_sub.ensures))
    (omega (arith, c.in_ok-reserve.ensures.ok, c.in_ok-reserve.ensures.len, length-append self.stack.items (self.at ∷ []), self.stack.ok.0)))
