use Rattle.std.proofs.Common.{◌≡◌, ℕ, suc, ◌+◌, ◌-◌, ◌*◌, ◌^◌, ◌<◌, ◌≤◌, List, length, refl, sym, ap, subst, ◌∙◌, arith}
use Rattle.std.proofs.Math.Nat.{mul-le-mul_left, mul-le-mul_right, pow-suc}
use Rattle.std.proofs.lemmas.Option.{slice_get_read}
use Rattle.encoded_keys.specs.Blocks.{AreFurther, IsAround, IsEndOf, IsLevel}
use Rattle.encoded_keys.proofs.CodeLemmas.Levels.{around_all}
use Rattle.encoded_keys.proofs.keys.EncodedKeys.go_down.Goals as goal

pub loop-left-init : goal.loop-left-init
loop-left-init c = record { within = omega arith; around = around_all _ _ _ _ c.requires.levels.few }

pub descend-next-requires-clause-level : goal.descend-next-requires-clause-level
descend-next-requires-clause-level c =
    let l = c.index-levels-left.result in
    let is = c.requires.levels.each (c.loop-left.left - 1) l (slice_get_read c.args.levels.now (length c.args.levels.now) (c.loop-left.left - 1) l refl (omega (arith, c.loop-left.invariant.within, c.loop-left-test.true)) c.index-levels-left.is) in
    subst (λ hs. IsLevel c.args.self.now l.step hs c.as_slice-in-loop-left.result.now) (sym c.as_slice.ensures.value)
    (subst (λ ks. IsLevel c.args.self.now l.step l.heads.items ks) (sym c.as_slice-in-loop-left.ensures.value) is.1.0)

pub descend-next-requires-clause-more : goal.descend-next-requires-clause-more
descend-next-requires-clause-more c = λ _.
    let l = c.index-levels-left.result in
    let cs = c.args.self.now in
    let is = c.requires.levels.each (c.loop-left.left - 1) l (slice_get_read c.args.levels.now (length c.args.levels.now) (c.loop-left.left - 1) l refl (omega (arith, c.loop-left.invariant.within, c.loop-left-test.true)) c.index-levels-left.is) in
    subst (λ hs. AreFurther cs l.step (length hs) c.as_slice-in-loop-left.result.now c.deref.result.now) (sym c.as_slice.ensures.value)
    (subst (λ ks. AreFurther cs l.step (length l.heads.items) ks c.deref.result.now) (sym c.as_slice-in-loop-left.ensures.value)
    (subst (AreFurther cs l.step (length l.heads.items) l.skips.items) (sym c.deref.ensures.value) is.1.1))

pub descend-next-requires-clause-around : goal.descend-next-requires-clause-around
descend-next-requires-clause-around c =
    let l = c.index-levels-left.result in
    let left = c.loop-left.left in
    let is = c.requires.levels.each (left - 1) l (slice_get_read c.args.levels.now (length c.args.levels.now) (c.loop-left.left - 1) l refl (omega (arith, c.loop-left.invariant.within, c.loop-left-test.true)) c.index-levels-left.is) in
    let next : suc (left - 1 + 1) ≡ left + 1 = omega (arith, c.loop-left-test.true) in
    let span : 16 ^ (left + 1) ≡ l.step * 16 = ap (λ n. 16 ^ n) (sym next) ∙ pow-suc 16 (left - 1 + 1) ∙ ap (λ n. n * 16) (sym is.0) in
    subst (λ S. IsAround c.args.sought.now.is_through c.args.sought.now.list.now c.args.self.now S c.loop-left.at) span c.loop-left.invariant.around

pub loop-left-preserved : goal.loop-left-preserved
loop-left-preserved c =
    let l = c.index-levels-left.result in
    let is = c.requires.levels.each (c.loop-left.left - 1) l (slice_get_read c.args.levels.now (length c.args.levels.now) (c.loop-left.left - 1) l refl (omega (arith, c.loop-left.invariant.within, c.loop-left-test.true)) c.index-levels-left.is) in
    record {
      within = omega (arith, c.loop-left.invariant.within);
      around = subst (λ S. IsAround c.args.sought.now.is_through c.args.sought.now.list.now c.args.self.now S c.descend-next.result.0) is.0 c.descend-next.ensures.around;
    }

-- the list is one of all
found_within : (cs : List (List ℕ)) (q : List ℕ) (S n : ℕ) → 0 < S → IsEndOf q cs S n → (1 ≤ S * (n + 1)) × (S * (n + 1) - 1 < length cs) × (n + 1 ≤ length cs)
found_within cs q S n apart end =
    let some : S * 1 ≤ S * (n + 1) = mul-le-mul_left S (omega arith) in
    let each : 1 * (n + 1) ≤ S * (n + 1) = mul-le-mul_right (n + 1) apart in
    let within = end.within in
    (omega (arith, some, apart), omega (arith, some, apart, within), omega (arith, each, within))

pub overflow_add-result : goal.overflow_add-result
overflow_add-result c =
    let l = c.index-levels-left.result in
    let is = c.requires.levels.each (c.loop-left.left - 1) l (slice_get_read c.args.levels.now (length c.args.levels.now) (c.loop-left.left - 1) l refl (omega (arith, c.loop-left.invariant.within, c.loop-left-test.true)) c.index-levels-left.is) in
    let within = (found_within _ _ l.step c.descend-next.result.0 is.1.0.apart (c.descend-next.ensures.found c.if-is_found.true).1).2 in
    omega (arith, within, c.requires.counted)

pub overflow_sub-result : goal.overflow_sub-result
overflow_sub-result c =
    let l = c.index-levels-left.result in
    let is = c.requires.levels.each (c.loop-left.left - 1) l (slice_get_read c.args.levels.now (length c.args.levels.now) (c.loop-left.left - 1) l refl (omega (arith, c.loop-left.invariant.within, c.loop-left-test.true)) c.index-levels-left.is) in
    (found_within _ _ l.step c.descend-next.result.0 is.1.0.apart (c.descend-next.ensures.found c.if-is_found.true).1).0

pub returns-then-is_found-clause-found : goal.returns-then-is_found-clause-found
returns-then-is_found-clause-found c = λ _.
    let l = c.index-levels-left.result in
    let is = c.requires.levels.each (c.loop-left.left - 1) l (slice_get_read c.args.levels.now (length c.args.levels.now) (c.loop-left.left - 1) l refl (omega (arith, c.loop-left.invariant.within, c.loop-left-test.true)) c.index-levels-left.is) in
    let found = c.descend-next.ensures.found c.if-is_found.true in
    (found.0, (found_within _ _ l.step c.descend-next.result.0 is.1.0.apart found.1).1, found.1.same)
