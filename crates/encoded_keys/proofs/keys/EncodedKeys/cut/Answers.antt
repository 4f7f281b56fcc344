use Rattle.std.proofs.Common.{◌≡◌, ◌+◌, ◌-◌, ◌*◌, ◌<◌, inl, inr, Bool, true, false, [], length, refl, sym, ap, subst, ◌∙◌, arith}
use Rattle.std.proofs.lemmas.Bool.{cases_eq, eq-eqb, eqb-true}
use Rattle.encoded_keys.specs.Blocks.{AreLevels, IsLevel}
use Rattle.encoded_keys.specs.Codes.{code_at}
use Rattle.encoded_keys.specs.Packed.{AreHeaded}
use Rattle.encoded_keys.proofs.CodeLemmas.Levels.{cut_at_itself, cut_of_around}
use Rattle.encoded_keys.proofs.keys.EncodedKeys.cut.Goals as goal

pub cut_by_heads-requires-clause-counted : goal.cut_by_heads-requires-clause-counted
cut_by_heads-requires-clause-counted c =
    let kept = subst (λ cs. AreHeaded cs c.self.inside.heads.items c.self.inside.skips.items c.self.inside.levels.items) c.self.view_is c.self.invariant.headed in
    omega (arith, c.as_slice-heads.type_inv.1, ap length c.as_slice-heads.ensures.value, kept.level.many, kept.level.rest)

pub cut_by_heads-requires-clause-heads : goal.cut_by_heads-requires-clause-heads
cut_by_heads-requires-clause-heads c =
    let cs = c.args.self.now in
    let hs = c.self.inside.heads.items in
    let kept = subst (λ cs. AreHeaded cs hs c.self.inside.skips.items c.self.inside.levels.items) c.self.view_is c.self.invariant.headed in
    let none : length c.self.inside.levels.items ≡ 0 = sym c.self.inside.levels.ok.0 ∙ eqb-true _ _ (sym c.is_empty.ensures ∙ c.if-is_empty.true) in
    subst (λ xs. IsLevel cs 1 xs []) (sym c.as_slice-heads.ensures.value) (subst (λ ks. IsLevel cs 1 hs ks) (kept.plain none) kept.level)

pub go_down-at-requires-clause-counted : goal.go_down-at-requires-clause-counted
go_down-at-requires-clause-counted c =
    let kept = subst (λ cs. AreHeaded cs c.self.inside.heads.items c.self.inside.skips.items c.self.inside.levels.items) c.self.view_is c.self.invariant.headed in
    omega (arith, c.as_slice-heads.type_inv.1, ap length c.as_slice-heads.ensures.value, kept.level.many, kept.level.rest)

pub go_down-at-requires-clause-levels : goal.go_down-at-requires-clause-levels
go_down-at-requires-clause-levels c =
    let ls = c.self.inside.levels.items in
    let kept = subst (λ cs. AreHeaded cs c.self.inside.heads.items c.self.inside.skips.items ls) c.self.view_is c.self.invariant.headed in
    let some : 0 < length ls = elim (cases_eq (length ls) 0) [
      | inl none ↦ absurd (let no : true ≡ false = sym (eq-eqb _ _ (c.self.inside.levels.ok.0 ∙ none)) ∙ sym c.is_empty.ensures ∙ c.if-is_empty.false in cc no)
      | inr other ↦ omega (arith, other)
    ] in
    subst (AreLevels c.args.self.now) (sym c.deref-2.ensures.value) (kept.levels some)

pub returns-then-is_found-clause-cut : goal.returns-then-is_found-clause-cut
returns-then-is_found-clause-cut c =
    let found = c.go_down-at.ensures.found c.if-is_found.true in
    cut_at_itself c.args.is_through c.args.list.now c.args.self.now c.go_down-at.result.0 c.requires found.0 found.1 found.2

pub descend-requires-clause-level : goal.descend-requires-clause-level
descend-requires-clause-level c =
    let cs = c.args.self.now in
    let hs = c.self.inside.heads.items in
    let ks = c.self.inside.skips.items in
    let kept = subst (λ xs. AreHeaded xs hs ks c.self.inside.levels.items) c.self.view_is c.self.invariant.headed in
    subst (λ xs. IsLevel cs 1 xs c.deref-3.result.now) (sym c.as_slice-heads.ensures.value) (subst (λ xs. IsLevel cs 1 hs xs) (sym c.deref-3.ensures.value) kept.level)

pub descend-requires-clause-counted : goal.descend-requires-clause-counted
descend-requires-clause-counted c =
    let kept = subst (λ cs. AreHeaded cs c.self.inside.heads.items c.self.inside.skips.items c.self.inside.levels.items) c.self.view_is c.self.invariant.headed in
    omega (arith, c.as_slice-heads.type_inv.1, ap length c.as_slice-heads.ensures.value, kept.level.many, kept.level.rest)

pub returns-clause-cut : goal.returns-clause-cut
returns-clause-cut c = cut_of_around c.args.is_through c.args.list.now c.args.self.now c.descend.result.0 c.descend.ensures.around

pub returns-clause-found : goal.returns-clause-found
returns-clause-found c = λ plain. (
  λ h.
      let end = (c.descend.ensures.found h).1 in
      let back : 1 * (c.descend.result.0 + 1) - 1 ≡ c.descend.result.0 = omega arith in
      let within = end.within in
      (omega (arith, within), ap (code_at c.args.self.now) (sym back) ∙ end.same),
  λ h. by c.descend.result.1 refl plain h,
)
  where
    by : (b : Bool) → c.descend.result.1 ≡ b → c.args.is_through ≡ false
        → (c.descend.result.0 < length c.args.self.now) × (code_at c.args.self.now c.descend.result.0 ≡ c.args.list.now) → c.descend.result.1 ≡ true
    by true e plain h = e
    by false e plain h =
        let back : 1 * (c.descend.result.0 + 1) - 1 ≡ c.descend.result.0 = omega arith in
        absurd (c.descend.ensures.apart e plain (record { within = omega (arith, h.0); same = ap (code_at c.args.self.now) back ∙ h.1 }))
