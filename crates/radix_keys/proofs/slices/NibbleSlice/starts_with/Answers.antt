use Rattle.std.proofs.Common.{◌≡◌, ◌++◌, length, get_or, drop, sym, ap, ◌∙◌, arith, inl, inr}
use Rattle.std.proofs.lemmas.Bool.{cases_lt, eqb-true, eq-eqb}
use Rattle.std.proofs.lemmas.List.{get_or_append_left, length-append, take_all, take-append-drop}
use Rattle.radix_keys.proofs.slices.NibbleSlice.starts_with.Goals as goal

pub returns : goal.returns
returns c =
    let same = c.agreement.result in
    let p = c.args.prefix.now in
    let xs = c.args.self.now in (
      λ t.
          let whole : same ≡ length p = eqb-true _ _ t ∙ c.len.ensures in
          (drop same xs, sym (take-append-drop same xs) ∙ ap (λ f. f ++ drop same xs) (sym c.agreement.ensures.same ∙ take_all same p (omega (arith, whole)))),
      λ (rest, is). elim (cases_lt same (length p)) [
        | inl less ↦ absurd (c.agreement.ensures.apart less (omega (arith, less, ap length is, length-append p rest)) (sym (ap (λ ys. get_or ys same 0) is ∙ get_or_append_left p rest 0 same less)))
        | inr all ↦ eq-eqb _ _ (omega (arith, all, c.agreement.ensures.within, c.len.ensures))
      ],
    )
