-- Items behind options: all of them are there.
use Rattle.std.proofs.Common.{◌≡◌, ◌≤◌, List, [], ◌∷◌, ◌++◌, length, Option, Some, None, ap, sym, subst, ◌∙◌, arith}
use Rattle.std.proofs.lemmas.List.{length-append}
use Rattle.std.proofs.lemmas.List.Elements.{filter_map-append}
use Rattle.std.specs.Iterator.{YieldsFirst}
use Rattle.std.specs.Prelude.{slice_get}
use Rattle.std.specs.List.{remove}
use Rattle.radix_trie.specs.Present.{present}

module _ {A : Type 0} where
  -- with an item pushed, the items there are those before and this one
  pub present-push : (old new : List (Option A)) (x : A) → new ≡ old ++ Some x ∷ [] → present new ≡ present old ++ x ∷ []
  present-push old new x is = ap present is ∙ filter_map-append (λ o. o) old (Some x ∷ [])

  -- where all items are there, they are with one more pushed
  pub length-present_push : (old new : List (Option A)) (x : A) → new ≡ old ++ Some x ∷ [] → length (present old) ≡ length old → length (present new) ≡ length new
  length-present_push old new x is all =
      omega (arith, all, ap length (present-push old new x is), ap length is, length-append (present old) (x ∷ []), length-append old (Some x ∷ []))

  -- the items there are no more than the options
  length-present_le : (xs : List (Option A)) → length (present xs) ≤ length xs
  length-present_le [] = omega arith
  length-present_le (None ∷ xs) = omega (arith, length-present_le xs)
  length-present_le (Some x ∷ xs) = omega (arith, length-present_le xs)

  -- where all items are there, they are without the first one
  pub length-present_rest : (old new : List (Option A)) (o : Option A) → Some o ≡ slice_get old 0 → new ≡ remove old 0
      → length (present old) ≡ length old → length (present new) ≡ length new
  length-present_rest [] new o first is all = absurd (cc)
  length-present_rest (None ∷ xs) new o first is all = absurd (omega (arith, length-present_le xs, all))
  length-present_rest (Some x ∷ xs) new o first is all = subst (λ ys. length (present ys) ≡ length ys) (sym is) (omega (arith, all))

  -- where all items are there, the first one taken out is the first of the items there
  pub first_removed : (old new : List (Option A)) (o : Option A) → Some o ≡ slice_get old 0 → new ≡ remove old 0
      → length (present old) ≡ length old → YieldsFirst (λ s. s) (present old) o (present new)
  first_removed [] new o first is all = absurd (cc)
  first_removed (None ∷ xs) new o first is all = absurd (omega (arith, length-present_le xs, all))
  first_removed (Some x ∷ xs) new o first is all =
      let same : o ≡ Some x = cc in
      subst (λ p. YieldsFirst (λ s. s) (x ∷ present xs) p (present new)) (sym same) (ap (λ ys. x ∷ present ys) (sym is))
