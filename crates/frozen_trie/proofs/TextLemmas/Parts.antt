-- A part of a list, from one index up to another: its first item, its last one, its length.
use Rattle.std.proofs.Common.{◌≡◌, ℕ, zero, suc, ◌+◌, ◌-◌, ◌<◌, ◌≤◌, List, [], ◌∷◌, ◌++◌, length, take, drop, get_or, slice_get, Some, ap, ◌∙◌, arith}
use Rattle.std.proofs.lemmas.List.{get_or-drop, length-drop, length-take-le, take_all, take_more}
use Rattle.std.proofs.lemmas.Option.{get_or_from_slice_get, slice_get_within}
use Rattle.nibble_map.proofs.MapLemmas.Edits.{not_None, same_Some}

module _ {A : Type 0} where
  -- a part begins with what stands at its first index
  pub part_first : (xs : List A) (from to : ℕ) (x : A) → from < to → slice_get xs from ≡ Some x
      → take (to - from) (drop from xs) ≡ x ∷ take (to - (from + 1)) (drop (from + 1) xs)
  part_first [] from to x l e = absurd (not_None x e)
  part_first (y ∷ xs) zero to x l e =
      let n : to - 0 ≡ suc (to - (0 + 1)) = omega (arith, l) in
      ap (λ k. take k (y ∷ xs)) n ∙ ap (λ z. z ∷ take (to - (0 + 1)) xs) (same_Some y x e)
  part_first (y ∷ xs) (suc from) to x l e =
      let less : to - suc from ≡ to - 1 - from = omega arith in
      let rest : to - 1 - (from + 1) ≡ to - (suc from + 1) = omega arith in
      let more : suc (from + 1) ≡ suc from + 1 = omega arith in
      ap (λ k. take k (drop from xs)) less
      ∙ part_first xs from (to - 1) x (omega (arith, l)) e
      ∙ ap (λ k. x ∷ take k (drop (from + 1) xs)) rest
      ∙ ap (λ k. x ∷ take (to - (suc from + 1)) (drop k (y ∷ xs))) more

  -- and it ends with what stands before its end
  pub part_last : (xs : List A) (from to : ℕ) (x : A) → from < to → slice_get xs (to - 1) ≡ Some x
      → take (to - from) (drop from xs) ≡ take (to - 1 - from) (drop from xs) ++ x ∷ []
  part_last xs from to x l e =
      let i = to - 1 - from in
      let n : to - from ≡ i + 1 = omega (arith, l) in
      let back : from + i ≡ to - 1 = omega (arith, l) in
      let within : to - 1 < length xs = slice_get_within xs (to - 1) x e in
      ap (λ k. take k (drop from xs)) n
      ∙ take_more (drop from xs) i x (omega (arith, length-drop from xs, within, l))
      ∙ ap (λ y. take i (drop from xs) ++ y ∷ []) (get_or-drop from xs i x ∙ ap (λ k. get_or xs k x) back ∙ get_or_from_slice_get xs (to - 1) x x e)

  -- it has as many items as the indices differ
  pub part_length : (xs : List A) (from to : ℕ) → from ≤ to → to ≤ length xs → length (take (to - from) (drop from xs)) ≡ to - from
  part_length xs from to l m = length-take-le (to - from) (drop from xs) (omega (arith, length-drop from xs, l, m))

  -- from 0 up to the length it is the list
  pub part_whole : (xs : List A) (to : ℕ) → length xs ≤ to → take (to - 0) (drop 0 xs) ≡ xs
  part_whole xs to l = take_all (to - 0) xs (omega (arith, l))
