-- The items that pass a test, by the places of those that do.
use Rattle.std.proofs.Common.{◌≡◌, ℕ, zero, suc, ◌-◌, ◌<◌, ◌≤◌, Bool, true, false, cond, List, [], ◌∷◌, length, map as each, take, drop, get_or, refl, sym, ap, ◌∙◌, arith}
use Rattle.std.specs.List.{filter}

module _ {X : Type 0} where
  -- tests that agree on the first n items keep the same of these
  pub same_filter : (t u : X → Bool) (n : ℕ) (xs : List X) → ((k : ℕ) → k < n → k < length xs → get_or (each t xs) k false ≡ get_or (each u xs) k false)
      → filter t (take n xs) ≡ filter u (take n xs)
  same_filter t u zero xs h = refl
  same_filter t u (suc n) [] h = refl
  same_filter t u (suc n) (x ∷ xs) h =
      ap (λ b. cond b (x ∷ filter t (take n xs)) (filter t (take n xs))) (h 0 (omega arith) (omega arith))
      ∙ ap (λ l. cond (u x) (x ∷ l) l) (same_filter t u n xs (λ k l m. h (suc k) (omega (arith, l)) (omega (arith, m))))

  -- a test that fails from n up to m keeps the same of the first m items as of the first n
  pub cut_filter : (t : X → Bool) (n m : ℕ) (xs : List X) → n ≤ m → ((k : ℕ) → n ≤ k → k < m → k < length xs → get_or (each t xs) k false ≡ false)
      → filter t (take m xs) ≡ filter t (take n xs)
  cut_filter t zero zero xs l h = refl
  cut_filter t (suc n) zero xs l h = absurd (omega (arith, l))
  cut_filter t zero (suc m) [] l h = refl
  cut_filter t (suc n) (suc m) [] l h = refl
  cut_filter t zero (suc m) (x ∷ xs) l h =
      ap (λ b. cond b (x ∷ filter t (take m xs)) (filter t (take m xs))) (h 0 (omega arith) (omega arith) (omega arith))
      ∙ cut_filter t zero m xs (omega arith) (λ k a b d. h (suc k) (omega arith) (omega (arith, b)) (omega (arith, d)))
  cut_filter t (suc n) (suc m) (x ∷ xs) l h =
      ap (λ l. cond (t x) (x ∷ l) l) (cut_filter t n m xs (omega (arith, l)) (λ k a b d. h (suc k) (omega (arith, a)) (omega (arith, b)) (omega (arith, d))))

  -- a part of a list is what passes a test, where those of the part pass and no others do
  pub filter_part : (t : X → Bool) (xs : List X) (from to : ℕ) → from ≤ to → to ≤ length xs
      → ((k : ℕ) → k < from → get_or (each t xs) k false ≡ false)
      → ((k : ℕ) → from ≤ k → k < to → get_or (each t xs) k false ≡ true)
      → ((k : ℕ) → to ≤ k → k < length xs → get_or (each t xs) k false ≡ false)
      → take (to - from) (drop from xs) ≡ filter t xs
  filter_part t [] zero zero h l a b c = refl
  filter_part t [] zero (suc to) h l a b c = absurd (omega (arith, l))
  filter_part t [] (suc from) to h l a b c = absurd (omega (arith, h, l))
  filter_part t (x ∷ xs) zero zero h l a b c =
      filter_part t xs zero zero (omega arith) (omega arith) (λ k m. absurd (omega (arith, m))) (λ k m n. absurd (omega (arith, n)))
      (λ k m n. c (suc k) (omega arith) (omega (arith, n)))
      ∙ sym (ap (λ p. cond p (x ∷ filter t xs) (filter t xs)) (c 0 (omega arith) (omega arith)))
  filter_part t (x ∷ xs) zero (suc to) h l a b c =
      let one : suc to - 0 ≡ suc to = omega arith in
      let less : to ≡ to - 0 = omega arith in
      ap (λ n. take n (x ∷ xs)) one
      ∙ ap (λ ys. x ∷ ys) (ap (λ n. take n xs) less ∙ filter_part t xs zero to (omega arith) (omega (arith, l)) (λ k m. absurd (omega (arith, m)))
      (λ k m n. b (suc k) (omega arith) (omega (arith, n))) (λ k m n. c (suc k) (omega (arith, m)) (omega (arith, n))))
      ∙ sym (ap (λ p. cond p (x ∷ filter t xs) (filter t xs)) (b 0 (omega arith) (omega arith)))
  filter_part t (x ∷ xs) (suc from) zero h l a b c = absurd (omega (arith, h))
  filter_part t (x ∷ xs) (suc from) (suc to) h l a b c =
      let less : suc to - suc from ≡ to - from = omega arith in
      ap (λ n. take n (drop from xs)) less
      ∙ filter_part t xs from to (omega (arith, h)) (omega (arith, l)) (λ k m. a (suc k) (omega (arith, m)))
      (λ k m n. b (suc k) (omega (arith, m)) (omega (arith, n))) (λ k m n. c (suc k) (omega (arith, m)) (omega (arith, n)))
      ∙ sym (ap (λ p. cond p (x ∷ filter t xs) (filter t xs)) (a 0 (omega arith)))
