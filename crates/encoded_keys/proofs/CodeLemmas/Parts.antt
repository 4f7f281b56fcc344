-- First parts of rising codes.
use Rattle.std.proofs.Common.{◌≡◌, ℕ, zero, suc, ◌+◌, ◌<◌, ◌≤◌, inl, inr, Bool, true, false, List, [], ◌∷◌, length, refl, sym, subst, ◌∙◌, arith, get_or}
use Rattle.radix_keys.proofs.KeyLemmas.Order.{three_ways}
use Rattle.nibble_map.specs.Lists.{IsBefore, IsRising, Each, Has}
use Rattle.encoded_keys.specs.Codes.{code_at}

-- what holds of each element holds of the one at an index
pub Each-at : {A : Type 0} (Q : A → Type 0) (xs : List A) (j : ℕ) (d : A) → Each Q xs → j < length xs → Q (get_or xs j d)
Each-at Q [] j d h l = absurd (omega (arith, l))
Each-at Q (x ∷ xs) zero d h l = h.0
Each-at Q (x ∷ xs) (suc j) d h l = Each-at Q xs j d h.1 (omega (arith, l))

-- an element that stands at an index, whatever stands for one past the end
pub stands_at : {A : Type 0} (xs : List A) (i : ℕ) (x d : A) → i < length xs → x ≡ get_or xs i x → x ≡ get_or xs i d
stands_at [] i x d l h = absurd (omega (arith, l))
stands_at (y ∷ xs) zero x d l h = h
stands_at (y ∷ xs) (suc i) x d l h = stands_at xs i x d (omega (arith, l)) h

-- an element of a list of codes stands at an index
pub has_index : (cs : List (List ℕ)) (x : List ℕ) → Has cs x → (k : ℕ) × (k < length cs) × (code_at cs k ≡ x)
has_index [] x h = absurd h
has_index (c ∷ cs) x (inl e) = (0, omega arith, sym e)
has_index (c ∷ cs) x (inr h) = let r = has_index cs x h in (suc r.0, omega (arith, r.1), r.2)

-- of rising codes the earlier comes before the later
pub rising_at : (cs : List (List ℕ)) → IsRising cs → (i j : ℕ) → i < j → j < length cs → IsBefore (code_at cs i) (code_at cs j)
rising_at [] h i j l k = absurd (omega (arith, k))
rising_at (c ∷ cs) h i zero l k = absurd (omega (arith, l))
rising_at (c ∷ cs) h zero (suc j) l k = Each-at (IsBefore c) cs j [] h.0 (omega (arith, k))
rising_at (c ∷ cs) h (suc i) (suc j) l k = rising_at cs h.1 i j (omega (arith, l)) (omega (arith, k))

-- a test that passes what comes before what it passes
module _ (t : List ℕ → Bool) (down : (x y : List ℕ) → IsBefore x y → t y ≡ true → t x ≡ true) (cs : List (List ℕ)) (rises : IsRising cs) where
  -- where it passes a code it passes each earlier one
  pub passes_before : (m : ℕ) → m < length cs → t (code_at cs m) ≡ true → (k : ℕ) → k < m + 1 → t (code_at cs k) ≡ true
  passes_before m within h k l = elim (three_ways k m) [
    | inl lt ↦ down _ _ (rising_at cs rises k m lt within) h
    | inr (inl e) ↦ subst (λ i. t (code_at cs i) ≡ true) (sym e) h
    | inr (inr g) ↦ absurd (omega (arith, l, g))
  ]

  -- where it fails at a code it fails at each later one
  pub fails_after : (m : ℕ) → t (code_at cs m) ≡ false → (k : ℕ) → m ≤ k → k < length cs → t (code_at cs k) ≡ false
  fails_after m h k l within = elim (three_ways k m) [
    | inl lt ↦ absurd (omega (arith, l, lt))
    | inr (inl e) ↦ subst (λ i. t (code_at cs i) ≡ false) (sym e) h
    | inr (inr g) ↦ by (t (code_at cs k)) refl g
  ]
    where
      by : (b : Bool) → t (code_at cs k) ≡ b → m < k → t (code_at cs k) ≡ false
      by false e g = e
      by true e g = absurd (let both : true ≡ false = sym (down _ _ (rising_at cs rises m k g within) e) ∙ h in cc both)
