-- A part is borrowed on: what is said of the whole once a part of a part has come back. Assumes `Logic`.
use mathlib.Core.Path.{◌≡◌, subst}
use mathlib.Core.Bool.{Bool, true, false, not}
use Prim.Native.Nat.{ℕ, ◌≤◌, ◌<◌}
use native.Mathlib.Omega.{arith}
use lib.Dec.{T, eqb, eqb_refl, eqb→eq}
use mathlib.Core.Option.{Option, none, some}
use mathlib.Core.List.{[], ◌∷◌}
use seplogic.Ra.Ura.{Ura}
use base.Logic.{ent, sep}
use base.Fml.{GName, fex}
use types.Logic.{Logic, sem}
use types.Kit.{‵, ◌$◌, !, qed, move, use2, fpick, fpack, done}
use denote.RattleType.{RattleType}
use denote.Follow.{follows, follows_if, follows_by, follows_so, such_by, followed, follows_then}

module _ {M : Type 1} {𝓤 : Ura M} (𝓛 : Logic 𝓤) (R T U : RattleType) (F : T.Denot → R.Denot) (γ γ' : GName) where
  -- a part borrowed on: its loan, and one out of it if one was made, are one out of the whole
  pub loan_through_part : (m : Option GName) (G : U.Denot → T.Denot) (v : T.Denot)
      → ent 𝓤 (sep 𝓤 (sem 𝓛 (follows R T γ γ' F)) (sem 𝓛 (follows_if T U γ' m G v))) (sem 𝓛 (follows_if R U γ m (λ w. F (G w)) (F v)))
  unfolding follows_by
  loan_through_part none G v = followed 𝓛 R T F γ γ' v
  loan_through_part (some γ'') G v = follows_then 𝓛 R T U F G γ γ' γ''

  module _ (P : U.Denot → T.Denot → Type 0) (P₀ : T.Denot → Type 0) (Q : U.Denot → R.Denot → Type 0) (Q₀ : R.Denot → Type 0)
      (up : (w : U.Denot) (n : T.Denot) → P w n → Q w (F n)) (up₀ : (n : T.Denot) → P₀ n → Q₀ (F n)) where
    -- a part borrowed on that ends as P says is the whole borrowed so that it ends as Q says, if P gives Q
    pub promise_through_part : (m : Option GName) → ent 𝓤 (sep 𝓤 (sem 𝓛 (follows R T γ γ' F)) (sem 𝓛 (follows_so T U γ' m P P₀))) (sem 𝓛 (follows_so R U γ m Q Q₀))
    unfolding such_by
    promise_through_part m =
        qed 𝓛 (‵ (follows R T γ γ' F) ∷ ‵ (fex ((s : (U.Denot → T.Denot) × T.Denot) × ((w : U.Denot) → P w (s.0 w)) × P₀ s.1) (λ s. follows_if T U γ' m s.0.0 s.0.1)) ∷ [])
        {P = sem 𝓛 (fex ((s : (U.Denot → R.Denot) × R.Denot) × ((w : U.Denot) → Q w (s.0 w)) × Q₀ s.1) (λ s. follows_if R U γ m s.0.0 s.0.1))} (
        move ! (1 ∷ []) $ fpick ! (λ s. move ! (1 ∷ 0 ∷ []) $
        use2 𝓛 (‵ (follows_if R U γ m (λ w. F (s.0.0 w)) (F s.0.1))) (loan_through_part m s.0.0 s.0.1) $
        fpack ! ((s : (U.Denot → R.Denot) × R.Denot) × ((w : U.Denot) → Q w (s.0 w)) × Q₀ s.1) (λ s. follows_if R U γ m s.0.0 s.0.1)
        (((λ w. F (s.0.0 w)), F s.0.1), (λ w. up w (s.0.0 w) (s.1 w)), up₀ s.0.1 s.2) $ done !))

-- two numbers that the test finds unequal differ
numbers_differ : (m n : ℕ) → T (not (eqb m n)) → m ≡ n → ⊥
numbers_differ m n t e = never (eqb m n) t (subst (λ (k : ℕ). T (eqb m k)) e (eqb_refl m))
  where
    never : (b : Bool) → T (not b) → T b → ⊥
    never true t u = absurd t
    never false t u = absurd u

-- of two numbers that the test finds unequal, the one that is at most the other is less
pub less_by_eqb : (m n : ℕ) → T (not (eqb m n)) → n ≤ m → n < m
less_by_eqb m n t le = let d = numbers_differ m n t in omega arith

-- two numbers that the test finds equal are one
pub equal_by_eqb : (m n : ℕ) → T (eqb m n) → m ≡ n
equal_by_eqb m n t = eqb→eq m n t
