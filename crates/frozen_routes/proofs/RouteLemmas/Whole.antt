-- Networks that hold all addresses of another one.
use Rattle.std.proofs.Common.{◌≡◌, ℕ, ◌+◌, ◌-◌, ◌*◌, ◌/◌, ◌^◌, ◌<◌, ◌≤◌, ◌↔◌, inl, inr, refl, sym, ap, ◌∙◌, arith}
use Rattle.std.proofs.Math.Nat.{mul-div_cancel}
use Rattle.std.proofs.Math.Pow.{pow-lt}
use Rattle.std.proofs.lemmas.Bool.{cases_lt}
use Rattle.std.proofs.lemmas.Nat.{mul-le, pow_pos, shr_split}
use Rattle.radix_keys.specs.Networks.{AgreeIn, IsBase}
use Rattle.frozen_routes.proofs.RouteLemmas.Blocks.{coarser, div_up, finer}
use Rattle.frozen_routes.proofs.RouteLemmas.Directory.{fewer_blocks, next_block, quotient_most, whole_power}

-- the first number of a block and one less than the block's size further on are of one block
same_block : (n d step : ℕ) → n ≡ n / 2 ^ d * 2 ^ d → step < 2 ^ d → (n + step) / 2 ^ d ≡ n / 2 ^ d
same_block n d step start small = elim (cases_lt (n / 2 ^ d) ((n + step) / 2 ^ d)) [
  | inl lt ↦ absurd (omega (arith, start, small, next_block (n / 2 ^ d) d, quotient_most (n + step) (n / 2 ^ d + 1) d (omega (arith, lt))))
  | inr ge ↦ omega (arith, ge, div_up n (n + step) d (omega arith))
]

-- a smaller block ends where the next one of its size begins
other_block : (n e : ℕ) → n ≡ n / 2 ^ e * 2 ^ e → (n + 2 ^ e) / 2 ^ e ≡ n / 2 ^ e + 1
other_block n e start =
    let next : n + 2 ^ e ≡ (n / 2 ^ e + 1) * 2 ^ e = omega (arith, start, next_block (n / 2 ^ e) e) in
    ap (λ a. a / 2 ^ e) next ∙ mul-div_cancel (n / 2 ^ e + 1) (pow_pos e)

-- the network of m and k bits holds each address of that of n and j bits where it holds the first and has no more bits
pub holds_all : (w k m j n : ℕ) → IsBase w k m → IsBase w j n
    → (AgreeIn w k m n × (k ≤ j)) ↔ ((a : ℕ) → a < 2 ^ w → AgreeIn w j n a → AgreeIn w k m a)
holds_all w k m j n base own = (
  λ h a fits held. let fewer = h.1 in h.0 ∙ coarser n a (w - j) (w - k) (omega (arith, fewer)) held,
  λ all.
      let first = all n own.0 refl in
      (first, elim (cases_lt j k) [ inr le ↦ le | inl lt ↦ absurd (beyond first lt all) ]),
)
  where
    beyond : AgreeIn w k m n → j < k → ((a : ℕ) → a < 2 ^ w → AgreeIn w j n a → AgreeIn w k m a) → ⊥
    beyond first lt all =
        let d = w - j in
        let e = w - k in
        let within = base.1 in
        let small : 2 ^ e < 2 ^ d = pow-lt (omega (arith, lt, within)) in
        let zero = own.2 in
        let start : n ≡ n / 2 ^ d * 2 ^ d = omega (arith, shr_split n d, zero) in
        let none = finer n e d (omega (arith, lt)) own.2 in
        let fine : n ≡ n / 2 ^ e * 2 ^ e = omega (arith, shr_split n e, none) in
        let few = fewer_blocks w j n own.1 own.0 in
        let most = mul-le (n / 2 ^ d + 1) (2 ^ d) (2 ^ j) (2 ^ d) (omega (arith, few)) (omega arith) in
        let fits : n + 2 ^ e < 2 ^ w = omega (arith, start, small, most, next_block (n / 2 ^ d) d, whole_power w j own.1) in
        let there = all (n + 2 ^ e) fits (sym (same_block n d (2 ^ e) start small)) in
        omega (arith, first, there, other_block n e fine)
