-- Blocks of numbers: those that agree in all but their last bits. Networks nest or are apart.
use Rattle.std.proofs.Common.{◌≡◌, ℕ, ◌+◌, ◌-◌, ◌*◌, ◌/◌, ◌%◌, ◌^◌, ◌≤◌, inl, inr, ap, sym, subst, ◌∙◌, arith}
use Rattle.std.proofs.lemmas.Bool.{cases_lt}
use Rattle.std.proofs.lemmas.Nat.{le-div, mod-pow-add, pow_pos, shr-shr, shr_split}
use Rattle.std.proofs.Math.Nat.{div-mul-le_self}
use Rattle.radix_keys.specs.Networks.{IsBase, AgreeIn}
use Rattle.frozen_routes.specs.Routes.{IsEarlier}

-- quotients don't fall
pub div_up : (x y e : ℕ) → x ≤ y → x / 2 ^ e ≤ y / 2 ^ e
div_up x y e h = le-div (x / 2 ^ e) y (2 ^ e) (pow_pos e) (omega (arith, h, div-mul-le_self x (2 ^ e)))

-- between two numbers of one block all are of it
pub sandwich : (x y z e : ℕ) → x ≤ y → y ≤ z → x / 2 ^ e ≡ z / 2 ^ e → x / 2 ^ e ≡ y / 2 ^ e
sandwich x y z e h k same = omega (arith, div_up x y e h, div_up y z e k, same)

-- the first number of a block is at most each of it
pub base_first : (m a e : ℕ) → m % 2 ^ e ≡ 0 → m / 2 ^ e ≡ a / 2 ^ e → m ≤ a
base_first m a e zero same =
    omega (arith, shr_split m e, zero, div-mul-le_self a (2 ^ e), ap (λ q. q * 2 ^ e) same)

-- no number of its block comes before it
pub start_is_least : (m n e : ℕ) → m ≤ n → n % 2 ^ e ≡ 0 → m / 2 ^ e ≡ n / 2 ^ e → m ≡ n
start_is_least m n e le zero same = omega (arith, le, base_first n m e zero (sym same))

-- the first number of a block is the first of a smaller one
pub finer : (m e d : ℕ) → e ≤ d → m % 2 ^ d ≡ 0 → m % 2 ^ e ≡ 0
finer m e d le none =
    let whole : d ≡ (d - e) + e = omega (arith, le) in
    let split = mod-pow-add m (d - e) e in
    let z = subst (λ k. m % 2 ^ k ≡ 0) whole none in
    omega (arith, split, z)

-- numbers that agree in more bits agree in fewer
pub coarser : (m a e d : ℕ) → e ≤ d → m / 2 ^ e ≡ a / 2 ^ e → m / 2 ^ d ≡ a / 2 ^ d
coarser m a e d le same =
    let whole : e + (d - e) ≡ d = omega (arith, le) in
    subst (λ k. m / 2 ^ k ≡ a / 2 ^ k) whole (sym (shr-shr m e (d - e)) ∙ ap (λ x. x / 2 ^ (d - e)) same ∙ shr-shr a e (d - e))

-- of two networks the earlier one begins at or before the other
pub earlier_le : (m k n j : ℕ) → IsEarlier m k n j → m ≤ n
earlier_le m k n j h = elim h [ inl l ↦ omega (arith, l) | inr e ↦ omega (arith, e.0) ]

-- of two networks that hold an address the later one has more bits
pub nested : (w m k n j a : ℕ) → IsBase w j n → IsEarlier m k n j → AgreeIn w k m a → AgreeIn w j n a → k ≤ j
nested w m k n j a base earlier p q = elim (cases_lt j k) [
  | inr le ↦ le
  | inl less ↦
      let none = finer n (w - k) (w - j) (omega (arith, less)) base.2 in
      let most = base_first n a (w - j) base.2 q in
      let least = earlier_le m k n j earlier in
      let same = start_is_least m n (w - k) least none (sandwich m n a (w - k) least most p) in
      elim earlier [ inl l ↦ absurd (omega (arith, l, same)) | inr e ↦ absurd (let l = e.1 in omega (arith, l, less)) ]
]
