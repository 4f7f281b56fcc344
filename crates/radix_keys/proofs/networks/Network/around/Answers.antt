use Rattle.std.proofs.Common.{◌≡◌, ℕ, ◌-◌, ◌*◌, ◌/◌, ◌%◌, ◌^◌, ◌<◌, ◌≤◌, refl, ◌∙◌, ap, arith}
use Rattle.std.proofs.lemmas.Nat.{pow_pos}
use Rattle.std.proofs.Math.Nat.{mul-mod_left, mul-div_cancel, div-mul-le_self}
use Rattle.radix_keys.specs.Networks.{IsBase, AgreeIn}
use Rattle.radix_keys.proofs.networks.Network.around.Goals as goal

-- a number whose last bits are cleared is a base, and agrees with the first number in the bits before
base_of : (w bits n m : ℕ) → bits ≤ w → n < 2 ^ w → m ≡ n / 2 ^ (w - bits) * 2 ^ (w - bits) → IsBase w bits m × AgreeIn w bits m n
base_of w bits n m within fits is =
    let b = 2 ^ (w - bits) in
    let low : n / b * b ≤ n = div-mul-le_self n b in (
      (omega (arith, low, is, fits), within, ap (λ k. k % b) is ∙ mul-mod_left (n / b) b),
      ap (λ k. k / b) is ∙ mul-div_cancel (n / b) (pow_pos (w - bits)),
    )

pub invariant_of-result : goal.invariant_of-result
invariant_of-result g c =
    let first = rw (c.BITS-2.ensures, c.to_number.ensures.value) at (c.from_number.ensures ∙ c.with_last_cleared-first.ensures) in
    let fits = rw c.to_number.ensures.value at c.to_number.ensures.fits in
    (base_of g.A.Address.BITS c.args.bits _ _ (omega (arith, c.BITS.ensures, c.if-bits-BITS.false)) fits first).0

pub returns-clause-some : goal.returns-clause-some
returns-clause-some g c =
    let first = rw (c.BITS-2.ensures, c.to_number.ensures.value) at (c.from_number.ensures ∙ c.with_last_cleared-first.ensures) in
    let fits = rw c.to_number.ensures.value at c.to_number.ensures.fits in
    let is = base_of g.A.Address.BITS c.args.bits _ _ (omega (arith, c.BITS.ensures, c.if-bits-BITS.false)) fits first in
    (refl, is.0, is.1)
