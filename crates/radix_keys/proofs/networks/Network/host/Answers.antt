use Rattle.std.proofs.Common.{◌≡◌, ◌-◌, ◌%◌, ◌^◌, arith, ap, ◌∙◌}
use Rattle.radix_keys.proofs.networks.Network.host.Goals as goal

pub invariant_of-result : goal.invariant_of-result
invariant_of-result g c =
    let none : g.A.Address.BITS - c.BITS.result ≡ 0 = omega (arith, c.BITS.ensures) in (
      omega (arith, c.to_number.ensures.value, c.to_number.ensures.fits),
      omega (arith, c.BITS.ensures),
      ap (λ e. g.A.Address.number c.args.address % 2 ^ e) none ∙ omega arith,
    )
