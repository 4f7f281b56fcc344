use Rattle.std.proofs.Common.{sym, subst}
use Rattle.nibble_map.specs.Nibbles.{IsShort}
use Rattle.radix_keys.specs.Bits.{first_bits}
use Rattle.radix_keys.proofs.BitLemmas.{aligned, network_order}
use Rattle.radix_keys.proofs.networks.key.NetworkTrieKey.encode.Goals as goal

pub returns-in-Ok-clause-ok : goal.returns-in-Ok-clause-ok
returns-in-Ok-clause-ok g c =
    let base = c.self.invariant in
    rw (c.into_list.ensures, c.in-Ok.ensures.ok, c.BITS.ensures, c.to_number.ensures.value, ← c.self.view_is)
    (aligned g.A.Address.BITS (g.A.Address.number c.self.inside.base) c.self.inside.bits g.met.A.Address.bits_fit.1 base.0 base.1)

pub returns-in-Err-clause-inline : goal.returns-in-Err-clause-inline
returns-in-Err-clause-inline g c =
    let base = c.self.invariant in
    let same = aligned g.A.Address.BITS (g.A.Address.number c.self.inside.base) c.self.inside.bits g.met.A.Address.bits_fit.1 base.0 base.1 in
    λ short. c.in-Err.ensures.succeeds (rw (c.BITS.ensures, c.to_number.ensures.value) (subst IsShort (sym same) (subst (λ n. IsShort (first_bits g.A.Address.BITS (g.A.Address.number n.base) n.bits)) (sym c.self.view_is) short)))

pub returns-in-Ok-clause-order : goal.returns-in-Ok-clause-order
returns-in-Ok-clause-order g c = network_order g.A.Address.BITS

pub returns-in-Err-clause-order : goal.returns-in-Err-clause-order
returns-in-Err-clause-order g c = network_order g.A.Address.BITS
