use Rattle.std.proofs.Common.{◌≡◌, arith, ap, length, true, false}
use Rattle.std.proofs.lemmas.List.{length-append}
use Rattle.radix_keys.proofs.NibbleLemmas.Packing.{length-packed_bytes, length-packed_odd, length-packed_even}
use Rattle.radix_keys.proofs.NibbleLemmas.Cutting.{unpacked-append_even}
use Rattle.radix_keys.proofs.nibbles.NibbleVec.append.Goals as goal

pub append_shifted-requires : goal.append_shifted-requires
append_shifted-requires c = omega (arith, length-packed_odd c.self.invariant c.self.view_is c.if-self.true)

pub returns-in_err-extend_from_slice-clause-succeeds : goal.returns-in_err-extend_from_slice-clause-succeeds
returns-in_err-extend_from_slice-clause-succeeds c = λ short.
    let refused : false ≡ true = c.in_err-extend_from_slice.ensures.succeeds
    (omega (
      arith,
      length-packed_even c.self.invariant c.self.view_is c.if-self.false,
      length-packed_bytes c.other.invariant c.other.view_is,
      ap length c.as_slice.ensures,
      length-append c.args.self.now c.args.other.now,
    )) in
    cc

pub returns-clause-ok : goal.returns-clause-ok
returns-clause-ok c =
    rw (← c.self.view_is, ← c.other.view_is, c.in_ok-extend_from_slice.ensures.ok, c.as_slice.ensures)
    (unpacked-append_even c.self.inside.bytes.items c.other.inside.bytes.items c.self.inside.is_odd c.other.inside.is_odd c.if-self.false c.other.invariant.padded)
