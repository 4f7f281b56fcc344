use Rattle.std.proofs.Common.{◌≡◌, arith, ap, length, true, false}
use Rattle.radix_keys.proofs.NibbleLemmas.Packing.{length-unpacked_bytes}
use Rattle.radix_keys.proofs.nibbles.NibbleVecClone.clone.Goals as goal

pub returns-in-Err : goal.returns-in-Err
returns-in-Err c = record {
  cases = λ short.
      let refused : false ≡ true = c.in-Err.ensures.succeeds
      (omega (arith, ap length c.self.view_is, ap length c.as_slice.ensures, length-unpacked_bytes c.self.inside.bytes.items c.self.inside.is_odd c.self.invariant.padded)) in
      cc;
}
