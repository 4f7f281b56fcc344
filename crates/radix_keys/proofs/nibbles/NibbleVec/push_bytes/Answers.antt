use Rattle.std.proofs.Common.{◌≡◌, ◌++◌, arith, true, false, sym, subst}
use Rattle.std.proofs.lemmas.List.{length-append}
use Rattle.radix_keys.specs.Packing.{IsPadded, unpacked}
use Rattle.nibble_map.specs.Nibbles.{nibbles}
use Rattle.radix_keys.proofs.NibbleLemmas.Bytes.{nibbles-append, length-nibbles}
use Rattle.radix_keys.proofs.NibbleLemmas.Packing.{length-packed_even, flag_of_even}
use Rattle.radix_keys.proofs.nibbles.NibbleVec.push_bytes.Goals as goal

pub returns-in_err-extend_from_slice-clause-succeeds : goal.returns-in_err-extend_from_slice-clause-succeeds
returns-in_err-extend_from_slice-clause-succeeds c = λ short.
    let even = flag_of_even c.self.invariant c.self.view_is c.requires in
    let refused : false ≡ true = c.in_err-extend_from_slice.ensures.succeeds
    (omega (
      arith,
      short,
      length-packed_even c.self.invariant c.self.view_is even,
      length-nibbles c.args.bytes.now,
      length-append c.args.self.now (nibbles c.args.bytes.now),
    )) in
    cc

pub invariant_of-self-2 : goal.invariant_of-self-2
invariant_of-self-2 c =
    let even = flag_of_even c.self.invariant c.self.view_is c.requires in
    record {
      is_inline = omega (arith, c.in_ok-extend_from_slice.ensures.capacity, c.self.invariant.is_inline);
      padded = subst (IsPadded c.extend_from_slice.new.self.items) (sym even) tt;
    }

pub returns-clause-ok : goal.returns-clause-ok
returns-clause-ok c =
    let items = c.self.inside.bytes.items in
    let even = flag_of_even c.self.invariant c.self.view_is c.requires in
    rw (← c.self.view_is, c.in_ok-extend_from_slice.ensures.ok)
    (subst (λ odd. unpacked (items ++ c.args.bytes.now) odd ≡ unpacked items odd ++ nibbles c.args.bytes.now) (sym even) (nibbles-append items c.args.bytes.now))
