use Rattle.std.proofs.Common.{◌≡◌, ◌/◌, arith, ap, length, true, false}
use Rattle.std.proofs.lemmas.List.{length-drop, take_rest}
use Rattle.radix_keys.proofs.NibbleLemmas.Packing.{length-packed_bytes}
use Rattle.radix_keys.proofs.NibbleLemmas.Cutting.{padded-drop, unpacked-drop_even}
use Rattle.radix_keys.proofs.nibbles.NibbleVec.tail.Goals as goal

pub slice_bounds-from_slice-count : goal.slice_bounds-from_slice-count
slice_bounds-from_slice-count c = omega (arith, ap length c.as_slice.ensures, length-packed_bytes c.self.invariant c.self.view_is)

pub slice_bounds-from_slice-start : goal.slice_bounds-from_slice-start
slice_bounds-from_slice-start c = omega (arith, ap length c.as_slice.ensures, length-packed_bytes c.self.invariant c.self.view_is)

pub returns-in_err-bytes-clause-succeeds : goal.returns-in_err-bytes-clause-succeeds
returns-in_err-bytes-clause-succeeds c = λ short.
    let refused : false ≡ true = c.in_err-bytes.ensures.succeeds
    (omega (
      arith,
      ap length (take_rest c.as_slice.result.now (c.args.i / 2)),
      length-drop (c.args.i / 2) c.as_slice.result.now,
      length-drop c.args.i c.args.self.now,
      ap length c.as_slice.ensures,
      length-packed_bytes c.self.invariant c.self.view_is,
    )) in
    cc

pub invariant_of-result : goal.invariant_of-result
invariant_of-result c = record {
  is_inline = c.spilled.ensures.at_least_inline;
  padded = rw (c.in_ok-bytes.ensures.ok, take_rest c.as_slice.result.now (c.args.i / 2), c.as_slice.ensures)
      (padded-drop c.self.inside.bytes.items c.self.inside.is_odd c.args.i c.self.invariant.padded (omega arith) (omega (arith, ap length c.self.view_is)));
}

pub returns-clause-ok : goal.returns-clause-ok
returns-clause-ok c =
    rw (c.in_ok-bytes.ensures.ok, take_rest c.as_slice.result.now (c.args.i / 2), c.as_slice.ensures, ← c.self.view_is)
    (unpacked-drop_even c.self.inside.bytes.items c.self.inside.is_odd c.args.i c.self.invariant.padded (omega arith) (omega (arith, ap length c.self.view_is)))
