use Rattle.std.proofs.Common.{◌≡◌, ℕ, List, ◌+◌, ◌<◌, ◌/◌, ◌%◌, arith, ap, length, get_or, ◌∙◌}
use Rattle.radix_keys.proofs.NibbleLemmas.Packing.{length-unpacked_bytes, get_or-unpacked_even, get_or-unpacked_odd}
use Rattle.radix_keys.specs.Packing.{unpacked}
use Rattle.radix_keys.proofs.nibbles.NibbleVec.byte_from.Goals as goal

pub bounds-bytes-i : goal.bounds-bytes-i
bounds-bytes-i c =
    omega (arith, c.requires, ap length c.self.view_is, ap length c.as_slice-bytes.ensures, length-unpacked_bytes c.self.inside.bytes.items c.self.inside.is_odd c.self.invariant.padded)

pub bounds-bytes-i-2 : goal.bounds-bytes-i-2
bounds-bytes-i-2 c =
    omega (arith, c.requires, ap length c.self.view_is, ap length c.as_slice-bytes.ensures, length-unpacked_bytes c.self.inside.bytes.items c.self.inside.is_odd c.self.invariant.padded)

pub returns-then-i-eq0-clause-first : goal.returns-then-i-eq0-clause-first
returns-then-i-eq0-clause-first c =
    rw (← c.self.view_is, c.as_slice-bytes.ensures)
    (get_or-unpacked_even c.self.inside.bytes.items c.self.inside.is_odd c.args.i c.self.invariant.padded (omega (arith, c.requires, ap length c.self.view_is)) (omega arith))

pub returns-then-i-eq0-clause-second : goal.returns-then-i-eq0-clause-second
returns-then-i-eq0-clause-second c =
    let bs = c.self.inside.bytes.items in
    let same : c.args.i / 2 ≡ (c.args.i + 1) / 2 = omega arith in
    rw (← c.self.view_is, c.as_slice-bytes.ensures)
    (ap (λ k. get_or bs k 0 % 16) same
    ∙ get_or-unpacked_odd bs c.self.inside.is_odd (c.args.i + 1) c.self.invariant.padded (omega (arith, c.requires, ap length c.self.view_is)) (omega arith))

pub returns-clause-first : goal.returns-clause-first
returns-clause-first c =
    let bs = c.self.inside.bytes.items in
    let lt : c.args.i < length (unpacked bs c.self.inside.is_odd) = omega (arith, c.requires, ap length c.self.view_is) in
    let here = get_or-unpacked_odd bs c.self.inside.is_odd c.args.i c.self.invariant.padded lt (omega arith) in
    rw (← c.self.view_is, c.as_slice-bytes.ensures) (omega (arith, here, ap (λ (xs : List ℕ). get_or xs (c.args.i / 2 + 1) 0) c.as_slice-bytes.ensures))

pub returns-clause-second : goal.returns-clause-second
returns-clause-second c =
    let bs = c.self.inside.bytes.items in
    let lt : c.args.i + 1 < length (unpacked bs c.self.inside.is_odd) = omega (arith, c.requires, ap length c.self.view_is) in
    let next : c.args.i / 2 + 1 ≡ (c.args.i + 1) / 2 = omega arith in
    let here = ap (λ k. get_or bs k 0 / 16) next ∙ get_or-unpacked_even bs c.self.inside.is_odd (c.args.i + 1) c.self.invariant.padded lt (omega arith) in
    rw (← c.self.view_is, c.as_slice-bytes.ensures) (omega (arith, here, ap (λ (xs : List ℕ). get_or xs (c.args.i / 2 + 1) 0) c.as_slice-bytes.ensures))
