use Rattle.std.proofs.Common.{◌≡◌, ◌-◌, ◌/◌, ◌++◌, [], ◌∷◌, arith, ap, length, get_or, take, true, false, lit<, refl}
use Rattle.std.proofs.lemmas.List.{length-append}
use Rattle.nibble_map.specs.Nibbles.{nibbles}
use Rattle.radix_keys.proofs.NibbleLemmas.Packing.{length-packed_bytes, length-packed_even}
use Rattle.radix_keys.proofs.NibbleLemmas.Cutting.{nibbles-append_odd_odd, unpacked-append_odd_even, flag_is_odd}
use Rattle.radix_keys.proofs.nibbles.NibbleVec.append_shifted.Goals as goal

pub returns-in_err-reserve-clause-succeeds : goal.returns-in_err-reserve-clause-succeeds
returns-in_err-reserve-clause-succeeds c = λ short.
    let refused : false ≡ true = c.in_err-reserve.ensures.succeeds
    (omega (arith, length-packed_bytes c.self.invariant c.self.view_is, c.self.invariant.is_inline, c.len.ensures, length-append c.args.self.now c.args.other.now)) in
    cc

pub push_shifted-last-requires-clause-room : goal.push_shifted-last-requires-clause-room
push_shifted-last-requires-clause-room c =
    omega (
      arith,
      length-packed_bytes c.self.invariant c.self.view_is,
      length-packed_bytes c.other.invariant c.other.view_is,
      c.len.ensures,
      c.in_ok-reserve.ensures.ok,
      ap length c.in_ok-reserve.ensures.items,
      c.len-end.ensures.value,
      c.truncate.ensures.len,
      c.truncate.ensures.capacity,
      ap length c.as_slice.ensures,
    )

pub returns-then-other-clause-ok : goal.returns-then-other-clause-ok
returns-then-other-clause-ok c =
    let bs = c.self.inside.bytes.items in
    let b = c.other.inside.bytes.items in
    let shape : nibbles c.push_shifted-last.new.out.items ++ c.push_shifted-last.result ∷ []
    ≡ nibbles (take (length bs - 1) bs) ++ (get_or bs (length bs - 1) 0 / 16) ∷ nibbles b =
    rw (c.push_shifted-last.ensures.nibbles, c.truncate.ensures.items, c.deref.ensures, c.len-end.ensures.value, c.in_ok-reserve.ensures.items, c.as_slice.ensures) refl in
    let odd = flag_is_odd bs c.self.inside.is_odd (omega (arith, ap length c.self.view_is, c.requires)) in
    rw (← c.self.view_is, ← c.other.view_is)
    (nibbles-append_odd_odd bs b c.push_shifted-last.new.out.items c.self.inside.is_odd c.other.inside.is_odd c.push_shifted-last.result
    odd c.if-other.true c.self.invariant.padded c.other.invariant.padded shape)

pub push_reserved-requires : goal.push_reserved-requires
push_reserved-requires c = (
  lit< tt,
  omega (
    arith,
    length-packed_bytes c.self.invariant c.self.view_is,
    length-packed_even c.other.invariant c.other.view_is c.if-other.false,
    c.len.ensures,
    c.in_ok-reserve.ensures.ok,
    ap length c.in_ok-reserve.ensures.items,
    c.len-end.ensures.value,
    c.truncate.ensures.len,
    c.truncate.ensures.capacity,
    c.push_shifted-last.ensures.count,
    c.push_shifted-last.ensures.capacity,
    ap length c.as_slice.ensures,
  ),
)

pub returns-clause-ok : goal.returns-clause-ok
returns-clause-ok c =
    let bs = c.self.inside.bytes.items in
    let b = c.other.inside.bytes.items in
    let shape : nibbles c.push_shifted-last.new.out.items ++ c.push_shifted-last.result ∷ []
    ≡ nibbles (take (length bs - 1) bs) ++ (get_or bs (length bs - 1) 0 / 16) ∷ nibbles b =
    rw (c.push_shifted-last.ensures.nibbles, c.truncate.ensures.items, c.deref.ensures, c.len-end.ensures.value, c.in_ok-reserve.ensures.items, c.as_slice.ensures) refl in
    let odd = flag_is_odd bs c.self.inside.is_odd (omega (arith, ap length c.self.view_is, c.requires)) in
    rw (← c.self.view_is, ← c.other.view_is, c.push_reserved.ensures.items)
    (unpacked-append_odd_even bs b c.push_shifted-last.new.out.items c.self.inside.is_odd c.other.inside.is_odd c.push_shifted-last.result
    odd c.if-other.false c.self.invariant.padded c.push_shifted-last.ensures.half shape)
