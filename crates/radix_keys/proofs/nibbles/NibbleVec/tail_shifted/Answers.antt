use Rattle.std.proofs.Common.{◌≡◌, ◌+◌, ◌/◌, ◌%◌, [], ◌∷◌, ◌++◌, arith, ap, length, get_or, drop, lit<, refl, ◌∙◌}
use Rattle.std.proofs.lemmas.List.{length-drop, take_rest}
use Rattle.nibble_map.specs.Nibbles.{nibbles}
use Rattle.radix_keys.proofs.NibbleLemmas.Packing.{length-packed_bytes, length-packed_even}
use Rattle.radix_keys.proofs.NibbleLemmas.Cutting.{nibbles-drop_odd_odd, unpacked-drop_odd_even}
use Rattle.radix_keys.proofs.nibbles.NibbleVec.tail_shifted.Goals as goal

pub bounds-bytes-i : goal.bounds-bytes-i
bounds-bytes-i c = omega (arith, ap length c.as_slice-bytes.ensures, length-packed_bytes c.self.invariant c.self.view_is)

pub slice_bounds-push_shifted-count : goal.slice_bounds-push_shifted-count
slice_bounds-push_shifted-count c = omega (arith, ap length c.as_slice-bytes.ensures, length-packed_bytes c.self.invariant c.self.view_is)

pub slice_bounds-push_shifted-start : goal.slice_bounds-push_shifted-start
slice_bounds-push_shifted-start c = omega (arith, ap length c.as_slice-bytes.ensures, length-packed_bytes c.self.invariant c.self.view_is)

pub push_shifted-last-requires-clause-room : goal.push_shifted-last-requires-clause-room
push_shifted-last-requires-clause-room c =
    omega (
      arith,
      ap length c.in_ok-rest.ensures.items,
      c.in_ok-rest.ensures.capacity,
      c.div_ceil.ensures,
      c.len.ensures,
      ap length (take_rest c.as_slice-bytes.result.now (c.args.i / 2 + 1)),
      length-drop (c.args.i / 2 + 1) c.as_slice-bytes.result.now,
      ap length c.as_slice-bytes.ensures,
      length-packed_bytes c.self.invariant c.self.view_is,
    )

pub returns-then-self-clause-ok : goal.returns-then-self-clause-ok
returns-then-self-clause-ok c =
    let bs = c.self.inside.bytes.items in
    let shape : nibbles c.push_shifted-last.new.out.items ++ c.push_shifted-last.result ∷ []
    ≡ (get_or bs (c.args.i / 2) 0 % 16) ∷ nibbles (drop (c.args.i / 2 + 1) bs) =
    rw (c.push_shifted-last.ensures.nibbles, c.in_ok-rest.ensures.items, take_rest c.as_slice-bytes.result.now (c.args.i / 2 + 1), c.as_slice-bytes.ensures) refl in
    c.from_small.ensures ∙ rw (← c.self.view_is)
    (nibbles-drop_odd_odd bs c.self.inside.is_odd c.args.i c.push_shifted-last.result c.push_shifted-last.new.out.items
    c.self.invariant.padded c.if-self.true c.requires.odd (omega (arith, ap length c.self.view_is, c.requires.within)) shape)

pub push_reserved-requires : goal.push_reserved-requires
push_reserved-requires c = (
  lit< tt,
  omega (
    arith,
    ap length c.in_ok-rest.ensures.items,
    c.in_ok-rest.ensures.capacity,
    c.div_ceil.ensures,
    c.len.ensures,
    c.push_shifted-last.ensures.count,
    c.push_shifted-last.ensures.capacity,
    ap length (take_rest c.as_slice-bytes.result.now (c.args.i / 2 + 1)),
    length-drop (c.args.i / 2 + 1) c.as_slice-bytes.result.now,
    ap length c.as_slice-bytes.ensures,
    length-packed_even c.self.invariant c.self.view_is c.if-self.false,
  ),
)

pub returns-clause-ok : goal.returns-clause-ok
returns-clause-ok c =
    let bs = c.self.inside.bytes.items in
    let shape : nibbles c.push_shifted-last.new.out.items ++ c.push_shifted-last.result ∷ []
    ≡ (get_or bs (c.args.i / 2) 0 % 16) ∷ nibbles (drop (c.args.i / 2 + 1) bs) =
    rw (c.push_shifted-last.ensures.nibbles, c.in_ok-rest.ensures.items, take_rest c.as_slice-bytes.result.now (c.args.i / 2 + 1), c.as_slice-bytes.ensures) refl in
    rw (← c.self.view_is, c.push_reserved.ensures.items)
    (unpacked-drop_odd_even bs c.self.inside.is_odd c.args.i c.push_shifted-last.result c.push_shifted-last.new.out.items
    c.if-self.false c.requires.odd (omega (arith, ap length c.self.view_is, c.requires.within)) c.push_shifted-last.ensures.half shape)
