use Rattle.std.proofs.Common.{◌≡◌, ◌+◌, ◌<◌, ◌≤◌, ◌-◌, ◌/◌, ◌%◌, arith, ap, length, get_or, take, ◌∙◌}
use Rattle.std.proofs.lemmas.List.{get_or-take}
use Rattle.radix_keys.proofs.NibbleLemmas.Packing.{length-packed_bytes}
use Rattle.radix_keys.proofs.NibbleLemmas.Cutting.{padded-append, refill-set_cut, nibbles-take_even, unpacked-take_odd}
use Rattle.radix_keys.proofs.nibbles.NibbleVec.truncate.Goals as goal

pub bounds-deref-whole : goal.bounds-deref-whole
bounds-deref-whole c = omega (arith, ap length c.deref.ensures, c.truncate-else-i-eq0.ensures.len, length-packed_bytes c.self.invariant c.self.view_is)

pub bounds-deref_mut-whole : goal.bounds-deref_mut-whole
bounds-deref_mut-whole c =
    omega (arith, ap length c.deref_mut.ensures.value, c.truncate-else-i-eq0.ensures.len, length-packed_bytes c.self.invariant c.self.view_is)

pub invariant_of-self-else-i-eq0 : goal.invariant_of-self-else-i-eq0
invariant_of-self-else-i-eq0 c =
    let b = get_or c.deref.result.now (c.args.i / 2) 0 in
    let lt : c.args.i / 2 < length c.self.inside.bytes.items = omega (arith, length-packed_bytes c.self.invariant c.self.view_is) in
    let room : 16 ≤ c.truncate-else-i-eq0.new.self.capacity = omega (arith, c.truncate-else-i-eq0.ensures.capacity, c.self.invariant.is_inline) in
    let even : (b - b % 16) % 16 ≡ 0 = omega arith in
    rw (c.deref_mut.ensures.value, refill-set_cut c.self.inside.bytes.items _ (c.args.i / 2) (b - b % 16) c.truncate-else-i-eq0.ensures.items lt)
    (record { is_inline = room; padded = padded-append (take (c.args.i / 2) c.self.inside.bytes.items) (b - b % 16) even })

pub returns-then-i-eq0 : goal.returns-then-i-eq0
returns-then-i-eq0 c =
    rw (← c.self.view_is, c.truncate.ensures.items)
    (nibbles-take_even c.self.inside.bytes.items c.self.inside.is_odd c.args.i c.self.invariant.padded (omega arith) (omega (arith, ap length c.self.view_is)))

pub returns-else-i-eq0 : goal.returns-else-i-eq0
returns-else-i-eq0 c =
    let bs = c.self.inside.bytes.items in
    let b = get_or c.deref.result.now (c.args.i / 2) 0 in
    let lt : c.args.i / 2 < length bs = omega (arith, length-packed_bytes c.self.invariant c.self.view_is) in
    let byte : b ≡ get_or bs (c.args.i / 2) 0 =
    ap (λ t. get_or t (c.args.i / 2) 0) (c.deref.ensures ∙ c.truncate-else-i-eq0.ensures.items)
    ∙ get_or-take (c.args.i / 2 + 1) bs (c.args.i / 2) 0 (omega arith) in
    rw (c.deref_mut.ensures.value, refill-set_cut bs _ (c.args.i / 2) (b - b % 16) c.truncate-else-i-eq0.ensures.items lt, ← c.self.view_is)
    (unpacked-take_odd bs c.self.inside.is_odd c.args.i b c.self.invariant.padded (omega arith) (omega (arith, ap length c.self.view_is)) lt byte)
