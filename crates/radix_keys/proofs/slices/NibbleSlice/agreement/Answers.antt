use Rattle.std.proofs.Common.{◌≡◌, ◌⊎◌, ℕ, inl, inr, ◌+◌, ◌*◌, ◌/◌, ◌<◌, ◌≤◌, ap, length, min, arith}
use Rattle.std.proofs.lemmas.List.{length-take}
use Rattle.radix_keys.proofs.NibbleLemmas.Slices.{byte_count, high_half, low_half, same_bytes, same_front, same_high}
use Rattle.radix_keys.proofs.slices.NibbleSlice.agreement.Goals as goal
use Rattle.radix_keys.proofs.slices.NibbleSlice.agreement.Goals.{then-at-self-via-then-at-self, then-at-self-via-else-at-self+then-at-other}

-- where the bytes of one of two lists end, the nibbles of one of them do
none_apart : (n m at a b : ℕ) → ((n + 1) / 2 ≤ at) ⊎ ((m + 1) / 2 ≤ at) → (a ≡ 2 * at) ⊎ (a ≡ n) → (b ≡ 2 * at) ⊎ (b ≡ m) → min a b < n → min a b < m → ⊥
none_apart n m at a b ended one other l k = elim ended [
  | inl e ↦ elim one [
    | inl two ↦ elim other [ inl also ↦ omega (arith, e, two, also, l) | inr all ↦ omega (arith, e, two, all, l, k) ]
    | inr all ↦ elim other [ inl two ↦ omega (arith, e, two, all, l) | inr also ↦ omega (arith, all, also, l, k) ]
  ]
  | inr e ↦ elim one [
    | inl two ↦ elim other [ inl also ↦ omega (arith, e, two, also, k) | inr all ↦ omega (arith, e, two, all, l, k) ]
    | inr all ↦ elim other [ inl two ↦ omega (arith, e, two, all, l, k) | inr also ↦ omega (arith, all, also, l, k) ]
  ]
]

pub same_words-words-requires : goal.same_words-words-requires
same_words-words-requires c =
    let a = c.self.inside in
    let b = c.other.inside in
    let xs = c.args.self.now in
    let ys = c.args.other.now in
    let k = c.args.known in
    let both = ap length c.requires.known in
    let in_xs : k ≤ length xs = omega (arith, both, length-take k xs, length-take k ys, c.requires.inside) in
    record {
      known = same_bytes a.bytes.now a.is_odd xs b.bytes.now b.is_odd ys k c.self.view_is c.other.view_is c.requires.known c.requires.inside;
      within = omega (arith, in_xs, byte_count a.bytes.now a.is_odd xs c.self.invariant c.self.view_is);
      inside = omega (arith, c.requires.inside, byte_count b.bytes.now b.is_odd ys c.other.invariant c.other.view_is);
    }

pub count_in-requires : goal.count_in-requires
count_in-requires c =
    record { within = omega (arith, c.same_bytes-at.ensures.within, byte_count c.self.inside.bytes.now c.self.inside.is_odd c.args.self.now c.self.invariant c.self.view_is) }

pub count_in-requires-then-at-self : goal.count_in-requires-then-at-self
count_in-requires-then-at-self c =
    record { within = omega (arith, c.same_bytes-at.ensures.inside, byte_count c.other.inside.bytes.now c.other.inside.is_odd c.args.other.now c.other.invariant c.other.view_is) }

pub returns-then-at-self-clause-same : goal.returns-then-at-self-clause-same
returns-then-at-self-clause-same c =
    let a = c.self.inside in
    let b = c.other.inside in
    same_front a.bytes.now a.is_odd c.args.self.now b.bytes.now b.is_odd c.args.other.now c.same_bytes-at.result c.min.result c.self.view_is c.other.view_is c.same_bytes-at.ensures.same
    (omega (arith, c.min.ensures, c.count_in.ensures.both)) (omega (arith, c.min.ensures, c.count_in.ensures.within)) (omega (arith, c.min.ensures, c.count_in-then-at-self.ensures.within))

pub returns-then-at-self-clause-apart : goal.returns-then-at-self-clause-apart
returns-then-at-self-clause-apart c = λ l k e.
    let at = c.same_bytes-at.result in
    let bytes = byte_count c.self.inside.bytes.now c.self.inside.is_odd c.args.self.now c.self.invariant c.self.view_is in
    let others = byte_count c.other.inside.bytes.now c.other.inside.is_odd c.args.other.now c.other.invariant c.other.view_is in
    let ended : (length c.self.inside.bytes.now ≤ at) ⊎ (length c.other.inside.bytes.now ≤ at) = elim c.then-at-self.branch [
      | then-at-self-via-then-at-self w ↦ inl (omega (arith, w.if-at-self.true))
      | then-at-self-via-else-at-self+then-at-other w ↦ inr (omega (arith, w.if-at-other.true))
    ] in
    none_apart (length c.args.self.now) (length c.args.other.now) at c.count_in.result c.count_in-then-at-self.result
    (elim ended [ inl one ↦ inl (omega (arith, one, bytes)) | inr other ↦ inr (omega (arith, other, others)) ])
    c.count_in.ensures.all c.count_in-then-at-self.ensures.all (omega (arith, l, c.min.ensures)) (omega (arith, k, c.min.ensures))

pub returns-then-self-at-clause-within : goal.returns-then-self-at-clause-within
returns-then-self-at-clause-within c =
    omega (arith, c.if-at-self.false, byte_count c.self.inside.bytes.now c.self.inside.is_odd c.args.self.now c.self.invariant c.self.view_is)

pub returns-then-self-at-clause-inside : goal.returns-then-self-at-clause-inside
returns-then-self-at-clause-inside c =
    omega (arith, c.if-at-other.false, byte_count c.other.inside.bytes.now c.other.inside.is_odd c.args.other.now c.other.invariant c.other.view_is)

pub returns-then-self-at-clause-same : goal.returns-then-self-at-clause-same
returns-then-self-at-clause-same c =
    let a = c.self.inside in
    let b = c.other.inside in
    same_high a.bytes.now a.is_odd c.args.self.now b.bytes.now b.is_odd c.args.other.now c.same_bytes-at.result c.self.invariant c.self.view_is c.other.invariant c.other.view_is c.same_bytes-at.ensures.same
    (omega (arith, c.if-at-self.false, byte_count a.bytes.now a.is_odd c.args.self.now c.self.invariant c.self.view_is))
    (omega (arith, c.if-at-other.false, byte_count b.bytes.now b.is_odd c.args.other.now c.other.invariant c.other.view_is))
    c.if-self-at.true

pub returns-then-self-at-clause-apart : goal.returns-then-self-at-clause-apart
returns-then-self-at-clause-apart c = λ l m e.
    let at = c.same_bytes-at.result in
    let a = c.self.inside in
    let b = c.other.inside in
    let one = low_half a.bytes.now a.is_odd c.args.self.now c.self.invariant c.self.view_is at l in
    let other = low_half b.bytes.now b.is_odd c.args.other.now c.other.invariant c.other.view_is at m in
    c.same_bytes-at.ensures.apart (omega (arith, c.if-at-self.false)) (omega (arith, c.if-at-other.false)) (omega (arith, one, other, e, c.if-self-at.true))

pub returns-else-self-at-clause-within : goal.returns-else-self-at-clause-within
returns-else-self-at-clause-within c =
    omega (arith, c.if-at-self.false, byte_count c.self.inside.bytes.now c.self.inside.is_odd c.args.self.now c.self.invariant c.self.view_is)

pub returns-else-self-at-clause-inside : goal.returns-else-self-at-clause-inside
returns-else-self-at-clause-inside c =
    omega (arith, c.if-at-other.false, byte_count c.other.inside.bytes.now c.other.inside.is_odd c.args.other.now c.other.invariant c.other.view_is)

pub returns-else-self-at-clause-same : goal.returns-else-self-at-clause-same
returns-else-self-at-clause-same c =
    let a = c.self.inside in
    let b = c.other.inside in
    let at = c.same_bytes-at.result in
    same_front a.bytes.now a.is_odd c.args.self.now b.bytes.now b.is_odd c.args.other.now at (2 * at) c.self.view_is c.other.view_is c.same_bytes-at.ensures.same (omega arith)
    (omega (arith, c.if-at-self.false, byte_count a.bytes.now a.is_odd c.args.self.now c.self.invariant c.self.view_is))
    (omega (arith, c.if-at-other.false, byte_count b.bytes.now b.is_odd c.args.other.now c.other.invariant c.other.view_is))

pub returns-else-self-at-clause-apart : goal.returns-else-self-at-clause-apart
returns-else-self-at-clause-apart c = λ l m e.
    let at = c.same_bytes-at.result in
    let a = c.self.inside in
    let b = c.other.inside in
    let one = high_half a.bytes.now a.is_odd c.args.self.now c.self.invariant c.self.view_is at l in
    let other = high_half b.bytes.now b.is_odd c.args.other.now c.other.invariant c.other.view_is at m in
    c.if-self-at.false (omega (arith, one, other, e))
