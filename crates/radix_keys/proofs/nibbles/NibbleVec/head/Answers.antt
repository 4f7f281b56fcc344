use Rattle.std.proofs.Common.{◌≡◌, ℕ, ◌*◌, ◌/◌, ◌%◌, ◌≤◌, Bool, List, arith, ap, length, take, sym, ◌∙◌}
use Rattle.std.proofs.lemmas.List.{length-take-le, take-take}
use Rattle.nibble_map.specs.Nibbles.{nibbles}
use Rattle.radix_keys.specs.Packing.{unpacked, IsPadded}
use Rattle.radix_keys.proofs.NibbleLemmas.Packing.{length-packed_bytes}
use Rattle.radix_keys.proofs.NibbleLemmas.Cutting.{nibbles-take_even}
use Rattle.radix_keys.proofs.nibbles.NibbleVec.head.Goals as goal

-- the nibbles of the first bytes of a packed list are as many of its own
first_bytes : (made items slice bs xs : List ℕ) (odd : Bool) (k : ℕ) → made ≡ nibbles items → items ≡ take k slice → slice ≡ bs
    → IsPadded bs odd → unpacked bs odd ≡ xs → 2 * k ≤ length xs → made ≡ take (2 * k) xs
first_bytes made items slice bs xs odd k m i s padded same le =
    let half : (2 * k) / 2 ≡ k = omega arith in
    let even : (2 * k) % 2 ≡ 0 = omega arith in
    m ∙ ap nibbles (i ∙ ap (take k) s ∙ ap (λ n. take n bs) (sym half))
    ∙ nibbles-take_even bs odd (2 * k) padded even (omega (arith, ap length same))
    ∙ ap (take (2 * k)) same

pub slice_bounds-whole-end : goal.slice_bounds-whole-end
slice_bounds-whole-end c =
    sym (length-take-le c.div_ceil.result c.as_slice.result.now
    (omega (arith, c.div_ceil.ensures, ap length c.as_slice.ensures, length-packed_bytes c.self.invariant c.self.view_is)))

pub truncate-requires : goal.truncate-requires
truncate-requires c =
    omega (
      arith,
      c.div_ceil.ensures,
      ap length (first_bytes _ _ _ _ c.args.self.now c.self.inside.is_odd c.div_ceil.result c.from_small-head.ensures c.in_ok-bytes.ensures.ok
          c.as_slice.ensures c.self.invariant.padded c.self.view_is (omega (arith, c.div_ceil.ensures))),
      length-take-le (2 * c.div_ceil.result) c.args.self.now (omega (arith, c.div_ceil.ensures)),
    )

pub returns-clause-ok : goal.returns-clause-ok
returns-clause-ok c =
    c.truncate.ensures ∙ ap (take c.args.i) (first_bytes _ _ _ _ c.args.self.now c.self.inside.is_odd c.div_ceil.result c.from_small-head.ensures c.in_ok-bytes.ensures.ok
    c.as_slice.ensures c.self.invariant.padded c.self.view_is (omega (arith, c.div_ceil.ensures)))
    ∙ take-take c.args.i (2 * c.div_ceil.result) c.args.self.now (omega (arith, c.div_ceil.ensures))
