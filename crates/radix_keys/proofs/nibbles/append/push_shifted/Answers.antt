use Rattle.std.proofs.Common.{◌+◌, ◌*◌, ◌/◌, ◌%◌, ◌++◌, [], ◌∷◌, take, get_or, length, arith, sym, ◌∙◌, ap, append_assoc}
use Rattle.std.proofs.lemmas.List.{take_more, length-append}
use Rattle.nibble_map.specs.Nibbles.{nibbles}
use Rattle.radix_keys.proofs.NibbleLemmas.Bytes.{nibbles-append, nibbles-append_shifted}
use Rattle.radix_keys.proofs.nibbles.append.push_shifted.Goals as goal

pub loop-byte-preserved : goal.loop-byte-preserved
loop-byte-preserved c =
    let b = get_or c.args.bytes.now c.loop-byte.byte-index 0 in
    let before = take c.loop-byte.byte-index c.args.bytes.now in
    record {
      shifted = ap (λ t. nibbles t ++ (b % 16) ∷ []) c.push_reserved.ensures.items
          ∙ nibbles-append_shifted c.loop-byte.out.items c.loop-byte.half b c.loop-byte.invariant.half (omega (arith, c.type_inv.bytes c.loop-byte.byte-index))
          ∙ ap (λ t. t ++ (b / 16) ∷ (b % 16) ∷ []) c.loop-byte.invariant.shifted
          ∙ append_assoc (nibbles c.args.out.now.items) (c.args.high ∷ nibbles before) ((b / 16) ∷ (b % 16) ∷ [])
          ∙ ap (λ t. nibbles c.args.out.now.items ++ c.args.high ∷ t)
          (sym (nibbles-append before (b ∷ [])) ∙ ap nibbles (sym (take_more c.args.bytes.now c.loop-byte.byte-index 0 (omega arith))));
      count = omega (arith, ap length c.push_reserved.ensures.items, length-append c.loop-byte.out.items ((c.loop-byte.half * 16 + b / 16) ∷ []), c.loop-byte.invariant.count);
      half = omega arith;
      capacity = c.push_reserved.ensures.capacity ∙ c.loop-byte.invariant.capacity;
    }
