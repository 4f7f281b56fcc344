use Rattle.std.proofs.Common.{◌≡◌, ℕ, ◌+◌, ◌-◌, ◌*◌, ◌^◌, ◌<◌, inl, inr, ap, one-mul, subst, sym, arith, ◌∙◌}
use Rattle.std.proofs.lemmas.Bool.{cases_lt}
use Rattle.std.proofs.lemmas.Nat.{mul-le, shl_whole}
use Rattle.image_parts.specs.Parts.{u32_in}
use Rattle.flat_routes.specs.Images.{IsSpanOf, begin_of, start_size}
use Rattle.flat_routes.specs.Written.{ChangesWithin}
use Rattle.flat_routes.proofs.IndexLemmas.{place_next, place_up, span_there, start_kept}
use Rattle.flat_routes.proofs.WriteLemmas.{change_through, u32_stays}
use Rattle.flat_routes.proofs.index.put_cells.Goals as goal

pub span_from-span-requires-clause-before : goal.span_from-span-requires-clause-before
span_from-span-requires-clause-before c =
    let spans = c.args.spans in
    let s = start_size c.args.wide spans.is_half + 4 in
    let e = c.args.cells.rest in
    let i = c.loop-at.span in
    let same = start_kept c.args.wide spans.is_half c.args.out.now c.loop-at.out spans.at c.args.cells.at (spans.at + s * i) (λ k _ l. c.loop-at.invariant.change.before k l) (omega arith)
    (omega (arith, place_next s i, place_up s (i + 1) spans.count (omega (arith, c.loop-at.invariant.within)), c.requires.at)) in
    let whole = ap (λ n. c.loop-at.at * n) (shl_whole 1 1 e 128 (omega arith) (omega (arith, c.requires.rest)) ∙ one-mul (2 ^ e)) in
    omega (arith, same, c.loop-at.invariant.before, mul-le (c.loop-at.at - 1) (2 ^ e) c.loop-at.at (2 ^ e) (omega arith) (omega arith), whole)

pub loop-at-preserved : goal.loop-at-preserved
loop-at-preserved c =
    let wide = c.args.wide in
    let spans = c.args.spans in
    let cells = c.args.cells in
    let s = start_size wide spans.is_half + 4 in
    let e = cells.rest in
    let at = c.loop-at.at in
    let old = c.args.out.now in
    let out = c.loop-at.out in
    let new = c.put_u32.new.out in
    let so_far = c.loop-at.invariant.change in
    let put : ChangesWithin (cells.at + 4 * at) (cells.at + 4 * at + 4) out new =
    record { before = c.put_u32.ensures.before; behind = c.put_u32.ensures.behind; same_length = c.put_u32.ensures.length } in
    let same = λ (i : ℕ) (l : i < spans.count). start_kept wide spans.is_half old out spans.at cells.at (spans.at + s * i) (λ k _ m. so_far.before k m) (omega arith)
    (omega (arith, place_next s i, place_up s (i + 1) spans.count (omega (arith, l)), c.requires.at)) in
    let whole = ap (λ n. cells.low + at * n) (shl_whole 1 1 e 128 (omega arith) (omega (arith, c.requires.rest)) ∙ one-mul (2 ^ e)) in
    let found = subst (λ a. IsSpanOf (begin_of wide spans out) spans.count a c.span_from-span.result) whole c.span_from-span.ensures in
    let here = span_there (begin_of wide spans out) (begin_of wide spans old) spans.count (cells.low + at * 2 ^ e) c.span_from-span.result (λ i l. sym (same i l)) found in
    let back : at ≡ at + 1 - 1 = omega arith in
    record {
      change = change_through cells.at (cells.at + 4 * cells.count) _ _ cells.at (cells.at + 4 * cells.count) old out new so_far put (omega arith) (omega arith) (omega arith) (omega (arith, c.loop-at-test.true));
      within = here.within;
      before = (let from = here.from in let number = ap (λ n. n * 2 ^ e) back in omega (arith, from, number));
      cells = λ t l. elim (cases_lt t at) [
        | inl lt ↦ subst (IsSpanOf (begin_of wide spans old) spans.count (cells.low + t * 2 ^ e))
            (sym (u32_stays out new cells.at (cells.at + 4 * at) (λ k _ m. put.before k m) (cells.at + 4 * t) (omega arith) (omega (arith, lt)))) (c.loop-at.invariant.cells t lt)
        | inr ge ↦
            let is : at ≡ t = omega (arith, l, ge) in
            subst (λ u. IsSpanOf (begin_of wide spans old) spans.count (cells.low + u * 2 ^ e) (u32_in new (cells.at + 4 * u))) is
            (subst (IsSpanOf (begin_of wide spans old) spans.count (cells.low + at * 2 ^ e)) (sym c.put_u32.ensures.number) here)
      ];
    }
