use Rattle.std.proofs.Common.{◌≡◌, ◌+◌, ◌-◌, ◌/◌, ◌<◌, true, length, refl, ap, subst, sym, ◌∙◌, arith}
use Rattle.std.specs.Ordering.{is_lt}
use Rattle.nibble_map.specs.Lists.{IsBefore}
use Rattle.nibble_map.specs.Nibbles.{nibbles}
use Rattle.encoded_keys.specs.Codes.{code_at, is_in_front}
use Rattle.encoded_keys.proofs.CodeLemmas.Order.{before_passes}
use Rattle.encoded_keys.proofs.CodeLemmas.Parts.{fails_after, passes_before, rising_at}
use Rattle.encoded_keys.proofs.CodeLemmas.Sides.{front_passes_down}
use Rattle.image_parts.specs.Parts.{row_count}
use Rattle.flat_texts.specs.TextImages.{key_codes}
use Rattle.flat_texts.proofs.ImageLemmas.{code_side, codes_rise, length-codes, span_apart, span_behind, span_front}
use Rattle.flat_texts.proofs.search.cut.Goals as goal

pub loop-lo-init : goal.loop-lo-init
loop-lo-init c =
    let bs = c.args.image.now in
    let t = c.args.is_through in
    let q = nibbles c.args.key.now in
    let is = c.bound_of-bound.ensures.bound in
    let b = c.bound_of-bound.result in
    record {
      order = c.top_span-lo.ensures.order;
      within = c.top_span-lo.ensures.within;
      before = λ image k l. span_front bs image t q b is k (omega (arith, l, c.top_span-lo.ensures.order, c.top_span-lo.ensures.within, c.requires.plan.pairs))
          c.bound_of-bound.ensures.nibbles (c.top_span-lo.ensures.below image k l);
      after = λ image k l m. span_behind bs image t q b is k (omega (arith, m, c.requires.plan.pairs)) (λ i. (c.type_inv.image i).fits) (c.top_span-lo.ensures.above image k l m);
      apart = λ image plain l. span_apart bs image t q b is _ (omega (arith, l, c.requires.plan.pairs)) (c.top_span-lo.ensures.above image _ (omega arith) l) plain;
    }

pub loop-lo-preserved-in-Less : goal.loop-lo-preserved-in-Less
loop-lo-preserved-in-Less c =
    let bs = c.args.image.now in
    let t = c.args.is_through in
    let q = nibbles c.args.key.now in
    let mid = c.loop-lo.lo + (c.loop-lo.hi - c.loop-lo.lo) / 2 in
    record {
      order = omega (arith, c.loop-lo-test.true);
      within = c.loop-lo.invariant.within;
      before = λ image.
          let inside : mid < length (key_codes bs) = omega (arith, c.loop-lo-test.true, c.loop-lo.invariant.within, c.requires.plan.pairs, length-codes bs) in
          let within : mid < row_count bs = omega (arith, inside, length-codes bs) in
          let side = code_side bs t q mid c.side_at.result image within c.side_at.ensures in
          passes_before (is_in_front t q) (front_passes_down t q) (key_codes bs) (codes_rise bs image.pairs) mid inside (sym side.front ∙ ap is_lt c.in-Less.is);
      after = c.loop-lo.invariant.after;
      apart = c.loop-lo.invariant.apart;
    }

pub loop-lo-preserved : goal.loop-lo-preserved
loop-lo-preserved c =
    let bs = c.args.image.now in
    let t = c.args.is_through in
    let q = nibbles c.args.key.now in
    let mid = c.loop-lo.lo + (c.loop-lo.hi - c.loop-lo.lo) / 2 in
    record {
      order = omega arith;
      within = omega (arith, c.loop-lo-test.true, c.loop-lo.invariant.within);
      before = c.loop-lo.invariant.before;
      after = λ image k l m.
          let within : mid < row_count bs = omega (arith, c.loop-lo-test.true, c.loop-lo.invariant.within, c.requires.plan.pairs) in
          let side = code_side bs t q mid c.side_at.result image within c.side_at.ensures in
          fails_after (is_in_front t q) (front_passes_down t q) (key_codes bs) (codes_rise bs image.pairs) mid (sym side.front ∙ ap is_lt c.in-Greater.is) k l
          (omega (arith, m, c.requires.plan.pairs, length-codes bs));
      apart = λ image plain l.
          let within : mid < row_count bs = omega (arith, l, c.requires.plan.pairs) in
          let side = code_side bs t q mid c.side_at.result image within c.side_at.ensures in
          side.apart c.in-Greater.is plain;
    }

pub returns-in-Equal-clause-cut : goal.returns-in-Equal-clause-cut
returns-in-Equal-clause-cut c = λ image.
    let bs = c.args.image.now in
    let t = c.args.is_through in
    let q = nibbles c.args.key.now in
    let mid = c.loop-lo.lo + (c.loop-lo.hi - c.loop-lo.lo) / 2 in
    let inside : mid < length (key_codes bs) = omega (arith, c.loop-lo-test.true, c.loop-lo.invariant.within, c.requires.plan.pairs, length-codes bs) in
    let within : mid < row_count bs = omega (arith, inside, length-codes bs) in
    let side = code_side bs t q mid c.side_at.result image within c.side_at.ensures in
    let found = side.found c.in-Equal.is in
    record {
      within = omega (arith, inside);
      before = λ k l. subst (λ u. is_in_front u q (code_at (key_codes bs) k) ≡ true) (sym found.0)
          (before_passes _ q (subst (IsBefore (code_at (key_codes bs) k)) found.1 (rising_at (key_codes bs) (codes_rise bs image.pairs) k mid l inside)));
      after = fails_after (is_in_front t q) (front_passes_down t q) (key_codes bs) (codes_rise bs image.pairs) mid (sym side.front ∙ ap is_lt c.in-Equal.is);
    }

pub returns-in-Equal-clause-found : goal.returns-in-Equal-clause-found
returns-in-Equal-clause-found c = λ image plain. (
  λ _.
      let bs = c.args.image.now in
      let t = c.args.is_through in
      let q = nibbles c.args.key.now in
      let mid = c.loop-lo.lo + (c.loop-lo.hi - c.loop-lo.lo) / 2 in
      let inside : mid < length (key_codes bs) = omega (arith, c.loop-lo-test.true, c.loop-lo.invariant.within, c.requires.plan.pairs, length-codes bs) in
      let within : mid < row_count bs = omega (arith, inside, length-codes bs) in
      let side = code_side bs t q mid c.side_at.result image within c.side_at.ensures in
      (inside, (side.found c.in-Equal.is).1),
  λ _. refl,
)

pub returns-clause-cut : goal.returns-clause-cut
returns-clause-cut c = λ image. record {
  within = omega (arith, c.loop-lo.invariant.order, c.loop-lo.invariant.within, c.requires.plan.pairs, length-codes c.args.image.now);
  before = c.loop-lo.invariant.before image;
  after = λ k l m. c.loop-lo.invariant.after image k (omega (arith, l, c.loop-lo-test.false)) (omega (arith, m, c.requires.plan.pairs, length-codes c.args.image.now));
}

pub returns-clause-found : goal.returns-clause-found
returns-clause-found c = λ image plain. (
  λ no. absurd (cc no),
  λ here.
      let bs = c.args.image.now in
      let same : c.loop-lo.lo ≡ c.loop-lo.hi = omega (arith, c.loop-lo.invariant.order, c.loop-lo-test.false) in
      let inside = here.0 in
      absurd (c.loop-lo.invariant.apart image plain (omega (arith, inside, same, c.requires.plan.pairs, length-codes bs))
      (ap (code_at (key_codes bs)) (sym same) ∙ here.1)),
)
