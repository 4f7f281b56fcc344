use Rattle.std.proofs.Common.{◌≡◌, suc, ◌+◌, ◌-◌, ◌*◌, ◌/◌, ◌<◌, ◌≤◌, inl, inr, true, false, length, take, refl, sym, ap, subst, ◌∙◌, arith}
use Rattle.std.proofs.lemmas.Bool.{cases_eq, cases_lt}
use Rattle.nibble_map.specs.Lists.{IsBefore}
use Rattle.encoded_keys.specs.Codes.{is_in_front}
use Rattle.encoded_keys.proofs.CodeLemmas.Order.{before_passes}
use Rattle.std.specs.Ordering.{is_lt}
use Rattle.encoded_keys.proofs.CodeLemmas.Blocks.{behind_from, block_rises, code_in, front_up_to}
use Rattle.encoded_keys.proofs.CodeLemmas.Sides.{agree_less, between_agrees}
use Rattle.encoded_keys.proofs.keys.EncodedKeys.count_by_bytes.Goals as goal

pub loop-lo-init : goal.loop-lo-init
loop-lo-init c = record {
  order = omega arith;
  within = omega arith;
  before = λ k l. absurd (omega (arith, l));
  after = λ k l m. absurd (omega (arith, l, m));
  low_inside = c.requires.shared.long;
  low_same = λ k e. absurd (cc e);
  low_none = λ e. refl;
  high_same = λ l. absurd (omega (arith, l));
  high_none = λ l. refl;
  apart = λ f l. absurd (omega (arith, l));
}

pub side-side-requires-clause-within : goal.side-side-requires-clause-within
side-side-requires-clause-within c = omega (arith, c.loop-lo-test.true, c.loop-lo.invariant.within)

pub side-side-requires-clause-inside : goal.side-side-requires-clause-inside
side-side-requires-clause-inside c = omega (arith, c.min.ensures, c.loop-lo.invariant.low_inside)

pub side-side-requires-clause-known : goal.side-side-requires-clause-known
side-side-requires-clause-known c =
    let cs = c.args.self.now in
    let q = c.args.sought.now.list.now in
    let b = c.args.block.now in
    let code = code_in cs b.first b.step in
    let lo = c.loop-lo.lo in
    let hi = c.loop-lo.hi in
    let mid = lo + (hi - lo) / 2 in
    let n = c.min.result in
    let inside : mid < length b.heads.now = omega (arith, c.loop-lo-test.true, c.loop-lo.invariant.within) in
    let least : n ≤ c.loop-lo.low = omega (arith, c.min.ensures) in
    let most : n ≤ c.loop-lo.high = omega (arith, c.min.ensures) in
    elim (cases_eq lo 0) [
      | inl z ↦
          let few : n ≤ c.args.known = (let low = c.loop-lo.invariant.low_none z in omega (arith, least, low)) in
          agree_less n c.args.known (code mid) q few (c.requires.shared.same mid inside)
      | inr some ↦ elim (cases_lt hi (length b.heads.now)) [
        | inr past ↦
            let few : n ≤ c.args.known = (let high = c.loop-lo.invariant.high_none past in omega (arith, most, high)) in
            agree_less n c.args.known (code mid) q few (c.requires.shared.same mid inside)
        | inl within ↦
            let back : lo ≡ suc (lo - 1) = omega (arith, some) in
            between_agrees n (code (lo - 1)) (code mid) (code hi) q (omega (arith, least, c.loop-lo.invariant.low_inside))
            (block_rises cs c.requires.rising b.heads.now b.first b.step (2 * b.skip) c.requires.block (lo - 1) mid (omega (arith, some)) inside)
            (block_rises cs c.requires.rising b.heads.now b.first b.step (2 * b.skip) c.requires.block mid hi (omega (arith, c.loop-lo-test.true)) within)
            (agree_less n c.loop-lo.low (code (lo - 1)) q least (c.loop-lo.invariant.low_same (lo - 1) back))
            (agree_less n c.loop-lo.high (code hi) q most (c.loop-lo.invariant.high_same within))
      ]
    ]

pub loop-lo-preserved-in-Less : goal.loop-lo-preserved-in-Less
loop-lo-preserved-in-Less c =
    let cs = c.args.self.now in
    let q = c.args.sought.now.list.now in
    let t = c.args.sought.now.is_through in
    let b = c.args.block.now in
    let code = code_in cs b.first b.step in
    let mid = c.loop-lo.lo + (c.loop-lo.hi - c.loop-lo.lo) / 2 in
    let same = c.side-side.result.1 in
    let inside : mid < length b.heads.now = omega (arith, c.loop-lo-test.true, c.loop-lo.invariant.within) in
    let here : is_in_front t q (code mid) ≡ true = sym c.side-side.ensures.side.front ∙ ap is_lt c.in-Less.is in
    record {
      order = omega (arith, c.loop-lo-test.true);
      within = c.loop-lo.invariant.within;
      before = front_up_to cs c.requires.rising b.heads.now b.first b.step (2 * b.skip) c.requires.block t q mid inside here;
      after = c.loop-lo.invariant.after;
      low_inside = c.side-side.ensures.inside;
      low_same = λ k e. (let at : mid ≡ k = omega (arith, e) in subst (λ i. take same (code i) ≡ take same q) at c.side-side.ensures.same);
      low_none = λ e. absurd (omega (arith, e));
      high_same = c.loop-lo.invariant.high_same;
      high_none = c.loop-lo.invariant.high_none;
      apart = c.loop-lo.invariant.apart;
    }

pub loop-lo-preserved : goal.loop-lo-preserved
loop-lo-preserved c =
    let cs = c.args.self.now in
    let q = c.args.sought.now.list.now in
    let t = c.args.sought.now.is_through in
    let b = c.args.block.now in
    let mid = c.loop-lo.lo + (c.loop-lo.hi - c.loop-lo.lo) / 2 in
    let inside : mid < length b.heads.now = omega (arith, c.loop-lo-test.true, c.loop-lo.invariant.within) in
    let here : is_in_front t q (code_in cs b.first b.step mid) ≡ false = sym c.side-side.ensures.side.front ∙ ap is_lt c.in-Greater.is in
    record {
      order = omega arith;
      within = omega (arith, inside);
      before = c.loop-lo.invariant.before;
      after = behind_from cs c.requires.rising b.heads.now b.first b.step (2 * b.skip) c.requires.block t q mid here;
      low_inside = c.loop-lo.invariant.low_inside;
      low_same = c.loop-lo.invariant.low_same;
      low_none = c.loop-lo.invariant.low_none;
      high_same = λ l. c.side-side.ensures.same;
      high_none = λ l. absurd (omega (arith, l, inside));
      apart = λ f l. c.side-side.ensures.side.apart c.in-Greater.is f;
    }

pub returns-in-Equal : goal.returns-in-Equal
returns-in-Equal c =
    let cs = c.args.self.now in
    let t = c.args.sought.now.is_through in
    let q = c.args.sought.now.list.now in
    let b = c.args.block.now in
    let code = code_in cs b.first b.step in
    let mid = c.loop-lo.lo + (c.loop-lo.hi - c.loop-lo.lo) / 2 in
    let inside : mid < length b.heads.now = omega (arith, c.loop-lo-test.true, c.loop-lo.invariant.within) in
    let found = c.side-side.ensures.side.found c.in-Equal.is in
    record {
      within = omega (arith, inside);
      before = λ i l. subst (λ u. is_in_front u q (code i) ≡ true) (sym found.0)
          (before_passes _ q (subst (IsBefore (code i)) found.1 (block_rises cs c.requires.rising b.heads.now b.first b.step (2 * b.skip) c.requires.block i mid l inside)));
      after = behind_from cs c.requires.rising b.heads.now b.first b.step (2 * b.skip) c.requires.block t q mid (sym c.side-side.ensures.side.front ∙ ap is_lt c.in-Equal.is);
      found = λ _. (found.0, inside, found.1);
      apart = λ f. absurd (cc f);
    }
