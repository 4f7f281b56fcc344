use Rattle.std.proofs.Common.{◌≡◌, ◌+◌, ◌*◌, inl, inr, subst, sym, ◌∙◌, arith}
use Rattle.std.proofs.lemmas.Bool.{cases_lt}
use Rattle.flat_texts.specs.TextImages.{stored_count}
use Rattle.flat_texts.specs.TextWritten.{IsHeadCount}
use Rattle.flat_texts.proofs.CountLemmas.{count_kept, count_placed, counted_then, right_still, stay_by_counts, stay_plan, stay_through}
use Rattle.flat_texts.proofs.StayLemmas.{head_stays}
use Rattle.flat_texts.proofs.writing.put_counts.Goals as goal

pub next_count-count-requires-clause-plan : goal.next_count-count-requires-clause-plan
next_count-count-requires-clause-plan c = stay_plan c.args.plan c.args.out.now c.loop-at.out c.requires.layout c.loop-at.invariant.stay c.requires.plan

pub next_count-count-requires-clause-right : goal.next_count-count-requires-clause-right
next_count-count-requires-clause-right c =
    right_still c.args.plan c.args.out.now c.loop-at.out c.requires.layout c.loop-at.invariant.stay c.requires.plan c.requires.right c.requires.ends c.requires.room

pub next_count-count-requires-clause-before : goal.next_count-count-requires-clause-before
next_count-count-requires-clause-before c = λ k l.
    let own = c.loop-at.invariant.before k l in
    let same = head_stays c.args.out.now c.loop-at.out c.args.plan c.args.plan.pairs c.args.plan.keys_len c.requires.plan (next_count-count-requires-clause-plan c) c.requires.layout c.loop-at.invariant.stay (omega arith)
    k (omega (arith, l, c.loop-at.invariant.within)) in
    omega (arith, own, same)

pub overflow_cast-count : goal.overflow_cast-count
overflow_cast-count c =
    let py = stay_plan c.args.plan c.args.out.now c.loop-at.out c.requires.layout c.loop-at.invariant.stay c.requires.plan in
    let most = c.next_count-count.ensures.within in
    let count = py.pairs in
    let few = py.few in
    omega (arith, most, count, few)

pub loop-at-preserved : goal.loop-at-preserved
loop-at-preserved c =
    let plan = c.args.plan in
    let old = c.args.out.now in
    let out = c.loop-at.out in
    let new = c.put_u32.new.out in
    let at = c.loop-at.at in
    let laid = c.requires.layout in
    let counts_at = laid.counts_at in
    let keys_at = laid.keys_at in
    let px = stay_plan c.args.plan c.args.out.now c.loop-at.out c.requires.layout c.loop-at.invariant.stay c.requires.plan in
    let change = stay_by_counts plan out new (plan.counts_at + 4 * at) (plan.counts_at + 4 * at + 4) laid (omega arith) (omega (arith, counts_at, keys_at, c.loop-at-test.true))
    c.put_u32.ensures.before c.put_u32.ensures.behind c.put_u32.ensures.length in
    let py = stay_plan plan out new laid change px in
    let own = counted_then plan old out laid c.loop-at.invariant.stay c.requires.plan at c.next_count-count.result c.next_count-count.ensures in
    let here : c.next_count-count.result ≡ stored_count new at = sym (count_placed new plan at py ∙ c.put_u32.ensures.number) in
    let most = own.within in
    record {
      counts = λ t l. elim (cases_lt t at) [
        | inl lt ↦ subst (IsHeadCount old t) (sym (count_kept out new plan t px py (λ k a b. c.put_u32.ensures.before k (omega (arith, b, lt))))) (c.loop-at.invariant.counts t lt)
        | inr ge ↦ let is : at ≡ t = omega (arith, l, ge) in subst (λ s. IsHeadCount old s (stored_count new s)) is (subst (IsHeadCount old at) here own)
      ];
      stay = stay_through plan plan.pairs plan.keys_len old out new c.loop-at.invariant.stay change;
      behind = λ k l. c.put_u32.ensures.behind k (omega (arith, l, counts_at, keys_at, c.loop-at-test.true)) ∙ c.loop-at.invariant.behind k l;
      within = omega (arith, most, c.requires.plan.pairs);
      before = λ k l. let less = own.below k l in omega (arith, less);
    }
