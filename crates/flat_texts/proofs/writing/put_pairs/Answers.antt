use Rattle.std.proofs.Common.{◌<◌, [], length, subst, sym, ◌∙◌, arith}
use Rattle.flat_texts.specs.declared.pair.Pair.{Pair}
use Rattle.flat_texts.specs.TextWritten.{IsTextLayout}
use Rattle.flat_texts.proofs.HoldLemmas.{held_before, holds_more}
use Rattle.flat_texts.proofs.StayLemmas.{plan_kept}
use Rattle.flat_texts.proofs.WriteLemmas.{keys_more, keys_next}
use Rattle.flat_texts.proofs.writing.put_pairs.Goals as goal

pub put_pair-requires-clause-short : goal.put_pair-requires-clause-short
put_pair-requires-clause-short c =
    let none : Pair = record { key = record { ref_ptr = (0, 0); now = [] }; value = 0 } in
    let keys_len = c.requires.layout.keys_len in
    let more = keys_more c.args.pairs.now c.loop-at.at none c.loop-at-test.true in
    omega (arith, more, c.loop-at.invariant.from, keys_len)

pub loop-at-preserved : goal.loop-at-preserved
loop-at-preserved c =
    let none : Pair = record { key = record { ref_ptr = (0, 0); now = [] }; value = 0 } in
    let ps = c.args.pairs.now in
    let at = c.loop-at.at in
    let plan = c.args.plan in
    let out = c.loop-at.out in
    let new = c.put_pair.new.out in
    let laid = c.requires.layout in
    let many = laid.pairs in
    let keys_len = laid.keys_len in
    let heads_at = laid.heads_at in
    let stay = c.put_pair.ensures.stay in
    let long = stay.long in
    let kept = plan_kept out new plan (λ k l. stay.heads k (omega (arith, l, heads_at))) long c.loop-at.invariant.plan in
    let own : IsTextLayout plan.pairs plan.keys_len plan = subst (λ n. IsTextLayout n plan.keys_len plan) (sym many) (subst (λ n. IsTextLayout (length ps) n plan) (sym keys_len) laid) in
    let within : at < plan.pairs = omega (arith, c.loop-at-test.true, many) in
    let more = keys_more ps at none c.loop-at-test.true in
    record {
      plan = kept;
      from = omega (arith, c.loop-at.invariant.from, keys_next ps at none c.loop-at-test.true);
      pairs = holds_more out new plan ps at c.loop-at.from c.follow_parents-link.result none c.loop-at.invariant.plan kept own many within (omega (arith, c.requires.room, c.loop-at.invariant.long)) stay
          c.loop-at.invariant.pairs c.requires.rising c.put_pair.ensures.head c.put_pair.ensures.end c.put_pair.ensures.link c.put_pair.ensures.value c.put_pair.ensures.key
          (omega (arith, more, c.loop-at.invariant.from, keys_len))
          (c.follow_parents-link.ensures.last c.loop-at.invariant.pairs.right
          (held_before out ps at c.loop-at.from c.loop-at.invariant.pairs none (omega (arith, c.loop-at-test.true)) c.requires.rising c.loop-at-test.true));
      head = λ k l. stay.heads k (omega (arith, l, heads_at)) ∙ c.loop-at.invariant.head k l;
      behind = λ k l. c.put_pair.ensures.behind k l ∙ c.loop-at.invariant.behind k l;
      long = long ∙ c.loop-at.invariant.long;
    }
