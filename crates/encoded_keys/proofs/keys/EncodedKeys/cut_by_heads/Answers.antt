use Rattle.std.proofs.Common.{length, sym, ap, subst, arith}
use Rattle.encoded_keys.specs.Blocks.{IsBlock}
use Rattle.encoded_keys.proofs.CodeLemmas.Plain.{plain_apart, plain_block, plain_cut, plain_rise, plain_shared}
use Rattle.encoded_keys.proofs.keys.EncodedKeys.cut_by_heads.Goals as goal

pub span-from-requires-clause-rising : goal.span-from-requires-clause-rising
span-from-requires-clause-rising c = plain_rise c.args.self.now c.args.heads.now c.requires.heads c.requires.rising

pub count_in-count-requires-clause-sought : goal.count_in-count-requires-clause-sought
count_in-count-requires-clause-sought c =
    let hs = c.args.heads.now in
    let from = c.span-from.result.0 in
    let to = c.span-from.result.1 in
    record {
      block = subst (λ hs. IsBlock c.args.self.now hs from 1 0) (sym c.part.ensures)
          (plain_block c.args.self.now hs c.requires.heads from to c.span-from.ensures.order c.span-from.ensures.within (omega (arith, c.requires.counted)));
      shared = plain_shared c.args.self.now hs c.requires.heads from to c.span-from.ensures.order c.span-from.ensures.within _ c.args.sought.now.list.now;
      head = c.head_of-head.ensures.head;
      nibbles = λ k _. c.head_of-head.ensures.nibbles k;
    }

pub returns-clause-cut : goal.returns-clause-cut
returns-clause-cut c =
    let same = ap length c.part.ensures in
    let head = c.head_of-head.ensures.head in
    let got = c.count_in-count.ensures in
    plain_cut c.args.self.now c.args.heads.now c.requires.heads c.span-from.result.0 c.span-from.result.1 c.span-from.ensures.order c.span-from.ensures.within
    c.args.sought.now.is_through c.args.sought.now.list.now (λ k _. c.head_of-head.ensures.nibbles k)
    (λ k l. omega (arith, c.span-from.ensures.below k l, head)) (λ k l m. omega (arith, c.span-from.ensures.above k l m, head))
    c.count_in-count.result.0 (omega (arith, got.within, same)) got.before (λ i l m. got.after i l (omega (arith, m, same)))

pub returns-clause-apart : goal.returns-clause-apart
returns-clause-apart c = λ h plain.
    let same = ap length c.part.ensures in
    let head = c.head_of-head.ensures.head in
    let got = c.count_in-count.ensures in
    plain_apart c.args.self.now c.args.heads.now c.requires.heads c.span-from.result.0 c.span-from.result.1 c.span-from.ensures.order c.span-from.ensures.within
    c.args.sought.now.is_through c.args.sought.now.list.now (λ k _. c.head_of-head.ensures.nibbles k)
    (λ k l. omega (arith, c.span-from.ensures.below k l, head)) (λ k l m. omega (arith, c.span-from.ensures.above k l m, head))
    c.count_in-count.result.0 (omega (arith, got.within, same)) plain (λ l. got.apart h plain (omega (arith, l, same)))
