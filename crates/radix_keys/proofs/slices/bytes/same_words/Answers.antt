use Rattle.std.proofs.Common.{sym, ◌∙◌, arith}
use Rattle.radix_keys.proofs.NibbleLemmas.Words.{one_more_word}
use Rattle.radix_keys.proofs.slices.bytes.same_words.Goals as goal

pub loop-at-preserved : goal.loop-at-preserved
loop-at-preserved c = record {
  within = omega (arith, c.min-most.ensures, c.loop-at-test.true);
  inside = omega (arith, c.min-most.ensures, c.loop-at-test.true);
  same = one_more_word c.args.one.now c.args.other.now c.loop-at.at (λ k. (c.type_inv.one k).fits) (λ k. (c.type_inv.other k).fits)
      (omega (arith, c.min-most.ensures, c.loop-at-test.true)) (omega (arith, c.min-most.ensures, c.loop-at-test.true))
      c.loop-at.invariant.same (sym c.word_at.ensures ∙ c.if-word_at.true ∙ c.word_at-in-loop-at.ensures);
}
