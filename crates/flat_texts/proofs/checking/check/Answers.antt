use Rattle.std.proofs.Common.{below_more}
use Rattle.flat_texts.specs.TextImages.{IsRightPair}
use Rattle.flat_texts.proofs.checking.check.Goals as goal

pub loop-at-preserved : goal.loop-at-preserved
loop-at-preserved c = below_more (IsRightPair c.args.image.now) c.loop-at.at c.loop-at.invariant (c.is_pair.ensures.0 c.if-not-is_pair.false)
