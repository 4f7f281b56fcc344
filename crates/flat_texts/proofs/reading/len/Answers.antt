use Rattle.std.proofs.Common.{sym, ◌∙◌}
use Rattle.flat_texts.proofs.MapLemmas.{length-pairs}
use Rattle.flat_texts.proofs.reading.len.Goals as goal

pub returns-in-Ok : goal.returns-in-Ok
returns-in-Ok c = λ image. c.in-Ok.ensures.plan.pairs ∙ sym (length-pairs c.args.image.now)
