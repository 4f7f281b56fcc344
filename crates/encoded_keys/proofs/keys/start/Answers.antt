use Rattle.std.proofs.Common.{◌-◌, ◌∙◌}
use Rattle.encoded_keys.specs.Laid.{halves}
use Rattle.encoded_keys.proofs.CodeLemmas.Reading.{half_at, start_is_first, start_is_end}
use Rattle.encoded_keys.proofs.keys.start.Goals as goal

pub returns-then-at-eq0 : goal.returns-then-at-eq0
returns-then-at-eq0 c = start_is_first (halves c.args.ends.now) c.args.at c.if-at-eq0.true

pub returns-else-at-eq0 : goal.returns-else-at-eq0
returns-else-at-eq0 c = half_at c.args.ends.now (c.args.at - 1) ∙ start_is_end (halves c.args.ends.now) c.args.at c.if-at-eq0.false
