use Rattle.std.proofs.Common.{length, ap, ◌∙◌}
use Rattle.encoded_keys.proofs.CodeLemmas.Reading.{as_many_ends}
use Rattle.encoded_keys.proofs.keys.EncodedKeys.len.Goals as goal

pub returns : goal.returns
returns c = c.len.ensures ∙ c.self.inside.ends.ok.0 ∙ as_many_ends c.self.inside.bytes.items c.self.inside.ends.items c.self.invariant.laid ∙ ap length c.self.view_is
