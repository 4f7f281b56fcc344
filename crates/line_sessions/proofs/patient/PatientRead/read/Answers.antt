use Rattle.std.proofs.Common.{◌∙◌, ℕ, List, Option, None, Some, sym}
use Rattle.std.specs.Io.KnownBytes.{Consumes, Keeps}
use Rattle.line_sessions.proofs.patient.PatientRead.read.Goals as goal

-- what is consumed later is consumed of what was kept
Keeps-consumed : (a b c : Option (List ℕ)) (bytes : List ℕ) → Keeps a b → Consumes b c bytes → Consumes a c bytes
Keeps-consumed None b c bytes kept took = tt
Keeps-consumed (Some x) None c bytes kept took = absurd kept
Keeps-consumed (Some x) (Some y) None bytes kept took = absurd took
Keeps-consumed (Some x) (Some y) (Some z) bytes kept took = sym kept ∙ took

pub returns-in-Ok-clause-bytes : goal.returns-in-Ok-clause-bytes
returns-in-Ok-clause-bytes g c = rw (← c.self.view_is) (Keeps-consumed _ _ _ _ c.loop-again.invariant c.in-Ok.ensures.bytes.0, c.in-Ok.ensures.bytes.1)
