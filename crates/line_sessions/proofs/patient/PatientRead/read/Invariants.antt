use Rattle.std.specs.Io.KnownBytes.{Keeps}
use Rattle.line_sessions.proofs.patient.PatientRead.read.Given as goal

abbrev pub invariant-loop-again : goal.invariant-loop-again
invariant-loop-again g l = Keeps (g.R.Read.remaining l.initial.self-inside.reader) (g.R.Read.remaining l.self-inside.reader)
