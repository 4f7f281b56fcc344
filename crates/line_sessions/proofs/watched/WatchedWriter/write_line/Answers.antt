use Rattle.std.proofs.Common.{rules}
use Rattle.line_sessions.proofs.WriteLemmas.{Puts-failed, Puts-one, Puts-then}
use Rattle.line_sessions.proofs.watched.WatchedWriter.write_line.Goals as goal

pub returns-in_err-write_all : goal.returns-in_err-write_all
returns-in_err-write_all g c =
    Puts-failed c.write_all.result c.from_residual.result c.args.self.now c.write_all.new.self _ _
    (Puts-one c.write_all.result _ _ _ c.write_all.ensures.all c.write_all.ensures.part c.write_all.ensures.noted) (search rules) (search rules)

pub returns : goal.returns
returns g c =
    Puts-then c.write_all.result c.write_all-2.result c.args.self.now c.write_all.new.self c.write_all-2.new.self _ _
    (Puts-one c.write_all.result _ _ _ c.write_all.ensures.all c.write_all.ensures.part c.write_all.ensures.noted) (search rules)
    (Puts-one c.write_all-2.result _ _ _ c.write_all-2.ensures.all c.write_all-2.ensures.part c.write_all-2.ensures.noted)
