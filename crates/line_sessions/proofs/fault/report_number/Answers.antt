use Rattle.std.proofs.Common.{◌∙◌, ◌++◌, ◌∷◌, [], List, ℕ, rules, subst}
use Rattle.line_sessions.specs.Faults.{remark_of}
use Rattle.line_sessions.specs.Watched.{Puts}
use Rattle.line_sessions.proofs.WriteLemmas.{Puts-failed, Puts-one, Puts-then}
use Rattle.line_sessions.proofs.fault.report_number.Goals as goal

pub returns-in_err-write_all : goal.returns-in_err-write_all
returns-in_err-write_all g c =
    let rest = remark_of c.args.remark.now ++ 10 ∷ [] in
    subst (λ (d : List ℕ). Puts c.from_residual.result c.args.errors.now c.write_all.new.self (d ++ rest)) (c.as_bytes.ensures.value ∙ c.format.ensures.text)
    (Puts-failed c.write_all.result c.from_residual.result c.args.errors.now c.write_all.new.self c.as_bytes.result.now rest
    (Puts-one c.write_all.result _ _ _ c.write_all.ensures.all c.write_all.ensures.part c.write_all.ensures.noted) (search rules) (search rules))

pub returns : goal.returns
returns g c =
    let rest = remark_of c.args.remark.now ++ 10 ∷ [] in
    subst (λ (d : List ℕ). Puts c.report_remark.result c.args.errors.now c.report_remark.new.errors (d ++ rest)) (c.as_bytes.ensures.value ∙ c.format.ensures.text)
    (Puts-then c.write_all.result c.report_remark.result c.args.errors.now c.write_all.new.self c.report_remark.new.errors c.as_bytes.result.now rest
    (Puts-one c.write_all.result _ _ _ c.write_all.ensures.all c.write_all.ensures.part c.write_all.ensures.noted) (search rules) c.report_remark.ensures)
