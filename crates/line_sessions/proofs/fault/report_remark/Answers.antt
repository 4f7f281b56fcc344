use Rattle.std.proofs.Common.{◌≡◌, ◌≢◌, ◌++◌, ◌∷◌, [], List, ℕ, codes, length, rules, refl, subst}
use Rattle.line_sessions.specs.Faults.{remark_of}
use Rattle.line_sessions.specs.Watched.{Puts}
use Rattle.line_sessions.proofs.WriteLemmas.{Puts-failed, Puts-one, Puts-then}
use Rattle.line_sessions.proofs.fault.report_remark.Goals as goal

-- a remark that isn't empty has a colon and a space before it
remark_line : (r : List ℕ) → length r ≢ 0 → codes ": " ++ (r ++ 10 ∷ []) ≡ remark_of r ++ 10 ∷ []
remark_line [] some = absurd (some refl)
remark_line (b ∷ bs) some = refl

pub returns-in_err-write_all : goal.returns-in_err-write_all
returns-in_err-write_all g c =
    subst (λ (l : List ℕ). Puts c.from_residual.result c.args.errors.now c.write_all.new.self l) (remark_line c.args.remark.now (search rules))
    (Puts-failed c.write_all.result c.from_residual.result c.args.errors.now c.write_all.new.self (codes ": ") (c.args.remark.now ++ 10 ∷ [])
    (Puts-one c.write_all.result _ _ _ c.write_all.ensures.all c.write_all.ensures.part c.write_all.ensures.noted) (search rules) (search rules))

pub returns : goal.returns
returns g c =
    subst (λ (l : List ℕ). Puts c.write_line-2.result c.args.errors.now c.write_line-2.new.self l) (remark_line c.args.remark.now (search rules))
    (Puts-then c.write_all.result c.write_line-2.result c.args.errors.now c.write_all.new.self c.write_line-2.new.self (codes ": ") (c.args.remark.now ++ 10 ∷ [])
    (Puts-one c.write_all.result _ _ _ c.write_all.ensures.all c.write_all.ensures.part c.write_all.ensures.noted) (search rules)
    (subst (λ (l : List ℕ). Puts c.write_line-2.result c.write_all.new.self c.write_line-2.new.self (l ++ 10 ∷ [])) c.as_bytes.ensures.value c.write_line-2.ensures))
