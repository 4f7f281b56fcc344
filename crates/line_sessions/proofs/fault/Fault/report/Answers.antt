use Rattle.std.proofs.Common.{◌≡◌, ◌∙◌, ◌∷◌, ◌++◌, [], ℕ, List, ap, append_assoc, codes, decimal, rules, subst, sym}
use Rattle.line_sessions.specs.declared.fault.Fault.{Fault}
use Rattle.line_sessions.specs.declared.fault.Fault.TheVariants.{BadLine}
use Rattle.line_sessions.specs.Faults.{remark_of, text_with, words_of}
use Rattle.line_sessions.specs.Watched.{Puts}
use Rattle.line_sessions.proofs.WriteLemmas.{Puts-failed, Puts-one, Puts-then}
use Rattle.line_sessions.proofs.fault.Fault.report.Goals as goal

-- the words, the number and the remark of a bad line are its text
words-number : (e : Fault) (n : ℕ) (words remark : List ℕ) → e ≡ BadLine n → words ≡ words_of e → words ++ (decimal n ++ (remark_of remark ++ 10 ∷ [])) ≡ text_with remark e ++ 10 ∷ []
words-number e n words remark is said =
    let end = 10 ∷ [] in
    ap (λ (w : List ℕ). w ++ (decimal n ++ (remark_of remark ++ end))) (said ∙ ap words_of is)
    ∙ sym (append_assoc (codes "bad line ") (decimal n) (remark_of remark ++ end)) ∙ sym (append_assoc (codes "bad line " ++ decimal n) (remark_of remark) end)
    ∙ ap (λ (f : Fault). text_with remark f ++ end) (sym is)

pub returns-in_err-write_all : goal.returns-in_err-write_all
returns-in_err-write_all g c =
    let n : ℕ = c.in-BadLine.number in
    let words : List ℕ = c.as_bytes-words.result.now in
    let rest = decimal n ++ (remark_of c.args.remark.now ++ 10 ∷ []) in
    subst (λ (l : List ℕ). Puts c.from_residual.result c.args.errors.now c.write_all.new.self l)
    (words-number c.args.self n words c.args.remark.now c.in-BadLine.is (c.as_bytes-words.ensures.value ∙ c.words.ensures))
    (Puts-failed c.write_all.result c.from_residual.result c.args.errors.now c.write_all.new.self words rest
    (Puts-one c.write_all.result _ _ _ c.write_all.ensures.all c.write_all.ensures.part c.write_all.ensures.noted) (search rules) (search rules))

pub returns : goal.returns
returns g c =
    let n : ℕ = c.in-BadLine.number in
    let words : List ℕ = c.as_bytes-words.result.now in
    let rest = decimal n ++ (remark_of c.args.remark.now ++ 10 ∷ []) in
    subst (λ (l : List ℕ). Puts c.report_number.result c.args.errors.now c.report_number.new.errors l)
    (words-number c.args.self n words c.args.remark.now c.in-BadLine.is (c.as_bytes-words.ensures.value ∙ c.words.ensures))
    (Puts-then c.write_all.result c.report_number.result c.args.errors.now c.write_all.new.self c.report_number.new.errors words rest
    (Puts-one c.write_all.result _ _ _ c.write_all.ensures.all c.write_all.ensures.part c.write_all.ensures.noted) (search rules) c.report_number.ensures)
