use Rattle.std.proofs.Common.{◌≡◌, ◌∙◌, None, Some, decimal, sym, ap, arith, true≢false}
use Rattle.std.specs.Result.{result_ok}
use Rattle.std.proofs.lemmas.Fmt.{parse-decimal}
use Rattle.std.proofs.lemmas.Slice.Eq.{bytes_eq-Decides}
use Rattle.radix_keys.proofs.networks.text.count.Goals as goal

pub returns-in_err-number : goal.returns-in_err-number
returns-in_err-number c = rw c.from_residual.ensures λ n low is.
    let read = parse-decimal 8 n c.args.text.now c.parse.result low (omega arith) is c.parse.ensures.value.0 in
    let none : None ≡ Some n = sym c.in_err-number.was ∙ c.ok.ensures.value ∙ ap result_ok read in
    cc

pub returns-else-eq : goal.returns-else-eq
returns-else-eq c = λ n low is.
    let read = parse-decimal 8 n c.args.text.now c.parse.result low (omega arith) is c.parse.ensures.value.0 in
    let some : Some c.in_ok-number.number ≡ Some n = sym c.in_ok-number.was ∙ c.ok.ensures.value ∙ ap result_ok read in
    let same : c.in_ok-number.number ≡ n = cc in
    let equal = (bytes_eq-Decides c.format.result.now c.args.text.now).1 (c.format.ensures.text ∙ ap decimal same ∙ sym is) in
    true≢false (sym equal ∙ sym c.if-eq.ensures)
