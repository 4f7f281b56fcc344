use Rattle.std.proofs.Common.{◌≡◌, ◌-◌, ◌<◌, length, sym, ap, ◌∙◌, arith}
use Rattle.encoded_keys.specs.Codes.{code_at, is_before}
use Rattle.encoded_keys.proofs.CodeLemmas.Order.{before_by_test, before_passes}
use Rattle.encoded_keys.proofs.CodeLemmas.Appended.{rising_more, last_before_more}
use Rattle.encoded_keys.proofs.linked.follows.Goals as goal

pub returns : goal.returns
returns c =
    let cs = c.args.codes.now in
    let q = c.args.list.now in
    let some : 0 < length cs = omega (arith, c.if-count-eq0.false, c.len-count.ensures) in
    let test : c.is_lt.result ≡ is_before (code_at cs (length cs - 1)) q =
    c.is_lt.ensures ∙ c.side-side.ensures.side.front ∙ ap (λ n. is_before (code_at cs (n - 1)) q) c.len-count.ensures in
    (λ t. rising_more cs q some c.requires (before_by_test _ _ (sym test ∙ t)), λ h. test ∙ before_passes _ _ (last_before_more cs q some h))
