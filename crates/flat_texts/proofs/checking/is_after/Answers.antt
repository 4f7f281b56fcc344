use Rattle.std.proofs.Common.{◌≡◌, ◌-◌, ap, sym, ◌∙◌, arith}
use Rattle.std.specs.Ordering.{is_lt}
use Rattle.nibble_map.specs.Nibbles.{nibbles}
use Rattle.encoded_keys.specs.Codes.{is_before}
use Rattle.encoded_keys.proofs.CodeLemmas.Order.{before_by_test, before_passes}
use Rattle.flat_texts.specs.TextImages.{key_code}
use Rattle.flat_texts.proofs.checking.is_after.Goals as goal

pub returns : goal.returns
returns c =
    let bs = c.args.image.now in
    let last = c.from_bytes-last.ensures ∙ ap nibbles c.key_at.ensures in
    let own = c.from_bytes-own.ensures ∙ ap nibbles c.key_at-2.ensures in
    let test : c.is_lt.result ≡ is_before (key_code bs (c.args.at - 1)) (key_code bs c.args.at) =
    c.is_lt.ensures ∙ ap is_lt c.cmp.ensures ∙ ap (λ x. is_before x c.from_bytes-own.result) last ∙ ap (is_before (key_code bs (c.args.at - 1))) own in
    (λ yes some. before_by_test _ _ (sym test ∙ yes), λ after. test ∙ before_passes _ _ (after (omega (arith, c.if-at-eq0.false))))
