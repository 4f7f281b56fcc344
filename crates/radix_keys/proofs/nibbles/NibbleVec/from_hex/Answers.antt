use Rattle.std.proofs.Common.{◌≡◌, ◌<◌, ◌++◌, [], ◌∷◌, get_or, map, take, ap, sym, subst, ◌∙◌}
use Rattle.std.proofs.lemmas.List.{map_more}
use Rattle.std.proofs.lemmas.List.Elements.{All-more}
use Rattle.std.specs.Char.{digit_value}
use Rattle.radix_keys.proofs.nibbles.NibbleVec.from_hex.Goals as goal

pub loop-byte-preserved : goal.loop-byte-preserved
loop-byte-preserved c =
    let bytes = c.as_bytes-byte-items.result.now in
    let i = c.loop-byte.byte-index in
    let byte : c.from.result ≡ get_or bytes i 0 = c.from.ensures in
    let digit = c.in-Some.ensures.value in
    record {
      list = c.in_ok-push-in-Some.ensures.ok ∙ ap (λ t. t ++ c.in-Some.digit ∷ []) c.loop-byte.invariant.list
          ∙ ap (λ d. map digit_value (take i bytes) ++ d ∷ []) (digit.1 ∙ ap digit_value byte)
          ∙ sym (map_more digit_value bytes i 0 c.loop-byte-test.true);
      digits = All-more (λ b. digit_value b < 16) bytes i 0 c.loop-byte-test.true c.loop-byte.invariant.digits
          (subst (λ b. digit_value b < 16) byte digit.0);
    }
