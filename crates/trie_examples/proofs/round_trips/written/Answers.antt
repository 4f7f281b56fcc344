use Rattle.std.proofs.Common.{◌≡◌, ◌<◌, ◌++◌, [], ◌∷◌, map, take, ap, sym, ◌∙◌, arith, string_bytes}
use Rattle.std.proofs.lemmas.List.{map_push, take_more}
use Rattle.std.proofs.lemmas.List.Elements.{All-push}
use Rattle.std.specs.Char.{digit_value}
use Rattle.trie_examples.proofs.round_trips.written.Goals as goal

pub loop-i-preserved : goal.loop-i-preserved
loop-i-preserved c =
    let old = string_bytes c.loop-i.text in
    let char = c.digit.result in
    let is : digit_value char ≡ c.get.result = c.digit.ensures.value in
    let text = c.in_ok-push.ensures.bytes ∙ ap (λ t. old ++ t) (c.in_ok-push.ensures.ascii c.digit.ensures.ascii) in
    record {
      digits = rw text (All-push (λ d. digit_value d < 16) old char c.loop-i.invariant.digits (omega (arith, is, c.get.ensures.nibble)));
      list = ap (map digit_value) text ∙ map_push digit_value old char
          ∙ ap (λ t. t ++ digit_value char ∷ []) c.loop-i.invariant.list
          ∙ ap (λ n. take c.loop-i.i c.args.list.now ++ n ∷ []) (is ∙ c.get.ensures.value)
          ∙ sym (take_more c.args.list.now c.loop-i.i 0 (omega (arith, c.loop-i-test.true, c.len-i-end.ensures)));
    }
