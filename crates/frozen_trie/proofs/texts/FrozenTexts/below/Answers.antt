use Rattle.std.proofs.Common.{ap, subst, ◌∙◌, arith}
use Rattle.std.specs.FinMap as fin
use Rattle.nibble_map.specs.Nibbles.{nibbles}
use Rattle.encoded_keys.specs.Codes.{IsCut, is_before, is_until}
use Rattle.frozen_trie.proofs.TextLemmas.Pairs.{code_count, text_cuts, texts_below}
use Rattle.frozen_trie.proofs.texts.FrozenTexts.below.Goals as goal

pub new-requires-clause-order : goal.new-requires-clause-order
new-requires-clause-order g c =
    let cs = c.self.inside.codes in
    let low = subst (λ q. IsCut (λ x. is_before x q) cs c.lower-from.result) c.from_bytes.ensures c.lower-from.ensures in
    let high = subst (λ q. IsCut (λ x. is_until x q) cs c.upper-to.result) c.from_bytes-2.ensures c.upper-to.ensures in
    text_cuts _ _ _ c.self.invariant (nibbles c.args.prefix.now) c.lower-from.result c.upper-to.result low high

pub new-requires-clause-within : goal.new-requires-clause-within
new-requires-clause-within g c = omega (arith, c.upper-to.ensures.within, code_count _ _ _ c.self.invariant, ap fin.len c.self.view_is)

pub returns : goal.returns
returns g c =
    let cs = c.self.inside.codes in
    let low = subst (λ q. IsCut (λ x. is_before x q) cs c.lower-from.result) c.from_bytes.ensures c.lower-from.ensures in
    let high = subst (λ q. IsCut (λ x. is_until x q) cs c.upper-to.result) c.from_bytes-2.ensures c.upper-to.ensures in
    record {
      walk = c.new.ensures ∙ rw (← c.self.view_is) (texts_below _ _ _ c.self.invariant (nibbles c.args.prefix.now) c.lower-from.result c.upper-to.result low high);
    }
