use Rattle.std.proofs.Common.{ap, subst, ◌∙◌, arith}
use Rattle.std.specs.FinMap as fin
use Rattle.nibble_map.specs.Nibbles.{nibbles}
use Rattle.radix_trie.specs.Views.{encoded_bound, is_within}
use Rattle.encoded_keys.specs.Codes.{IsSpan}
use Rattle.frozen_trie.proofs.TextLemmas.Pairs.{code_count, texts_within}
use Rattle.frozen_trie.proofs.texts.FrozenTexts.range.Goals as goal

pub new-requires-clause-within : goal.new-requires-clause-within
new-requires-clause-within g c = omega (arith, c.within-first.ensures.within, code_count _ _ _ c.self.invariant, ap fin.len c.self.view_is)

pub returns : goal.returns
returns g c = record {
  walk = λ has.
      let first = c.within-first.result.0 in
      let end = c.within-first.result.1 in
      let low = c.list_of-low.ensures ∙ ap (encoded_bound (λ key. nibbles (g.Q.TextKey.bytes key))) (c.start_bound.ensures has) in
      let high = c.list_of-high.ensures ∙ ap (encoded_bound (λ key. nibbles (g.Q.TextKey.bytes key))) (c.end_bound.ensures has) in
      let own = subst (λ b. IsSpan (is_within b c.list_of-high.result) c.self.inside.codes first end) low c.within-first.ensures in
      let span = subst (λ b. IsSpan (is_within (encoded_bound (λ key. nibbles (g.Q.TextKey.bytes key)) (g.R.RangeBounds.start_bound c.args.range)) b) c.self.inside.codes first end) high own in
      c.new.ensures ∙ rw (← c.self.view_is) (texts_within _ _ _ c.self.invariant _ _ first end span);
}
