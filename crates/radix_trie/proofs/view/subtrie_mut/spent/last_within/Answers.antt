use Rattle.std.proofs.Common.{ap, length, ◌-◌, refl, slice_get, ◌∙◌}
use Rattle.radix_trie.specs.Views.{pairs_below}
use Rattle.radix_trie.proofs.view.subtrie_mut.spent.last_within.Goals as goal

pub returns : goal.returns
returns g c = (
  (refl, λ _. tt, refl),
  record { kept = tt; last = c.key_value_of.ensures ∙ c.last.ensures _ _ c.find.ensures ∙ ap (λ p. slice_get (pairs_below c.args.trie.now p) (length (pairs_below c.args.trie.now p) - 1)) c.nibbles.ensures },
)
