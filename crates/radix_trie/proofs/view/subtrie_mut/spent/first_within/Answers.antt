use Rattle.std.proofs.Common.{ap, refl, slice_get, ◌∙◌}
use Rattle.radix_trie.specs.Views.{pairs_below}
use Rattle.radix_trie.proofs.view.subtrie_mut.spent.first_within.Goals as goal

pub returns : goal.returns
returns g c = (
  (refl, λ _. tt, refl),
  record { kept = tt; first = c.key_value_of.ensures ∙ c.first.ensures _ _ c.find.ensures ∙ ap (λ p. slice_get (pairs_below c.args.trie.now p) 0) c.nibbles.ensures },
)
