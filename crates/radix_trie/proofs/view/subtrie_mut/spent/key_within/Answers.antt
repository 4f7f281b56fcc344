use Rattle.std.proofs.Common.{ap, option_map, refl, ◌∙◌}
use Rattle.std.specs.FinMap as map
use Rattle.radix_trie.proofs.view.subtrie_mut.spent.key_within.Goals as goal

pub returns : goal.returns
returns g c = (
  (refl, λ _. tt, refl),
  record { kept = tt; key = c.key_of.ensures ∙ ap (option_map (λ p. p.0)) (c.pair.ensures _ _ c.find.ensures ∙ ap (map.get c.args.trie.now) c.nibbles.ensures) },
)
