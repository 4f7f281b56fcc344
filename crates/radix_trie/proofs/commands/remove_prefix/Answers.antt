use Rattle.std.proofs.Common.{refl, inl, ap, ◌∙◌}
use Rattle.nibble_map.specs.Maps.{without_below}
use Rattle.radix_trie.specs.Commands.{values_below}
use Rattle.radix_trie.proofs.commands.remove_prefix.Goals as goal

pub returns-in-Ok-take_values : goal.returns-in-Ok-take_values
returns-in-Ok-take_values g c =
    let took = c.in-Ok-take_values in
    inl (took.values, refl, took.ensures.values ∙ ap (values_below c.args.trie.now) c.in-Ok.ensures.ok, took.ensures.removed ∙ ap (without_below c.args.trie.now) c.in-Ok.ensures.ok)
