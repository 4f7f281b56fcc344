use Rattle.std.proofs.Common.{refl, inl, ap, subst, ◌∙◌}
use Rattle.nibble_map.specs.Lists.{IsPrefix}
use Rattle.nibble_map.specs.Maps.{without_below}
use Rattle.radix_trie.specs.Commands.{values_below}
use Rattle.radix_trie.specs.WriteViews.{map_behind, path_of}
use Rattle.radix_trie.proofs.commands.in_view.view_remove_prefix.Goals as goal

pub returns-in-Ok-take_values-clause-step : goal.returns-in-Ok-take_values-clause-step
returns-in-Ok-take_values-clause-step g c =
    let view = c.args.view.now in
    let took = c.in-Ok-take_values in
    inl (
      subst (IsPrefix (path_of view)) c.in-Ok.ensures.ok (c.if-not-begins.ensures.0 refl),
      (took.values, refl, took.ensures.values ∙ ap (values_below (map_behind view)) c.in-Ok.ensures.ok, took.ensures.removed ∙ ap (without_below (map_behind view)) c.in-Ok.ensures.ok),
    )
