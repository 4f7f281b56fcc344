use Rattle.std.proofs.Common.{◌∙◌, inl, inr, refl, ap, sym, arith}
use Rattle.std.proofs.lemmas.Result.{on_ok_weaker}
use Rattle.keyed_maps.specs.KeyedMaps.{keyed_map}
use Rattle.trie_examples.proofs.leases.remove_ended.Goals as goal

pub returns-clause-over : goal.returns-clause-over
returns-clause-over g c =
    let inside = c.keyed_maps_follow_parts.ensures.get_below_inside in
    on_ok_weaker c.retain_below.result (λ kept k end at is over.
    sym (inside _ _ k at)
    ∙ c.keyed_maps_follow_retain.ensures.get_dropped _ _ kept k end (inside _ _ k at ∙ is) (λ j stays. omega (arith, stays.met.0 refl, stays.shows.1, over)))
    c.retain_below.ensures.retained

pub returns-clause-running : goal.returns-clause-running
returns-clause-running g c k end at is later =
    let inside = c.keyed_maps_follow_parts.ensures.get_below_inside in
    sym (inside _ _ k at)
    ∙ c.keyed_maps_follow_retain.ensures.get_kept _ _ c.retain_below.ensures.at_least k end (inside _ _ k at ∙ is) (λ j goes. grind (arith, goes.met, goes.shows.1, later))

pub returns-clause-none : goal.returns-clause-none
returns-clause-none g c k at is =
    let inside = c.keyed_maps_follow_parts.ensures.get_below_inside in
    elim (c.keyed_maps_follow_retain.ensures.get_at_least _ _ c.retain_below.ensures.at_least k) [
      | inl same ↦ sym (inside _ _ k at) ∙ same ∙ inside _ _ k at ∙ is
      | inr gone ↦ sym (inside _ _ k at) ∙ gone
    ]

pub returns-clause-elsewhere : goal.returns-clause-elsewhere
returns-clause-elsewhere g c k apart =
    let outside = c.keyed_maps_follow_parts.ensures.get_rest_outside in
    sym (outside _ _ k apart) ∙ ap (λ m. keyed_map g.K.TrieKey.encoding m k) c.retain_below.ensures.elsewhere ∙ outside _ _ k apart
