use Rattle.std.proofs.Common.{◌≡◌, ◌⊎◌, ◌∙◌, Option, None, Some, ap, inl, inr, refl, subst, sym, unwrap_or}
use Rattle.radix_trie.specs.Views.{IsValueAbove}
use Rattle.trie_examples.proofs.uses.inherited.Goals as goal

cases : {V : Type 0} (o : Option V) → (o ≡ None) ⊎ ((v : V) × (o ≡ Some v))
cases None = inl refl
cases (Some v) = inr (v, refl)

pub returns-clause-nearest : goal.returns-clause-nearest
returns-clause-nearest g c =
    let above = IsValueAbove c.args.settings.now (g.Q.TrieKey.encoding c.args.path.now) in
    let value = c.in_ok-get_ancestor_value.ensures.value in
    elim (cases c.copied.result) [
      | inl none ↦ inr (
        c.unwrap_or.ensures ∙ ap (λ o. unwrap_or o c.args.default) none,
        c.keyed_maps_follow_nearest.ensures.nearest_none _ (subst above (sym c.copied.ensures ∙ none) value),
      )
      | inr found ↦ (
          let same = found.1 ∙ ap Some (sym (c.unwrap_or.ensures ∙ ap (λ o. unwrap_or o c.args.default) found.1)) in
          inl (c.keyed_maps_follow_nearest.ensures.get_nearest _ _ (subst above (sym c.copied.ensures ∙ same) value))
          )
    ]
