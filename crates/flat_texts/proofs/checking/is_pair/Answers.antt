use Rattle.std.proofs.Common.{ap, subst, sym, ◌∙◌, arith}
use Rattle.std.proofs.lemmas.Bool.{eq-eqb, eqb-true}
use Rattle.nibble_map.specs.Lists.{IsBefore, IsPrefix}
use Rattle.nibble_map.specs.Nibbles.{nibbles}
use Rattle.sorted_tables.specs.Tables.{IsLastOf}
use Rattle.flat_texts.specs.TextImages.{key_code, key_head}
use Rattle.flat_texts.proofs.ImageLemmas.{before_next, one_last}
use Rattle.flat_texts.proofs.checking.is_pair.Goals as goal

pub returns : goal.returns
returns c =
    let bs = c.args.image.now in
    let at = c.args.at in
    let after = c.is_after.ensures.0 c.if-not-is_after.false in
    let is = ap nibbles c.key_at-key.ensures in
    let last : IsLastOf (λ k. IsPrefix (key_code bs k) (key_code bs at)) at c.follow_parents.result =
    subst (λ q. IsLastOf (λ k. IsPrefix (key_code bs k) q) at c.follow_parents.result) is
    (c.follow_parents.ensures.last c.requires.before (λ k l. subst (IsBefore (key_code bs k)) (sym is) (before_next bs at c.requires.before after k l))) in (
      λ yes. record {
        order = omega (arith, c.if-start_at-end.false, c.start_at.ensures, c.end_at-end.ensures);
        within = omega (arith, c.if-end-plan.false, c.end_at-end.ensures, c.requires.plan.keys_len);
        head = sym c.head_at.ensures ∙ c.if-head_at-head_of.false ∙ c.head_of.ensures ∙ ap key_head c.key_at-key.ensures;
        after = after;
        link = subst (IsLastOf (λ k. IsPrefix (key_code bs k) (key_code bs at)) at) (eqb-true _ _ yes ∙ c.link_at.ensures) last;
      },
      λ right. eq-eqb _ _ (one_last (λ k. IsPrefix (key_code bs k) (key_code bs at)) at _ _ last right.link ∙ sym c.link_at.ensures),
    )
