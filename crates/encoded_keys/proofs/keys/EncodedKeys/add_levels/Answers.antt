use Rattle.std.proofs.Common.{◌≡◌, ◌+◌, ◌^◌, ◌<◌, length, sym, ap, subst, ◌∙◌, arith}
use Rattle.encoded_keys.specs.Blocks.{AreHeads, AreLevels, AreSkips}
use Rattle.encoded_keys.specs.Laid.{codes_in, halves, odds}
use Rattle.encoded_keys.specs.Packed.{AreHeaded}
use Rattle.encoded_keys.proofs.CodeLemmas.Making.{all_written, level_of_all}
use Rattle.encoded_keys.proofs.CodeLemmas.Growing.{codes_alike}
use Rattle.encoded_keys.proofs.CodeLemmas.Reading.{as_many_ends}
use Rattle.encoded_keys.proofs.CodeLemmas.Tops.{no_steps, no_tops}
use Rattle.encoded_keys.proofs.keys.EncodedKeys.add_levels.Goals as goal

pub fill_heads-requires-clause-within : goal.fill_heads-requires-clause-within
fill_heads-requires-clause-within c =
    let kept = c.self.invariant.headed.level in
    let ends = as_many_ends c.self.inside.bytes.items c.self.inside.ends.items c.self.invariant.laid in
    omega (arith, ap length c.deref_mut.ensures.value, ap length c.deref-2.ensures.value, ends, kept.many)

pub invariant_of-self : goal.invariant_of-self
invariant_of-self c =
    let hs = c.fill_heads.new.heads in
    let ks = c.in_ok-skips.skips.items in
    let ls = c.in_ok-levels.levels.items in
    let own = c.self.inside.heads in
    let kept = c.self.invariant.headed in
    let same : length hs ≡ length own.items = c.fill_heads.ensures.many ∙ ap length c.deref_mut.ensures.value in
    let is : codes_in c.deref.result.now 0 (halves c.deref-2.result.now) (odds c.deref-2.result.now) ≡ codes_in c.self.inside.bytes.items 0 (halves c.self.inside.ends.items) (odds c.self.inside.ends.items) =
    codes_alike _ _ _ _ _ _ c.deref.ensures.value (ap halves c.deref-2.ensures.value) (ap odds c.deref-2.ensures.value) in
    let cs = codes_in c.self.inside.bytes.items 0 (halves c.self.inside.ends.items) (odds c.self.inside.ends.items) in
    let levels = subst (λ xs. AreLevels xs ls) (sym c.self.view_is) c.in_ok-levels.ensures in
    record {
      laid = c.self.invariant.laid;
      headed = subst (λ xs. AreHeaded cs xs ks ls) (sym (all_written own.len hs own.items (own.ok.0 ∙ sym same))) (record {
        level = level_of_all cs hs ks kept.level.nibbles (omega (arith, same, kept.level.many, kept.level.rest))
            (subst (λ xs. AreHeads cs 1 0 hs xs (length hs)) c.deref-3.ensures.value (subst (λ xs. AreHeads xs 1 0 hs c.deref-3.result.now (length hs)) is c.fill_heads.ensures.heads))
            (subst (λ xs. AreSkips xs 1 ks) (sym c.self.view_is) c.in_ok-skips.ensures);
        plain = λ none. absurd (
            let few = subst (λ n. length cs < 16 ^ (n + 1)) none levels.few in
            let some = c.requires.some in
            omega (arith, few, some, ap length c.self.view_is)
            );
        levels = λ _. levels;
      });
      stepped = no_steps _ _ c.clear.ensures.items;
      topped = no_tops _ _ c.clear-2.ensures.items;
      indexed = c.self.invariant.indexed;
    }
