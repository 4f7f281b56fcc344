use Rattle.std.proofs.Common.{◌≡◌, length, sym, subst, ◌∙◌}
use Rattle.std.proofs.lemmas.Bool.{eqb-true}
use Rattle.std.specs.List.Sorted.{IsNonDecreasing}
use Rattle.encoded_keys.specs.Blocks.{IsLevel}
use Rattle.encoded_keys.specs.Packed.{AreHeaded}
use Rattle.encoded_keys.proofs.CodeLemmas.Plain.{plain_rise}
use Rattle.encoded_keys.proofs.keys.EncodedKeys.add_tables.Goals as goal

pub tops_of-requires : goal.tops_of-requires
tops_of-requires c =
    let cs = c.args.self.now in
    let hs = c.self.inside.heads.items in
    let kept = subst (λ xs. AreHeaded xs hs c.self.inside.skips.items c.self.inside.levels.items) c.self.view_is c.self.invariant.headed in
    let none : length c.self.inside.levels.items ≡ 0 = sym c.self.inside.levels.ok.0 ∙ eqb-true _ _ (sym c.is_empty.ensures ∙ c.if-not-is_empty.false) in
    subst IsNonDecreasing (sym c.deref-2.ensures.value) (plain_rise cs hs (subst (λ ks. IsLevel cs 1 hs ks) (kept.plain none) kept.level) c.requires)
