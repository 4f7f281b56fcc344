use Rattle.std.proofs.Common.{◌≡◌, ◌+◌, ◌*◌, ◌^◌, suc, List, [], ◌∷◌, length, sym, ap, subst, ◌∙◌, arith}
use Rattle.std.proofs.Math.Nat.{pow-suc}
use Rattle.std.proofs.lemmas.List.{length-append}
use Rattle.encoded_keys.specs.declared.keys.blocks.Level.{Level}
use Rattle.encoded_keys.proofs.CodeLemmas.Making.{AreEachLevels, levels_more}
use Rattle.encoded_keys.proofs.keys.EncodedKeys.levels_of.Goals as goal

pub loop-step-preserved : goal.loop-step-preserved
loop-step-preserved c =
    let cs = c.args.self.now in
    let ls = c.loop-step.levels.items in
    let l = c.in_ok-level_of.field-0 in
    let items = c.in_ok-push.ensures.items in
    let is = c.in_ok-level_of.ensures in
    let count : suc (length ls + 1) ≡ length c.push.new.self.items + 1 = omega (arith, ap length items, length-append ls (l ∷ [])) in
    record {
      some = omega (arith, c.loop-step.invariant.some);
      step = ap (λ n. n * 16) c.loop-step.invariant.step ∙ sym (pow-suc 16 (length ls + 1)) ∙ ap (λ n. 16 ^ n) count;
      each = subst (AreEachLevels cs) (sym {A = List Level} items) (levels_more cs ls l c.loop-step.invariant.each (is.step ∙ c.loop-step.invariant.step) is.level);
    }
