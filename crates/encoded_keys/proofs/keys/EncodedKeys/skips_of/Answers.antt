use Rattle.std.proofs.Common.{ℕ, ◌+◌, ◌*◌, ◌<◌, [], ◌∷◌, get_or, length, sym, ap, subst, ◌∙◌}
use Rattle.std.proofs.lemmas.List.{length-append}
use Rattle.encoded_keys.specs.Blocks.{IsSkip}
use Rattle.encoded_keys.proofs.CodeLemmas.Making.{all_skips, each_more}
use Rattle.encoded_keys.proofs.keys.EncodedKeys.skips_of.Goals as goal

pub loop-at-preserved : goal.loop-at-preserved
loop-at-preserved c =
    let items = c.in_ok-push.ensures.items in
    let P : ℕ → ℕ → Type 0 = λ k s. IsSkip c.args.self.now (c.args.step * (16 * k)) (c.args.step * (16 * k + 16)) s in
    record {
      count = ap length items ∙ length-append c.loop-at.skips.items (c.skip_between.result ∷ []) ∙ ap (λ n. n + 1) c.loop-at.invariant.count;
      skips = subst (λ xs. (k : ℕ) → k < c.loop-at.at + 1 → P k (get_or xs k 0)) (sym items)
          (each_more P c.loop-at.skips.items c.loop-at.at c.skip_between.result c.loop-at.invariant.count c.loop-at.invariant.skips c.skip_between.ensures);
    }

pub returns : goal.returns
returns c = all_skips c.args.self.now c.args.step c.loop-at.skips.items c.loop-at.at c.loop-at.invariant.count c.loop-at.invariant.skips
