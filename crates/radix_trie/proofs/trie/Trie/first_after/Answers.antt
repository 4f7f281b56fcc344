use Rattle.std.proofs.Common.{◌≡◌, ap, sym, subst, take, ◌∙◌}
use Rattle.std.specs.FinMap as map
use Rattle.std.specs.declared.ops.Bound.TheVariants.{Excluded, Unbounded}
use Rattle.std.proofs.lemmas.Result.{IfOk-weaker}
use Rattle.nibble_map.specs.Maps.{below}
use Rattle.radix_trie.specs.Views.{pairs_after}
use Rattle.radix_trie.proofs.PathLemmas.Later.{no_pairs_after}
use Rattle.radix_trie.proofs.PathLemmas.Loci.{false_is_not_true}
use Rattle.radix_trie.proofs.trie.Trie.first_after.Goals as goal

pub returns-in_err-frames-clause-inline_none : goal.returns-in_err-frames-clause-inline_none
returns-in_err-frames-clause-inline_none g c = λ inline last none.
    let bare = subst (λ l. map.len (below c.args.self.now l) ≡ 0) (sym c.in_ok-list.ensures.ok) none in
    absurd (false_is_not_true (c.in_err-frames.ensures.none c.args.self.now c.in_ok-list.list (Excluded c.in_ok-last.last) Unbounded c.find.ensures c.of-limits.ensures (no_pairs_after c.args.self.now _ _ bare)))

pub returns-clause-pairs : goal.returns-clause-pairs
returns-clause-pairs g c =
    let left = c.of.ensures ∙ c.in_ok-frames.ensures.walk c.args.self.now c.in_ok-list.list (Excluded c.in_ok-last.last) Unbounded c.find.ensures c.of-limits.ensures
    ∙ (λ i. pairs_after c.args.self.now (c.in_ok-list.ensures.ok i) (c.in_ok-last.ensures.ok i)) in
    IfOk-weaker c.first_pairs.result _ _ (λ page is. is ∙ ap (take c.args.most) left) c.first_pairs.ensures.pairs

pub returns-clause-inline_none : goal.returns-clause-inline_none
returns-clause-inline_none g c = λ inline last none.
    let left = c.of.ensures ∙ c.in_ok-frames.ensures.walk c.args.self.now c.in_ok-list.list (Excluded c.in_ok-last.last) Unbounded c.find.ensures c.of-limits.ensures
    ∙ (λ i. pairs_after c.args.self.now (c.in_ok-list.ensures.ok i) (c.in_ok-last.ensures.ok i)) in
    c.first_pairs.ensures.none (left ∙ no_pairs_after c.args.self.now _ _ none)
