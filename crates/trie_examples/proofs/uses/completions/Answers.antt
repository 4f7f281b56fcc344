use Rattle.std.proofs.Common.{ap, sym, ◌∙◌, map}
use Rattle.std.proofs.lemmas.Result.{IfOk-weaker}
use Rattle.radix_trie.specs.Views.{pairs_below}
use Rattle.radix_trie.proofs.PathLemmas.Below.{pairs_below-none, pairs_below-shortest}
use Rattle.trie_examples.proofs.uses.completions.Goals as goal

pub returns-in_ok-values-in-Some : goal.returns-in_ok-values-in-Some
returns-in_ok-values-in-Some g c =
    let near = rw c.in-Some.is at c.in_ok-view.ensures.nearest in
    let pairs = ap (λ m. pairs_below m c.in-Some.view.path) (rw c.in-Some.is at c.in_ok-view.ensures.same_map)
    ∙ pairs_below-shortest c.args.words.now _ c.in-Some.view.path near in
    IfOk-weaker c.collected.result _ _ (λ all is. is ∙ c.in_ok-values-in-Some.ensures.walk ∙ ap (map (λ p. p.1)) pairs) c.collected.ensures

pub returns-in-None : goal.returns-in-None
returns-in-None g c =
    c.new.ensures.items ∙ sym (ap (map (λ p. p.1)) (pairs_below-none c.args.words.now _ (rw c.in-None.is at c.in_ok-view.ensures.nearest)))
