use Rattle.std.proofs.Common.{ap, refl, sym, ◌∙◌, map}
use Rattle.std.specs.FinMap as finite
use Rattle.radix_trie.specs.Nibbles.{nibbles}
use Rattle.radix_trie.specs.Views.{pairs_below}
use Rattle.trie_examples.proofs.typed.completed.Goals as goal

pub returns-in_ok-keys-in-Some : goal.returns-in_ok-keys-in-Some
returns-in_ok-keys-in-Some g c =
    let all = c.descendants_hold_all_below.ensures.some c.args.words.now (nibbles c.args.typed.now) c.in-Some.view.path (rw c.in-Some.is at c.in_ok-view.ensures.nearest) in
    let keys = c.in_ok-keys-in-Some.ensures.walk ∙ ap (λ m. map (λ p. p.0) (pairs_below m c.in-Some.view.path)) (rw c.in-Some.is at c.in_ok-view.ensures.same_map) ∙ ap (λ m. map (λ p. p.0) (map (λ e. e.1) (finite.entries m))) (sym all) in
    rw keys (c.encodings_keep_prefixes.ensures (λ word. word.now) (λ word. refl) c.args.typed.now _ (c.keys_stand_at_their_encodings.ensures.below (nibbles c.args.typed.now)))
