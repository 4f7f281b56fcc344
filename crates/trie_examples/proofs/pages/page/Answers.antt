use Rattle.std.proofs.Common.{refl, nat_cmp}
use Rattle.std.proofs.lemmas.Result.{IfOk-weaker}
use Rattle.std.specs.Cmp.Lexicographic.{slice_cmp}
use Rattle.radix_trie.specs.Nibbles.{nibbles}
use Rattle.trie_examples.proofs.pages.page.Goals as goal

pub returns-clause-begins : goal.returns-clause-begins
returns-clause-begins g c =
    let typed = c.args.typed.now in
    IfOk-weaker c.first_below.result _ _ (λ page is. rw is (c.encodings_keep_prefixes.ensures (λ w. w.now) (λ w. refl) typed _ (c.keys_stand_at_their_encodings.ensures.page (nibbles typed) c.args.most))) c.first_below.ensures.pairs

pub returns-clause-rising : goal.returns-clause-rising
returns-clause-rising g c =
    let keyed = c.keys_stand_at_their_encodings.ensures.keyed (λ _. tt) in
    IfOk-weaker c.first_below.result _ _ (λ page is. rw is (c.keys_of_walks_rise.ensures.page (λ x y. slice_cmp nat_cmp x.now y.now) (c.texts_keep_their_order.ensures (λ word. word.now)) c.args.words.now keyed (nibbles c.args.typed.now) c.args.most)) c.first_below.ensures.pairs
