use Rattle.std.proofs.Common.{[], nat_cmp}
use Rattle.std.proofs.lemmas.Result.{IfOk-weaker}
use Rattle.std.specs.Cmp.Lexicographic.{slice_cmp}
use Rattle.trie_examples.proofs.rising.words.Goals as goal

pub returns : goal.returns
returns g c =
    let keyed = c.keys_stand_at_their_encodings.ensures.keyed (λ _. tt) in
    IfOk-weaker c.keys.result _ _ (λ keys is. rw is (c.keys_of_walks_rise.ensures.below (λ x y. slice_cmp nat_cmp x.now y.now) (c.texts_keep_their_order.ensures (λ word. word.now)) c.args.trie.now keyed [])) c.keys.ensures.walk
