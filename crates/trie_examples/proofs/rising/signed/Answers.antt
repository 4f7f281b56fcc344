use Rattle.std.proofs.Common.{[], int_cmp}
use Rattle.std.proofs.lemmas.Result.{IfOk-weaker}
use Rattle.trie_examples.proofs.rising.signed.Goals as goal

pub returns : goal.returns
returns g c = IfOk-weaker c.keys.result _ _ (λ keys is. rw is (c.keys_of_walks_rise.ensures.below int_cmp c.signed_numbers_keep_their_order.ensures c.args.trie.now c.requires [])) c.keys.ensures.walk
