use Rattle.std.proofs.Common.{[], nat_cmp, w32}
use Rattle.std.proofs.lemmas.Result.{IfOk-weaker}
use Rattle.trie_examples.proofs.rising.numbers.Goals as goal

pub returns : goal.returns
returns g c = IfOk-weaker c.keys.result _ _ (λ keys is. rw is (c.keys_of_walks_rise.ensures.below nat_cmp (c.numbers_keep_their_order.ensures w32) c.args.trie.now c.requires [])) c.keys.ensures.walk
