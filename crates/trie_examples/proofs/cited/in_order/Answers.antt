use Rattle.std.proofs.Common.{[]}
use Rattle.std.proofs.lemmas.Result.{IfOk-weaker}
use Rattle.trie_examples.proofs.cited.in_order.Goals as goal

pub returns : goal.returns
returns g c = IfOk-weaker c.iter.result _ _ (λ pairs is. rw is (c.keys_stand_at_their_encodings.ensures.rising [])) c.iter.ensures.walk
