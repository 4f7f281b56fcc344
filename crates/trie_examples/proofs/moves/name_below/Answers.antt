use Rattle.std.proofs.lemmas.Result.{IfOk-weaker}
use Rattle.trie_examples.proofs.moves.name_below.Goals as goal

pub returns : goal.returns
returns c = IfOk-weaker c.joined.result _ _ (λ name is. (c.nibbles_keep_prefixes.ensures _ _).1 (c.args.rest.now, is)) c.joined.ensures
