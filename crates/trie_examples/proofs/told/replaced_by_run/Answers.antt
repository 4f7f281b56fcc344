use Rattle.std.proofs.lemmas.Result.{IfOk-weaker}
use Rattle.trie_examples.proofs.WordLemmas.{run_over}
use Rattle.trie_examples.proofs.told.replaced_by_run.Goals as goal

pub returns : goal.returns
returns g c =
    IfOk-weaker c.run.result _ _
    (λ replies steps w has. run_over g.K.TrieKey.encoding g.K.TrieKey.is_inline c.args.key.now c.args.value w c.requires.inline c.args.trie.now c.run.new.trie c.args.commands.items replies.items has c.requires.one steps)
    c.run.ensures.steps
