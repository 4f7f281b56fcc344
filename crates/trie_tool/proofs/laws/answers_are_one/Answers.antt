use Rattle.trie_tool.proofs.RunLemmas.Answers.{one_run}
use Rattle.trie_tool.proofs.laws.answers_are_one.Goals as goal

pub returns : goal.returns
returns c = one_run
