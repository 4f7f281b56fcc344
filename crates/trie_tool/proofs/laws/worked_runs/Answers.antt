use Rattle.trie_tool.proofs.RunLemmas.Runs.{bad_line_ends_it, empty_input, value_is_replaced}
use Rattle.trie_tool.proofs.laws.worked_runs.Goals as goal

pub returns-clause-value_is_replaced : goal.returns-clause-value_is_replaced
returns-clause-value_is_replaced c = value_is_replaced

pub returns-clause-bad_line_ends_it : goal.returns-clause-bad_line_ends_it
returns-clause-bad_line_ends_it c = bad_line_ends_it

pub returns-clause-empty_input : goal.returns-clause-empty_input
returns-clause-empty_input c = empty_input
