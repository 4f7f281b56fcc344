use Rattle.std.proofs.Common.{rules, ◌∙◌, sym}
use Rattle.trie_tool.proofs.LineLemmas.{number_of-parsed, number_of-none, list_all-digits}
use Rattle.trie_tool.proofs.command.number.Goals as goal

pub returns-then-all_digits : goal.returns-then-all_digits
returns-then-all_digits c =
    c.ok.ensures.value ∙ number_of-parsed c.parse.result c.args.text.now c.parse.ensures.value.0 (sym (list_all-digits c.args.text.now) ∙ search rules)

pub returns-else-all_digits : goal.returns-else-all_digits
returns-else-all_digits c = number_of-none c.args.text.now (sym (list_all-digits c.args.text.now) ∙ search rules)
