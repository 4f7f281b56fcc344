use Rattle.std.proofs.Common.{◌∙◌, ap, option_map, Option, ℕ}
use Rattle.trie_tool.specs.Command.{request}
use Rattle.trie_tool.specs.Request.{Insert}
use Rattle.trie_tool.proofs.LineLemmas.{insert_of-none, insert_of-parts}
use Rattle.trie_tool.proofs.command.insertion.Goals as goal

pub returns-in_err-key : goal.returns-in_err-key
returns-in_err-key c = ap (option_map request) c.from_residual.ensures ∙ insert_of-none c.args.rest.now c.in_err-key.ensures.cases

pub returns-in_err-value : goal.returns-in_err-value
returns-in_err-value c =
    let at = c.in_ok-key.ensures.cases in
    ap (option_map request) c.from_residual-in_err-value.ensures ∙ ap (λ (o : Option ℕ). option_map (λ n. Insert c.in_ok-key.key.now n) o) c.in_err-value.ensures
    ∙ insert_of-parts c.args.rest.now c.in_ok-key.key.now c.in_ok-key.text.now at.0 at.1 at.2 at.3 at.4 at.7

pub returns : goal.returns
returns c =
    let at = c.in_ok-key.ensures.cases in
    ap (λ (o : Option ℕ). option_map (λ n. Insert c.in_ok-key.key.now n) o) c.in_ok-value.ensures
    ∙ insert_of-parts c.args.rest.now c.in_ok-key.key.now c.in_ok-key.text.now at.0 at.1 at.2 at.3 at.4 at.7
