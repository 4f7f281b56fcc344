use Rattle.std.proofs.Common.{◌≡◌, ◌++◌, ◌∙◌, ap, List, ℕ, rules, map as each}
use Rattle.std.proofs.lemmas.Result.{IfOk-weaker}
use Rattle.json.specs.Print.{print}
use Rattle.json.specs.Token.{Token}
use Rattle.serde_json.specs.Data.{object}
use Rattle.serde_json.proofs.Texts.{print-outline}
use Rattle.trie_tool.specs.Numbers.{text}
use Rattle.trie_tool.specs.Request.{members, object_tokens}
use Rattle.trie_tool.proofs.object.add_object.Goals as goal

pub returns-clause-text : goal.returns-clause-text
returns-clause-text c =
    let rows = each text c.args.walk in
    let front : List ℕ = c.args.out.now.items in
    let tokens : List Token = c.write_object-outcome.new.writer.tokens in
    let before : c.write_object-outcome.new.writer.before ≡ front = search rules in
    IfOk-weaker c.write_object-outcome.result _ _ (λ _ is.
    c.into_inner.ensures.items ∙ ap (λ (l : List ℕ). l ++ print tokens) before
    ∙ ap (λ (ts : List Token). front ++ print ts) (is ∙ ap (λ (ts : List Token). ts ++ object_tokens rows) c.new-writer.ensures.tokens)
    ∙ ap (λ (l : List ℕ). front ++ l) (print-outline (object (members rows)))) c.write_object-outcome.ensures.object
