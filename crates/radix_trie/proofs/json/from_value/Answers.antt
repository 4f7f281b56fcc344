use Rattle.std.proofs.Common.{rules, ◌≡◌, ◌∙◌, ap, sym}
use Rattle.serde_json.specs.Data.{null, object}
use Rattle.serde_json.specs.Find.{get}
use Rattle.serde_json.specs.View.{view}
use Rattle.serde_json.specs.declared.value.Value.{the_lemmas}
use Rattle.radix_trie.specs.Json.{read_as}
use Rattle.radix_trie.proofs.JsonLemmas.Objects.{get-object_of, members_view-empty, texts_empty}
use Rattle.radix_trie.proofs.json.from_value.Goals as goal

pub returns-in-Null-clause-object : goal.returns-in-Null-clause-object
returns-in-Null-clause-object c =
    let is : view c.args.value.now ≡ null = search (rules, the_lemmas) in
    ap object (members_view-empty c.new.result c.new.ensures) ∙ sym (ap read_as is)

pub returns-in-Null-clause-members : goal.returns-in-Null-clause-members
returns-in-Null-clause-members c = λ name.
    let is : view c.args.value.now ≡ null = search (rules, the_lemmas) in
    let trie = c.new.result in
    sym (get-object_of trie (texts_empty trie c.new.ensures) name) ∙ ap (λ ms. get name (object ms)) (members_view-empty trie c.new.ensures) ∙ sym (ap (get name) is)
