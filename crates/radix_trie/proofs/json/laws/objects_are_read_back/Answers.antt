use Rattle.std.proofs.Common.{◌∙◌, ap}
use Rattle.radix_trie.specs.Json.{read_as}
use Rattle.serde_json.specs.Find.{get}
use Rattle.radix_trie.proofs.json.laws.objects_are_read_back.Goals as goal

pub returns-clause-object : goal.returns-clause-object
returns-clause-object c = λ written read. read ∙ ap read_as written

pub returns-clause-members : goal.returns-clause-members
returns-clause-members c = λ written held read name. read name ∙ ap (get name) written ∙ held name
