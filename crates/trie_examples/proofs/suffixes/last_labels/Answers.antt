use Rattle.std.proofs.Common.{◌∙◌, ap}
use Rattle.trie_examples.proofs.TextLemmas.{rest_of}
use Rattle.trie_examples.proofs.suffixes.last_labels.Goals as goal

pub returns-in-Some : goal.returns-in-Some
returns-in-Some c =
    let rest = rest_of c.args.host _ c.get.result c.get.ensures.cases in
    (rest.0, ap (λ end. end.now) c.unwrap_or.ensures ∙ rest.1)
