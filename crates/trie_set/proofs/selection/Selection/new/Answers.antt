use Rattle.std.proofs.Common.{◌∙◌, ap, map as each}
use Rattle.radix_trie.specs.Sets.{combined}
use Rattle.trie_set.proofs.SetLemmas.{keys_of_walk}
use Rattle.trie_set.proofs.selection.Selection.new.Goals as goal

pub returns-clause-keys : goal.returns-clause-keys
returns-clause-keys g c =
    ap (each (λ p. p.0)) c.in_ok-new.ensures.pairs ∙ keys_of_walk (combined c.args.operation c.args.first.now c.args.second.now)
