use Rattle.std.proofs.Common.{rules}
use Rattle.trie_examples.proofs.WordLemmas.{each_changed}
use Rattle.trie_examples.proofs.told.key_for_each.Goals as goal

pub returns : goal.returns
returns c e = each_changed _ (λ p. p.0) c.args.numbers.now c.for_each_mut.new.self c.for_each_mut.ensures.changed e (λ p w at r. search rules)
