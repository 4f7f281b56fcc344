use Rattle.std.proofs.Common.{subst}
use Rattle.nibble_map.specs.Maps.{below}
use Rattle.radix_trie.specs.Values.{ChangesEachPair, LeavesAtPair}
use Rattle.radix_trie.proofs.ChangeLemmas.Keyed.{keyed_changed_below}
use Rattle.radix_trie.proofs.view.trie_edit.TrieTrieEdit.for_each_mut.Goals as goal

pub returns-clause-changed : goal.returns-clause-changed
returns-clause-changed g c =
    subst (λ p. ChangesEachPair (LeavesAtPair g.F.Fn c.args.f) (below c.args.self.now p) (below c.change_below.new.self p)) c.new-whole.ensures c.change_below.ensures.changed

pub returns-clause-keyed : goal.returns-clause-keyed
returns-clause-keyed g c =
    keyed_changed_below g.K.TrieKey.encoding g.K.TrieKey.is_value _ c.args.self.now c.change_below.new.self c.new-whole.result c.change_below.ensures.changed c.change_below.ensures.elsewhere
