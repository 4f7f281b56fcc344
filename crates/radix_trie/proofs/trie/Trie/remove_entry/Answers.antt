use Rattle.std.proofs.Common.{subst, sym}
use Rattle.radix_trie.specs.Refusals.{JoinsAreShort}
use Rattle.radix_trie.proofs.trie.Trie.remove_entry.Goals as goal

pub returns-clause-old_pair : goal.returns-clause-old_pair
returns-clause-old_pair g c = rw (← c.in_ok-list.ensures.ok) c.take_entry_at.ensures.old_pair

pub returns-clause-removed : goal.returns-clause-removed
returns-clause-removed g c = rw (← c.in_ok-list.ensures.ok) c.take_entry_at.ensures.removed

pub returns-clause-join : goal.returns-clause-join
returns-clause-join g c = λ inline short. c.take_entry_at.ensures.join (subst (JoinsAreShort c.args.self.now) (sym c.in_ok-list.ensures.ok) short)
