use Rattle.std.proofs.Common.{◌∙◌, sym}
use Rattle.radix_trie.proofs.PathLemmas.Loci.{false_is_not_true}
use Rattle.radix_trie.proofs.trie.Trie.try_insert.Goals as goal

pub returns-in_default-clause-why : goal.returns-in_default-clause-why
returns-in_default-clause-why g c = rw c.not_stored.ensures.why (λ inline. absurd (false_is_not_true (c.in_default.ensures.inline inline)))

pub returns-then-contains-clause-why : goal.returns-then-contains-clause-why
returns-then-contains-clause-why g c = rw (c.not_stored-then-contains.ensures.why, ← c.in-Ok.ensures.ok) (c.contains.ensures.stored.0 c.if-contains.true)

pub returns-in-Ok-insert_at-clause-stored : goal.returns-in-Ok-insert_at-clause-stored
returns-in-Ok-insert_at-clause-stored g c = rw c.in-Ok.ensures.ok at c.in-Ok-insert_at.ensures.stored

pub returns-in-Ok-insert_at-clause-vacant : goal.returns-in-Ok-insert_at-clause-vacant
returns-in-Ok-insert_at-clause-vacant g c = λ stored. false_is_not_true (sym c.if-contains.false ∙ c.contains.ensures.stored.1 (rw c.in-Ok.ensures.ok stored))

pub returns-in-Ok-insert_at-clause-room : goal.returns-in-Ok-insert_at-clause-room
returns-in-Ok-insert_at-clause-room g c = rw c.in-Ok.ensures.ok at c.in-Ok-insert_at.ensures.room
