use Rattle.std.proofs.Common.{◌∙◌}
use Rattle.radix_trie.proofs.trie.entry.Entry.insert.Goals as goal

pub returns-clause-old_value : goal.returns-clause-old_value
returns-clause-old_value g c = rw (c.into_nibbles-list.ensures ∙ c.args.self.encoded) at c.insert_at.ensures.old_value

pub returns-clause-stored : goal.returns-clause-stored
returns-clause-stored g c = rw (c.into_nibbles-list.ensures ∙ c.args.self.encoded) at c.insert_at.ensures.stored

pub returns-clause-room : goal.returns-clause-room
returns-clause-room g c = rw (c.into_nibbles-list.ensures ∙ c.args.self.encoded) at c.insert_at.ensures.room

pub returns-clause-why : goal.returns-clause-why
returns-clause-why g c = rw (c.into_nibbles-list.ensures ∙ c.args.self.encoded) at c.insert_at.ensures.why
