use Rattle.std.proofs.Common.{subst, sym, ◌∙◌}
use Rattle.radix_trie.specs.Entries.{entry_map}
use Rattle.radix_trie.specs.Refusals.{JoinsAreShort}
use Rattle.radix_trie.proofs.trie.entry.Entry.remove.Goals as goal

pub returns-clause-join : goal.returns-clause-join
returns-clause-join g c = λ short.
    let same = c.nibbles.ensures ∙ c.args.self.encoded in
    c.take_entry_at.ensures.join (subst (JoinsAreShort (entry_map c.args.self)) (sym same) short)
