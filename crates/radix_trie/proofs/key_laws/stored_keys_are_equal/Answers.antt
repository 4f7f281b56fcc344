use Rattle.std.proofs.Common.{not, sym, subst}
use Rattle.nibble_map.specs.Lists.{is_prefix}
use Rattle.radix_trie.specs.Keys.{IsKeyed}
use Rattle.radix_trie.proofs.ChangeLemmas.Keyed.{keyed_empty, keyed_extended, keyed_inserted, keyed_part, keyed_removed, keyed_written, keyed_written_or}
use Rattle.radix_trie.proofs.key_laws.stored_keys_are_equal.Goals as goal

pub returns-clause-equal : goal.returns-clause-equal
returns-clause-equal g c = λ m k p keyed is at.
    let stored = keyed (g.K.TrieKey.encoding k) p at in
    g.met.K.TrieKey.distinct p.0 k stored.1 is (sym stored.0)

pub returns-clause-empty : goal.returns-clause-empty
returns-clause-empty g c = λ m e. subst (IsKeyed g.K.TrieKey.encoding g.K.TrieKey.is_value) (sym e) (keyed_empty g.K.TrieKey.encoding g.K.TrieKey.is_value)

pub returns-clause-inserted : goal.returns-clause-inserted
returns-clause-inserted g c = λ m k v keyed is. keyed_inserted g.K.TrieKey.encoding g.K.TrieKey.is_value m k v keyed is

pub returns-clause-removed : goal.returns-clause-removed
returns-clause-removed g c = λ m e keyed. keyed_removed g.K.TrieKey.encoding g.K.TrieKey.is_value m e keyed

pub returns-clause-written : goal.returns-clause-written
returns-clause-written g c = λ m e v keyed. keyed_written g.K.TrieKey.encoding g.K.TrieKey.is_value m e v keyed

pub returns-clause-written_or : goal.returns-clause-written_or
returns-clause-written_or g c = keyed_written_or g.K.TrieKey.encoding g.K.TrieKey.is_value

pub returns-clause-part : goal.returns-clause-part
returns-clause-part g c = λ m e. keyed_part g.K.TrieKey.encoding g.K.TrieKey.is_value m (is_prefix e)

pub returns-clause-rest : goal.returns-clause-rest
returns-clause-rest g c = λ m e. keyed_part g.K.TrieKey.encoding g.K.TrieKey.is_value m (λ q. not (is_prefix e q))

pub returns-clause-extended : goal.returns-clause-extended
returns-clause-extended g c = keyed_extended g.K.TrieKey.encoding g.K.TrieKey.is_value
