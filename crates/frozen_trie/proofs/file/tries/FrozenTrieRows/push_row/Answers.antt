use Rattle.std.proofs.Common.{subst, sym}
use Rattle.radix_trie.specs.Keys.{IsKeyed}
use Rattle.radix_trie.proofs.ChangeLemmas.Keyed.{keyed_inserted}
use Rattle.frozen_trie.specs.FileRows.{IsRefusedRow}
use Rattle.frozen_trie.specs.Files.{RefusesRow}
use Rattle.frozen_trie.proofs.FileLemmas.Faults.{by_item, by_push}
use Rattle.frozen_trie.proofs.FileLemmas.Maps.{not_rising}
use Rattle.frozen_trie.proofs.FileLemmas.Streams.{handed_on}
use Rattle.frozen_trie.proofs.file.tries.FrozenTrieRows.push_row.Goals as goal

pub returns-in_err-key-clause-refused : goal.returns-in_err-key-clause-refused
returns-in_err-key-clause-refused g c =
    handed_on _ _ _ c.from_residual.ensures.1
    (by_item (λ why. IsRefusedRow (RefusesRow g.K.FileItem.file_bytes g.V.FileItem.file_bytes g.K.FileItem.is_item g.V.FileItem.is_item g.K.TrieKey.encoding) why c.args.self.now (c.args.key.now, c.args.value.now)) _ _ _
    c.in_err-key.ensures.none tt (λ none. none))

pub returns-in_err-value-clause-refused : goal.returns-in_err-value-clause-refused
returns-in_err-value-clause-refused g c =
    handed_on _ _ _ c.from_residual-in_err-value.ensures.1
    (by_item (λ why. IsRefusedRow (RefusesRow g.K.FileItem.file_bytes g.V.FileItem.file_bytes g.K.FileItem.is_item g.V.FileItem.is_item g.K.TrieKey.encoding) why c.args.self.now (c.args.key.now, c.args.value.now)) _ _ _
    c.in_err-value.ensures.none tt (λ none. none))

pub returns-in-Err-clause-refused : goal.returns-in-Err-clause-refused
returns-in-Err-clause-refused g c =
    let key = c.in_ok-key.key in
    by_push (λ why. IsRefusedRow (RefusesRow g.K.FileItem.file_bytes g.V.FileItem.file_bytes g.K.FileItem.is_item g.V.FileItem.is_item g.K.TrieKey.encoding) why c.args.self.now (c.args.key.now, c.args.value.now)) c.in-Err.error.why _
    c.refused.ensures.memory c.refused.ensures.full c.refused.ensures.unsorted tt c.in-Err.ensures.full
    (λ e. (
      key,
      c.in_ok-key.ensures.item,
      c.in_ok-key.ensures.bytes,
      not_rising g.K.TrieKey.encoding c.args.self.now (g.K.TrieKey.encoding key) c.is_of_its_pairs.ensures.mapped c.is_of_its_pairs.ensures.rising (c.in-Err.ensures.unsorted e),
    ))

pub returns-in-Ok-clause-kept : goal.returns-in-Ok-clause-kept
returns-in-Ok-clause-kept g c = λ keyed.
    subst (IsKeyed g.K.TrieKey.encoding g.K.TrieKey.is_value) (sym c.in-Ok.ensures.stored)
    (keyed_inserted g.K.TrieKey.encoding g.K.TrieKey.is_value c.args.self.now c.in_ok-key.key c.in_ok-value.value keyed c.in-Ok.ensures.is_value)
