use Rattle.std.proofs.Common.{refl}
use Rattle.std.specs.Prelude.{⊤}
use Rattle.nibble_map.specs.Nibbles.{nibbles}
use Rattle.frozen_trie.specs.FileRows.{IsRefusedRow}
use Rattle.frozen_trie.specs.Files.{RefusesRow}
use Rattle.frozen_trie.proofs.FileLemmas.Faults.{by_item, by_push}
use Rattle.frozen_trie.proofs.FileLemmas.Maps.{not_rising}
use Rattle.frozen_trie.proofs.FileLemmas.Streams.{handed_on}
use Rattle.frozen_trie.proofs.file.texts.FrozenTextsRows.push_row.Goals as goal

pub returns-in_err-value-clause-refused : goal.returns-in_err-value-clause-refused
returns-in_err-value-clause-refused g c =
    handed_on _ _ _ c.from_residual.ensures.1
    (by_item (λ why. IsRefusedRow (RefusesRow (λ bytes. bytes) g.V.FileItem.file_bytes (λ _. ⊤) g.V.FileItem.is_item nibbles) why c.args.self.now (c.args.key.now, c.args.value.now)) _ _ _
    c.in_err-value.ensures.none tt (λ none. none))

pub returns-in-Err-clause-refused : goal.returns-in-Err-clause-refused
returns-in-Err-clause-refused g c =
    by_push (λ why. IsRefusedRow (RefusesRow (λ bytes. bytes) g.V.FileItem.file_bytes (λ _. ⊤) g.V.FileItem.is_item nibbles) why c.args.self.now (c.args.key.now, c.args.value.now)) c.in-Err.error.why _
    c.refused.ensures.memory c.refused.ensures.full c.refused.ensures.unsorted tt c.in-Err.ensures.full
    (λ e. (c.args.key.now, tt, refl, not_rising nibbles c.args.self.now (nibbles c.args.key.now) c.is_of_its_pairs.ensures.mapped c.is_of_its_pairs.ensures.rising (c.in-Err.ensures.unsorted e)))
