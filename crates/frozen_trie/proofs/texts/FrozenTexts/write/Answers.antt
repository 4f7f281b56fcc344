use Rattle.std.specs.Prelude.{⊤}
use Rattle.nibble_map.specs.Nibbles.{nibbles}
use Rattle.frozen_trie.proofs.FileLemmas.Maps.{fileable, on_ok_both}
use Rattle.frozen_trie.proofs.texts.FrozenTexts.write.Goals as goal

pub returns-clause-fileable : goal.returns-clause-fileable
returns-clause-fileable g c =
    on_ok_both c.write_all.result (λ fits items. fileable (λ bytes. bytes) g.V.FileItem.file_bytes (λ _. ⊤) g.V.FileItem.is_item nibbles c.args.self.now fits c.write_all.ensures.few items c.is_of_its_pairs.ensures.mapped)
    c.write_all.ensures.fits c.write_all.ensures.items

pub returns-clause-written : goal.returns-clause-written
returns-clause-written g c = c.write_all.ensures.written.all

pub returns-clause-part : goal.returns-clause-part
returns-clause-part g c = c.write_all.ensures.written.part
