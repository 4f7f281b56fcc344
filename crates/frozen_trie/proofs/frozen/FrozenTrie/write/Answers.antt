use Rattle.frozen_trie.proofs.FileLemmas.Maps.{fileable, on_ok_both}
use Rattle.frozen_trie.proofs.frozen.FrozenTrie.write.Goals as goal

pub returns-clause-fileable : goal.returns-clause-fileable
returns-clause-fileable g c =
    on_ok_both c.write_all.result (λ fits items. fileable g.K.FileItem.file_bytes g.V.FileItem.file_bytes g.K.FileItem.is_item g.V.FileItem.is_item g.K.TrieKey.encoding c.args.self.now fits c.write_all.ensures.few items c.is_of_its_pairs.ensures.mapped)
    c.write_all.ensures.fits c.write_all.ensures.items

pub returns-clause-written : goal.returns-clause-written
returns-clause-written g c = c.write_all.ensures.written.all

pub returns-clause-part : goal.returns-clause-part
returns-clause-part g c = c.write_all.ensures.written.part
