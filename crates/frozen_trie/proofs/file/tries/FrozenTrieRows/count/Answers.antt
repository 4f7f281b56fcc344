use Rattle.std.proofs.Common.{[], sym, ◌∙◌}
use Rattle.radix_trie.specs.Views.{pairs_below}
use Rattle.frozen_trie.proofs.FileLemmas.Maps.{count_rows}
use Rattle.frozen_trie.proofs.FrozenLemmas.Whole.{count_whole}
use Rattle.frozen_trie.proofs.file.tries.FrozenTrieRows.count.Goals as goal

pub returns : goal.returns
returns g c = c.len.ensures ∙ sym (count_whole c.args.self.now) ∙ sym (count_rows g.K.FileItem.file_bytes g.V.FileItem.file_bytes (pairs_below c.args.self.now []))
