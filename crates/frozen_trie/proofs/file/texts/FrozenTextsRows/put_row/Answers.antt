use Rattle.std.proofs.Common.{[], arith}
use Rattle.std.proofs.lemmas.Result.{on_ok_weaker}
use Rattle.std.specs.Prelude.{⊤}
use Rattle.radix_trie.specs.Views.{pairs_below}
use Rattle.radix_trie.specs.Walks.{deref_pair}
use Rattle.frozen_trie.proofs.FileLemmas.Maps.{count_rows, next_item}
use Rattle.frozen_trie.proofs.FrozenLemmas.Whole.{count_whole}
use Rattle.frozen_trie.proofs.file.texts.FrozenTextsRows.put_row.Goals as goal

pub pair_at-requires : goal.pair_at-requires
pair_at-requires g c =
    let m = c.args.self.now in
    omega (arith, c.requires, count_rows (λ bytes. bytes) g.V.FileItem.file_bytes (pairs_below m []), count_whole m)

pub returns-clause-items : goal.returns-clause-items
returns-clause-items g c =
    let ps = pairs_below c.args.self.now [] in
    on_ok_weaker c.append_to.result
    (λ item. next_item (λ key. key) g.V.FileItem.file_bytes (λ _. ⊤) g.V.FileItem.is_item ps c.args.at (deref_pair c.pair_at.result) c.pair_at.ensures.pair tt item) c.append_to.ensures.item
