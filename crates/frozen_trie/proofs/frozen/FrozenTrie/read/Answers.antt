use Rattle.std.proofs.Common.{◌≡◌, [], IfSome, sym, ap, subst, ◌∙◌}
use Rattle.radix_trie.specs.Keys.{IsKeyed}
use Rattle.radix_trie.specs.Views.{pairs_below}
use Rattle.radix_trie.proofs.ChangeLemmas.Keyed.{keyed_empty}
use Rattle.frozen_trie.specs.Files.{IsFileFault, file_of, pair_rows}
use Rattle.frozen_trie.proofs.FileLemmas.Maps.{fault_of_map, file_tells_map, fileable}
use Rattle.frozen_trie.proofs.FileLemmas.Streams.{handed_on}
use Rattle.frozen_trie.proofs.FrozenLemmas.Thawed.{none_of_empty}
use Rattle.frozen_trie.proofs.frozen.FrozenTrie.read.Goals as goal

pub read_all-requires-clause-empty : goal.read_all-requires-clause-empty
read_all-requires-clause-empty g c = ap (λ m. pair_rows g.K.FileItem.file_bytes g.V.FileItem.file_bytes (pairs_below m [])) c.new.ensures ∙ ap (pair_rows g.K.FileItem.file_bytes g.V.FileItem.file_bytes) (none_of_empty g.K.TrieKey.encoding)

pub returns-clause-fileable : goal.returns-clause-fileable
returns-clause-fileable g c =
    let read = c.in_ok-frozen.ensures in
    fileable g.K.FileItem.file_bytes g.V.FileItem.file_bytes g.K.FileItem.is_item g.V.FileItem.is_item g.K.TrieKey.encoding c.in_ok-frozen.frozen read.fits read.few read.items c.is_of_its_pairs.ensures.mapped

pub returns-clause-same : goal.returns-clause-same
returns-clause-same g c = λ m is known.
    let own = c.in_ok-frozen.frozen in
    let read = c.in_ok-frozen.ensures in
    let file = subst (λ r. IfSome r (λ bytes. bytes ≡ file_of g.K.FileItem.file_bytes g.V.FileItem.file_bytes own)) known read.file in
    file_tells_map g.K.FileItem.file_bytes g.V.FileItem.file_bytes g.K.FileItem.is_item g.V.FileItem.is_item g.K.FileItem.is_same g.V.FileItem.is_same g.met.K.FileItem.told g.met.V.FileItem.told g.K.TrieKey.encoding own m
    (fileable g.K.FileItem.file_bytes g.V.FileItem.file_bytes g.K.FileItem.is_item g.V.FileItem.is_item g.K.TrieKey.encoding own read.fits read.few read.items c.is_of_its_pairs.ensures.mapped) is (sym file)

pub returns-in_err-frozen-clause-fault : goal.returns-in_err-frozen-clause-fault
returns-in_err-frozen-clause-fault g c =
    handed_on _ _ (λ e. IfSome (g.R.Read.remaining c.args.input.now) (λ bytes. IsFileFault g.K.FileItem.file_bytes g.V.FileItem.file_bytes g.K.FileItem.is_item g.V.FileItem.is_item g.K.TrieKey.encoding e.why bytes e.pair e.place)) c.from_residual.ensures.1
    (fault_of_map g.K.FileItem.file_bytes g.V.FileItem.file_bytes g.K.FileItem.is_item g.V.FileItem.is_item g.K.TrieKey.encoding _ _ _ _ c.in_err-frozen.ensures.fault)

pub read_all-requires-clause-kept : goal.read_all-requires-clause-kept
read_all-requires-clause-kept g c =
    subst (IsKeyed g.K.TrieKey.encoding g.K.TrieKey.is_value) (sym c.new.ensures) (keyed_empty g.K.TrieKey.encoding g.K.TrieKey.is_value)
