use Rattle.std.proofs.Common.{◌≡◌, [], IfSome, sym, ap, subst, ◌∙◌}
use Rattle.std.specs.Prelude.{⊤}
use Rattle.nibble_map.specs.Nibbles.{nibbles}
use Rattle.radix_trie.specs.Views.{pairs_below}
use Rattle.frozen_trie.specs.Files.{IsFileFault, file_of, pair_rows}
use Rattle.frozen_trie.proofs.FileLemmas.Maps.{fault_of_map, file_tells_map, fileable}
use Rattle.frozen_trie.proofs.FileLemmas.Streams.{handed_on}
use Rattle.frozen_trie.proofs.FrozenLemmas.Thawed.{none_of_empty}
use Rattle.frozen_trie.proofs.texts.FrozenTexts.read.Goals as goal

pub read_all-requires-clause-empty : goal.read_all-requires-clause-empty
read_all-requires-clause-empty g c = ap (λ m. pair_rows (λ bytes. bytes) g.V.FileItem.file_bytes (pairs_below m [])) c.new.ensures ∙ ap (pair_rows (λ bytes. bytes) g.V.FileItem.file_bytes) (none_of_empty nibbles)

pub returns-clause-fileable : goal.returns-clause-fileable
returns-clause-fileable g c =
    let read = c.in_ok-texts.ensures in
    fileable (λ bytes. bytes) g.V.FileItem.file_bytes (λ _. ⊤) g.V.FileItem.is_item nibbles c.in_ok-texts.texts read.fits read.few read.items c.is_of_its_pairs.ensures.mapped

pub returns-clause-same : goal.returns-clause-same
returns-clause-same g c = λ m is known.
    let own = c.in_ok-texts.texts in
    let read = c.in_ok-texts.ensures in
    let file = subst (λ r. IfSome r (λ bytes. bytes ≡ file_of (λ bytes. bytes) g.V.FileItem.file_bytes own)) known read.file in
    file_tells_map (λ bytes. bytes) g.V.FileItem.file_bytes (λ _. ⊤) g.V.FileItem.is_item (λ a b. a ≡ b) g.V.FileItem.is_same (λ _ _ _ _ e. e) g.met.V.FileItem.told nibbles own m
    (fileable (λ bytes. bytes) g.V.FileItem.file_bytes (λ _. ⊤) g.V.FileItem.is_item nibbles own read.fits read.few read.items c.is_of_its_pairs.ensures.mapped) is (sym file)

pub returns-in_err-texts-clause-fault : goal.returns-in_err-texts-clause-fault
returns-in_err-texts-clause-fault g c =
    handed_on _ _ (λ e. IfSome (g.R.Read.remaining c.args.input.now) (λ bytes. IsFileFault (λ bytes. bytes) g.V.FileItem.file_bytes (λ _. ⊤) g.V.FileItem.is_item nibbles e.why bytes e.pair e.place)) c.from_residual.ensures.1
    (fault_of_map (λ bytes. bytes) g.V.FileItem.file_bytes (λ _. ⊤) g.V.FileItem.is_item nibbles _ _ _ _ c.in_err-texts.ensures.fault)
