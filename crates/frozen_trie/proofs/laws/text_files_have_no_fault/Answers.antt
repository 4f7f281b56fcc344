use Rattle.std.proofs.Common.{ap}
use Rattle.std.specs.Prelude.{⊤}
use Rattle.nibble_map.specs.Nibbles.{nibbles}
use Rattle.frozen_trie.proofs.FileLemmas.Whole.{no_fault}
use Rattle.frozen_trie.proofs.laws.text_files_have_no_fault.Goals as goal

pub returns : goal.returns
returns g c = λ is few why pair place.
    no_fault (λ bytes. bytes) g.V.FileItem.file_bytes (λ _. ⊤) g.V.FileItem.is_item nibbles (λ x y i j e. ap nibbles e) c.args.texts.now is c.is_of_its_pairs.ensures.rising few why pair place
