use Rattle.frozen_trie.proofs.FileLemmas.Whole.{no_fault}
use Rattle.frozen_trie.proofs.laws.files_have_no_fault.Goals as goal

pub returns : goal.returns
returns g c = λ same is few why pair place.
    no_fault g.K.FileItem.file_bytes g.V.FileItem.file_bytes g.K.FileItem.is_item g.V.FileItem.is_item g.K.TrieKey.encoding
    (λ x y i j e. same x y (g.met.K.FileItem.told x y i j e)) c.args.frozen.now is c.is_of_its_pairs.ensures.rising few why pair place
