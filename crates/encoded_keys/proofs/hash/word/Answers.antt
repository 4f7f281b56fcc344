use Rattle.encoded_keys.specs.Index.{word_in}
use Rattle.encoded_keys.proofs.hash.word.Goals as goal

pub returns : goal.returns
unfolding word_in
returns c = c.from_le_bytes.ensures
