use Rattle.frozen_trie.proofs.FileLemmas.Streams.{Keeps-consumed}
use Rattle.frozen_trie.proofs.file.parts.read_again.Goals as goal

pub returns-in-Ok-clause-bytes : goal.returns-in-Ok-clause-bytes
returns-in-Ok-clause-bytes g c = (Keeps-consumed _ _ _ _ c.loop-again.invariant c.in-Ok.ensures.bytes.0, c.in-Ok.ensures.bytes.1)
