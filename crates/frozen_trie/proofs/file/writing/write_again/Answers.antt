use Rattle.frozen_trie.proofs.FileLemmas.Streams.{Keeps-appended}
use Rattle.frozen_trie.proofs.file.writing.write_again.Goals as goal

pub returns-in-Ok-clause-bytes : goal.returns-in-Ok-clause-bytes
returns-in-Ok-clause-bytes g c = Keeps-appended _ _ _ _ c.loop-again.invariant c.in-Ok.ensures.bytes
