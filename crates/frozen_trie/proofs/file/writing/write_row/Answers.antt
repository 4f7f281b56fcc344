use Rattle.std.proofs.Common.{rules}
use Rattle.frozen_trie.proofs.FileLemmas.Streams.{WritesInFull-failed, WritesInFull-then}
use Rattle.frozen_trie.proofs.file.writing.write_row.Goals as goal

pub returns-in_err-write_counted-clause-written : goal.returns-in_err-write_counted-clause-written
returns-in_err-write_counted-clause-written g c =
    WritesInFull-failed c.write_counted.result c.from_residual.result _ _ _ _ c.write_counted.ensures.written (search rules) (search rules)

pub returns-clause-written : goal.returns-clause-written
returns-clause-written g c =
    WritesInFull-then c.write_counted.result c.write_counted-2.result _ _ _ _ _ c.write_counted.ensures.written (search rules) c.write_counted-2.ensures.written
