use Rattle.std.proofs.Common.{ap, rules, subst, ◌∙◌}
use Rattle.std.specs.Int.{w32, to_le_bytes}
use Rattle.frozen_trie.specs.FileRows.{WritesInFull}
use Rattle.frozen_trie.proofs.FileLemmas.Streams.{WritesInFull-failed, WritesInFull-then}
use Rattle.frozen_trie.proofs.file.writing.write_counted.Goals as goal

pub returns-in_err-write_bytes-clause-written : goal.returns-in_err-write_bytes-clause-written
returns-in_err-write_bytes-clause-written g c =
    let count = subst (WritesInFull c.write_bytes.result _ _) (c.to_le_bytes.ensures ∙ ap (to_le_bytes w32) c.in-Some.ensures) c.write_bytes.ensures in
    WritesInFull-failed c.write_bytes.result c.from_residual.result _ _ _ _ count (search rules) (search rules)

pub returns-clause-written : goal.returns-clause-written
returns-clause-written g c =
    let count = subst (WritesInFull c.write_bytes.result _ _) (c.to_le_bytes.ensures ∙ ap (to_le_bytes w32) c.in-Some.ensures) c.write_bytes.ensures in
    WritesInFull-then c.write_bytes.result c.write_bytes-2.result _ _ _ _ _ count (search rules) c.write_bytes-2.ensures
