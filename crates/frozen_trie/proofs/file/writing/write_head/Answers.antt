use Rattle.std.proofs.Common.{rules, subst}
use Rattle.frozen_trie.specs.FileRows.{WritesInFull}
use Rattle.frozen_trie.proofs.FileLemmas.Streams.{WritesInFull-failed, WritesInFull-then}
use Rattle.frozen_trie.proofs.file.writing.write_head.Goals as goal

pub returns-in_err-write_bytes : goal.returns-in_err-write_bytes
returns-in_err-write_bytes g c = WritesInFull-failed c.write_bytes.result c.from_residual.result _ _ _ _ c.write_bytes.ensures (search rules) (search rules)

pub returns-in_err-write_bytes-2 : goal.returns-in_err-write_bytes-2
returns-in_err-write_bytes-2 g c =
    let version = subst (WritesInFull c.write_bytes-2.result _ _) c.to_le_bytes.ensures c.write_bytes-2.ensures in
    WritesInFull-then c.write_bytes.result c.from_residual-in_err-write_bytes-2.result _ _ _ _ _ c.write_bytes.ensures (search rules)
    (WritesInFull-failed c.write_bytes-2.result c.from_residual-in_err-write_bytes-2.result _ _ _ _ version (search rules) (search rules))

pub returns : goal.returns
returns g c =
    let version = subst (WritesInFull c.write_bytes-2.result _ _) c.to_le_bytes.ensures c.write_bytes-2.ensures in
    let count = subst (WritesInFull c.write_bytes-3.result _ _) c.to_le_bytes-2.ensures c.write_bytes-3.ensures in
    WritesInFull-then c.write_bytes.result c.write_bytes-3.result _ _ _ _ _ c.write_bytes.ensures (search rules)
    (WritesInFull-then c.write_bytes-2.result c.write_bytes-3.result _ _ _ _ _ version (search rules) count)
