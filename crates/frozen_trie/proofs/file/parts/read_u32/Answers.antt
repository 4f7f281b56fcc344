use Rattle.std.proofs.Common.{sym, subst}
use Rattle.std.specs.Io.KnownBytes.{Consumes}
use Rattle.frozen_trie.proofs.file.parts.read_u32.Goals as goal

pub returns-clause-bytes : goal.returns-clause-bytes
returns-clause-bytes g c = subst (Consumes _ _) (sym c.u32_of.ensures) c.in_ok-fill.ensures.bytes
