use Rattle.std.specs.Io.KnownBytes.{Keeps}
use Rattle.frozen_trie.proofs.file.writing.write_again.Given as goal

abbrev pub invariant-loop-again : goal.invariant-loop-again
invariant-loop-again g l = Keeps (g.W.Write.contents l.initial.out) (g.W.Write.contents l.out)
