use Rattle.std.specs.Io.KnownBytes.{Keeps}
use Rattle.frozen_trie.proofs.file.parts.read_again.Given as goal

abbrev pub invariant-loop-again : goal.invariant-loop-again
invariant-loop-again g l = Keeps (g.R.Read.remaining l.initial.input) (g.R.Read.remaining l.input)
