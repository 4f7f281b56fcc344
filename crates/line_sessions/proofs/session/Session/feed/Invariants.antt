use Rattle.std.proofs.Common.{◌≡◌, List, ℕ, ◌++◌, length}
use Rattle.line_sessions.specs.Standing.{StandsAt}
use Rattle.line_sessions.proofs.SessionLemmas.Standing.{IsOn}
use Rattle.line_sessions.proofs.session.Session.feed.Given as goal

abbrev pub invariant-loop-line : goal.invariant-loop-line
invariant-loop-line g l = record {
  heard :
      (heard : List ℕ) × (heard ++ l.rest ≡ l.bytes)
      × ((b sent : List ℕ) (start : _) → StandsAt g.P.Program.replies b sent start l.initial.program l.initial.self
      → IsOn g.P.Program.replies (b ++ heard) sent l.initial.writer.held l.writer.held start l.program l.self);
  noted : l.writer.has_failed ≡ l.initial.writer.has_failed;
}

abbrev pub decreases-loop-line : goal.decreases-loop-line
decreases-loop-line g l = length l.rest
