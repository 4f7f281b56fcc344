use Rattle.std.proofs.Common.{◌≡◌, ◌+◌, ◌-◌, ◌^◌, min}
use Rattle.line_sessions.proofs.SessionLemmas.Serving.{Heard}
use Rattle.line_sessions.proofs.engine.drive.Given as goal

abbrev pub invariant-loop-turn : goal.invariant-loop-turn
invariant-loop-turn g l = record {
  heard :
      Heard g.P.Program.replies l.initial.reader.unread l.reader.unread
      l.initial.writer.held l.writer.held l.initial.program l.program l.session;
  reads : min l.reader.reads (2 ^ 64 - 1) ≡ min (l.initial.reader.reads + l._turn) (2 ^ 64 - 1);
  reader_failed : l.reader.has_failed ≡ l.initial.reader.has_failed;
  writer_failed : l.writer.has_failed ≡ l.initial.writer.has_failed;
}
