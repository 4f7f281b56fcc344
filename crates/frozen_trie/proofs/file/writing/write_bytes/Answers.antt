use Rattle.std.proofs.Common.{rules}
use Rattle.frozen_trie.proofs.FileLemmas.Streams.{Appends-step}
use Rattle.frozen_trie.proofs.file.writing.write_bytes.Goals as goal

pub loop-written-preserved : goal.loop-written-preserved
loop-written-preserved g c = record {
  within = search rules;
  appended = Appends-step _ _ _ _ _ _ _ c.split_at.ensures.back c.loop-written.invariant.appended c.in-Ok.ensures.bytes;
}
