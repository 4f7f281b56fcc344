use Rattle.std.proofs.Common.{◌≡◌, ◌+◌, ◌≤◌, length}
use Rattle.std.specs.FinMap as fin
use Rattle.serde_json.specs.View.{members_view}
use Rattle.radix_trie.proofs.JsonLemmas.Objects.{put_all}
use Rattle.radix_trie.proofs.JsonLemmas.Texts.{AreTexts}
use Rattle.radix_trie.proofs.json.from_members.Given as goal

abbrev pub invariant-loop-key : goal.invariant-loop-key
invariant-loop-key l = record {
  texts : AreTexts (fin.entries l.trie);
  rest : put_all l.key-iterator (members_view (fin.values l.trie)) ≡ members_view l.members.entries;
  counted : fin.len l.trie + length l.key-iterator ≤ length l.members.entries;
}
