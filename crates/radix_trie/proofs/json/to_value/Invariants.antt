use Rattle.std.proofs.Common.{◌≡◌}
use Rattle.std.specs.FinMap as fin
use Rattle.serde_json.specs.View.{members_view}
use Rattle.serde_json.specs.Written.{members_have_float}
use Rattle.radix_trie.proofs.JsonLemmas.Objects.{put_all}
use Rattle.radix_trie.proofs.json.to_value.Given as goal

abbrev pub invariant-loop-value : goal.invariant-loop-value
invariant-loop-value l = members_have_float (members_view (fin.values l.trie)) ≡ members_have_float (members_view l.value-iterator)

abbrev pub invariant-loop-key : goal.invariant-loop-key
invariant-loop-key l = put_all l.key-iterator (members_view l.members.entries) ≡ members_view (fin.values l.trie)
