use Rattle.std.proofs.Common.{take}
use Rattle.serde.specs.Event.{WritesEach, WritesEntry}
use Rattle.frozen_trie.proofs.formats.FrozenTrieSerialize.serialize.Given as goal

abbrev pub invariant-loop-pair : goal.invariant-loop-pair
invariant-loop-pair g l =
    WritesEach (WritesEntry g.K.Described.writes g.V.Described.writes) (take l.pair-index l.pairs) (g.S.Serializer.written l.initial.out) (g.S.Serializer.written l.out)
