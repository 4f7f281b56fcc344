use Rattle.std.proofs.Common.{length, Some, ap, subst, ◌∙◌}
use Rattle.std.proofs.lemmas.List.{take_all}
use Rattle.std.proofs.lemmas.Result.{on_ok_weaker}
use Rattle.serde.specs.Event.{Logs, map_begins, WritesEach, WritesEntry}
use Rattle.serde.proofs.Events.{WritesEach-more}
use Rattle.frozen_trie.proofs.formats.FrozenTrieSerialize.serialize.Goals as goal

pub loop-pair-preserved : goal.loop-pair-preserved
loop-pair-preserved g c =
    WritesEach-more (WritesEntry g.K.Described.writes g.V.Described.writes) _ _ _ _ _ _ c.loop-pair-test.true c.pair-item.is c.loop-pair.invariant
    (_, _, _, c.in_ok-begin_key.ensures, c.in_ok-serialize.ensures, c.in_ok-end_key.ensures, c.in_ok-serialize-2.ensures)

pub returns : goal.returns
returns g c =
    let entry = WritesEntry g.K.Described.writes g.V.Described.writes in
    let is = c.pairs-pairs.ensures.pairs in
    let begun = subst (λ n. Logs (g.S.Serializer.written c.args.out.now) (g.S.Serializer.written c.begin_map.new.self) (map_begins (Some n))) (ap length is) c.in_ok-begin_map.ensures in
    let each = subst (λ ps. WritesEach entry ps (g.S.Serializer.written c.begin_map.new.self) (g.S.Serializer.written c.loop-pair.out))
    (take_all c.loop-pair.pair-index c.pairs-pairs.result.now c.loop-pair-test.false ∙ is) c.loop-pair.invariant in
    on_ok_weaker c.end_map.result (λ ended. (_, _, begun, each, ended)) c.end_map.ensures
