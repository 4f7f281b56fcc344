use Rattle.std.proofs.Common.{◌≡◌, ◌+◌, suc, slice_set, ap, subst, sym, ◌∙◌, arith}
use Rattle.std.proofs.lemmas.List.{length-set}
use Rattle.radix_trie.specs.Values.{LeavesAtPair, TakesPairAtMut}
use Rattle.frozen_trie.proofs.FrozenLemmas.Changed.{AreChangedTo, all_changed, not_changed_yet, one_changed}
use Rattle.frozen_trie.proofs.frozen.values.change_pairs.Goals as goal

pub change-requires : goal.change-requires
change-requires g c = record {
  callable = subst (TakesPairAtMut g.F.Fn c.args.f.now) (sym (not_changed_yet (LeavesAtPair g.F.Fn c.args.f.now) c.loop-i.i c.args.pairs.now c.loop-i.pairs c.index-pairs-i.result c.loop-i.invariant.changed))
      (c.requires.callable c.loop-i.i c.index-pairs-i.result c.loop-i-test.true);
}

pub loop-i-preserved : goal.loop-i-preserved
loop-i-preserved g c =
    let R = LeavesAtPair g.F.Fn c.args.f.now in
    let i = c.loop-i.i in
    let next : suc i ≡ i + 1 = omega arith in
    let was = sym c.index-pairs-i.is in
    let changed = one_changed R i c.args.pairs.now c.loop-i.pairs _ c.change.new.pair (omega (arith, c.loop-i-test.true, c.loop-i.auto.pairs)) c.index-pairs-i.is c.loop-i.invariant.changed
    (c.change.ensures.key ∙ ap (λ p. p.0) was) (subst (λ p. R p c.change.new.pair.1) was c.change.ensures.value) in
    record {
      changed = subst (λ k. AreChangedTo R k c.args.pairs.now (slice_set c.loop-i.pairs i c.change.new.pair)) next changed;
      count = length-set c.loop-i.pairs i c.change.new.pair ∙ c.loop-i.auto.pairs;
    }

pub returns : goal.returns
returns g c = all_changed (LeavesAtPair g.F.Fn c.args.f.now) c.loop-i.i c.args.pairs.now c.loop-i.pairs c.loop-i-test.false c.loop-i.invariant.changed
