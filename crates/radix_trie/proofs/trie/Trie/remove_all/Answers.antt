use Rattle.std.proofs.Common.{length, sym, ap, subst, arith}
use Rattle.radix_trie.specs.Retains.{RemovesAll, RemovesBeforeOne, RemovesSome}
use Rattle.radix_trie.proofs.ChangeLemmas.Retained.{on_err_always, removes_before_one_first, removes_first, removes_none, removes_some_first}
use Rattle.radix_trie.proofs.trie.Trie.remove_all.Goals as goal

pub loop-list-preserved : goal.loop-list-preserved
loop-list-preserved g c =
    let rest = c.in-Some.ensures.cases.0 in
    let gone = c.in_ok-take_at.ensures.removed in
    let list = c.in-Some.list.now in
    let others = c.in-Some.others.now in
    record {
      removes = λ n r. c.loop-list.invariant.removes n (subst (λ xs. RemovesAll xs c.loop-list.self n) (sym rest) (removes_first list others c.loop-list.self n (subst (λ m. RemovesAll others m n) gone r)));
      some = λ n r. c.loop-list.invariant.some n (subst (λ xs. RemovesSome xs c.loop-list.self n) (sym rest) (removes_some_first list others c.loop-list.self n (subst (λ m. RemovesSome others m n) gone r)));
      stopped = λ n r. c.loop-list.invariant.stopped n (subst (λ xs. RemovesBeforeOne xs c.loop-list.self n) (sym rest) (removes_before_one_first list others c.loop-list.self n (subst (λ m. RemovesBeforeOne others m n) gone r)));
      few = (let shorter = ap length rest in let few = c.loop-list.invariant.few in omega (arith, few, shorter));
    }

pub returns-in_err-take_at-clause-stopped : goal.returns-in_err-take_at-clause-stopped
returns-in_err-take_at-clause-stopped g c =
    on_err_always c.from_residual.result _ (c.loop-list.invariant.stopped _ (subst (λ xs. RemovesBeforeOne xs c.loop-list.self c.take_at.new.self) (sym c.in-Some.ensures.cases.0)
    (removes_none c.in-Some.list.now c.in-Some.others.now c.loop-list.self c.take_at.new.self c.in_err-take_at.ensures.unchanged)))
