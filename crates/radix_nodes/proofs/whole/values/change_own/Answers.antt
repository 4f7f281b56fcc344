use Rattle.std.proofs.Common.{sym, subst, arith, All, Some}
use Rattle.masked_tree.specs.Same.{IsPairCopy}
use Rattle.radix_nodes.specs.Nodes.{unboxed}
use Rattle.radix_nodes.specs.Pairs.{own_pair}
use Rattle.radix_nodes.specs.Values.{IsChangedBy, TakesPair}
use Rattle.radix_nodes.proofs.whole.values.change_own.Goals as goal

pub change-requires : goal.change-requires
change-requires g c =
    let x = c.in-Some.pair.value in
    let own : All (TakesPair g.F.Fn c.args.f.now) (own_pair (Some x)) = subst (λ o. All (TakesPair g.F.Fn c.args.f.now) (own_pair (unboxed o))) c.in-Some.is c.requires.callable in
    record { callable = subst (λ y. TakesPair g.F.Fn c.args.f.now (y.key, y.value)) (sym c.deref_mut.ensures.value) (own 0 (x.key, x.value) (omega arith)) }

pub returns-in-Some : goal.returns-in-Some
returns-in-Some g c =
    let R = IsChangedBy g.F.Fn c.args.f.now in
    subst (λ o. IsPairCopy R (unboxed o) (Some c.change.new.pair)) (sym c.in-Some.is)
    (subst (λ x. R x c.change.new.pair) c.deref_mut.ensures.value c.change.ensures)
