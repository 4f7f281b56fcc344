use Rattle.std.proofs.Common.{◌++◌, ◌∙◌, refl, sym, subst, drop, arith}
use Rattle.radix_nodes.specs.Lending.{Succeeds}
use Rattle.radix_nodes.specs.Nodes.{tree_of, fragment_of}
use Rattle.radix_nodes.proofs.LendingLemmas.Writes.{own_replaced}
use Rattle.radix_nodes.proofs.SearchLemmas.Deepest.{stuck_absent}
use Rattle.radix_nodes.proofs.search.find_mut.here.Goals as goal

pub returns-then-depth-len : goal.returns-then-depth-len
returns-then-depth-len g c =
    let n = c.args.top.now.value in
    let key = c.args.list.now in (
      (
        refl,
        (λ w. subst (λ z. Succeeds (fragment_of n ++ drop c.args.depth key) (tree_of z) (tree_of w) (tree_of n) (tree_of w)) (sym c.unbox.ensures.value) (own_replaced n w key c.args.depth (c.if-depth-len.true ∙ c.len.ensures) c.requires.placed)),
        (refl, tt),
      ),
      record { writes_back = tt },
    )

pub returns-else-depth-len : goal.returns-else-depth-len
returns-else-depth-len g c =
    ((refl, (λ w. tt), (refl, stuck_absent c.args.top.now.value c.args.list.now c.args.depth (omega (arith, c.requires.depth, c.if-depth-len.false, c.len.ensures)) c.requires.stuck)), record { writes_back = tt })
