use Rattle.std.proofs.Common.{◌++◌, ◌∷◌, [], ap, arith, subst, sym, ◌∙◌}
use Rattle.radix_trie.specs.Combinations.{AreAllPlaced, all_left, turns}
use Rattle.radix_trie.proofs.CombinationLemmas.Searches.{first_below, leaf_below, only_below, only_beside, placed-push, turns-push, with_own}
use Rattle.radix_trie.proofs.iter.combination.descend.Goals.{then-may_give+in_ok-push, else-may_give}
use Rattle.radix_trie.proofs.iter.combination.descend.Goals as goal

pub returns-then-not-may_give-clause-pairs : goal.returns-then-not-may_give-clause-pairs
returns-then-not-may_give-clause-pairs g c = only_beside c.args.operation c.args.stack.now.items c.args.below c.args.beside (c.may_give.ensures c.if-not-may_give.true)

pub returns-then-not-may_give-clause-placed : goal.returns-then-not-may_give-clause-placed
returns-then-not-may_give-clause-placed g c = placed-push c.args.stack.now.items c.args.beside c.requires.placed c.requires.beside

pub returns-then-not-may_give-clause-turns : goal.returns-then-not-may_give-clause-turns
returns-then-not-may_give-clause-turns g c = omega (arith, turns-push c.args.stack.now.items c.args.beside)

pub returns-then-is_leaf-2-clause-pairs : goal.returns-then-is_leaf-2-clause-pairs
returns-then-is_leaf-2-clause-pairs g c =
    leaf_below c.args.operation c.args.stack.now.items c.args.below c.args.beside c.requires.below c.requires.beside
    (c.is_leaf.ensures c.if-is_leaf.true) (c.is_leaf-then-is_leaf.ensures c.if-is_leaf-2.true) c.requires.first_bare c.requires.second_bare

pub returns-then-is_leaf-2-clause-placed : goal.returns-then-is_leaf-2-clause-placed
returns-then-is_leaf-2-clause-placed g c =
    placed-push c.args.stack.now.items (with_own c.args.beside c.args.below.first.own c.args.below.second.own) c.requires.placed c.requires.beside

pub returns-then-is_leaf-2-clause-turns : goal.returns-then-is_leaf-2-clause-turns
returns-then-is_leaf-2-clause-turns g c =
    omega (arith, turns-push c.args.stack.now.items (with_own c.args.beside c.args.below.first.own c.args.below.second.own))

pub returns-clause-pairs : goal.returns-clause-pairs
returns-clause-pairs g c = elim c.if-may_give.branch [
  | then-may_give+in_ok-push w ↦
      let pushed = ap (λ s. s.items) w.stack-is ∙ w.in_ok-push.ensures.items in
      first_below c.args.operation c.args.stack.now.items c.args.below c.args.beside c.if-may_give.stack.items pushed
  | else-may_give w ↦
      let same = ap (λ s. s.items) w.stack-is in
      ap (λ bs. all_left c.args.operation (bs ++ c.args.below ∷ [])) same ∙ only_below c.args.operation c.args.stack.now.items c.args.below c.args.beside (c.may_give-2.ensures w.if-may_give.false)
]

pub returns-clause-placed : goal.returns-clause-placed
returns-clause-placed g c = elim c.if-may_give.branch [
  | then-may_give+in_ok-push w ↦
      let pushed = ap (λ s. s.items) w.stack-is ∙ w.in_ok-push.ensures.items in
      placed-push c.if-may_give.stack.items c.args.below (subst AreAllPlaced (sym pushed) (placed-push c.args.stack.now.items c.args.beside c.requires.placed c.requires.beside)) c.requires.below
  | else-may_give w ↦
      let same = ap (λ s. s.items) w.stack-is in
      placed-push c.if-may_give.stack.items c.args.below (subst AreAllPlaced (sym same) c.requires.placed) c.requires.below
]

pub returns-clause-turns : goal.returns-clause-turns
returns-clause-turns g c = elim c.if-may_give.branch [
  | then-may_give+in_ok-push w ↦
      let pushed = ap (λ s. s.items) w.stack-is ∙ w.in_ok-push.ensures.items in
      omega (arith, turns-push c.if-may_give.stack.items c.args.below, ap turns pushed, turns-push c.args.stack.now.items c.args.beside)
  | else-may_give w ↦
      let same = ap (λ s. s.items) w.stack-is in omega (arith, turns-push c.if-may_give.stack.items c.args.below, ap turns same)
]
