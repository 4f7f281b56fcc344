use Rattle.std.proofs.Common.{◌≡◌, ◌+◌, ◌<◌, [], arith, ap, refl, subst, take, length}
use Rattle.std.proofs.lemmas.Bool.Decides.{nat_tests}
use Rattle.nibble_map.proofs.ListLemmas.Cut.{empty_of_length}
use Rattle.radix_nodes.specs.Nodes.{children_of, tree_of}
use Rattle.radix_trie.specs.Combinations.{IsCutOff, behind, lead, own_of, row_of_branch}
use Rattle.radix_trie.proofs.CombinationLemmas.Nodes.{row_ahead, row_begins}
use Rattle.radix_trie.proofs.CombinationLemmas.Trees.{behind-zero, cut_off_within}
use Rattle.radix_trie.proofs.iter.combination.branches.Branch.cut.Goals.{in-Some+else-len-self, in_default}
use Rattle.radix_trie.proofs.iter.combination.branches.Branch.cut.Goals as goal

pub overflow_sub-len : goal.overflow_sub-len
overflow_sub-len g c =
    let b = c.args.self.now in
    let ahead = row_ahead b.offset b.row.now _ _ _ c.in-Some.ensures.cases.0 c.deref.ensures c.requires.placed in
    omega (arith, ahead.0, ahead.1, c.len.ensures)

pub returns-then-len-self-clause-cut : goal.returns-then-len-self-clause-cut
returns-then-len-self-clause-cut g c =
    let b = c.args.self.now in
    let is = row_begins b.offset b.row.now _ _ _ c.in-Some.ensures.cases.0 c.deref.ensures in
    let ahead = row_ahead b.offset b.row.now _ _ _ c.in-Some.ensures.cases.0 c.deref.ensures c.requires.placed in
    let within : c.args.nibbles + b.offset < c.len.result = grind (arith, nat_tests, ahead.0, ahead.1, c.len.ensures, c.if-len-self.true) in
    cut_off_within b.offset (tree_of c.deref.result.now) _ _ is c.requires.placed c.args.nibbles c.requires.some _ _ _ (behind-zero _) (omega (arith, within, ahead.0, c.len.ensures)) refl
    (row_begins (b.offset + c.args.nibbles) (take 1 b.row.now) [] _ _ (ap (take 1) c.in-Some.ensures.cases.0) c.deref.ensures)

pub returns-clause-cut : goal.returns-clause-cut
returns-clause-cut g c =
    let b = c.args.self.now in
    elim c.match-split_first.branch [
      | in-Some+else-len-self w ↦
          let ahead = row_ahead b.offset b.row.now _ _ _ w.in-Some.ensures.cases.0 w.deref.ensures c.requires.placed in
          let whole : length (lead (row_of_branch b)) ≡ c.args.nibbles = grind (arith, nat_tests, ahead.0, ahead.1, ahead.2, w.len.ensures, w.if-len-self.false, c.requires.within) in
          subst (λ n. IsCutOff n (row_of_branch b) (own_of c.enter.result.0.own) (row_of_branch c.enter.result.0) (row_of_branch c.enter.result.1)) whole c.enter.ensures.cut
      | in_default w ↦
          let bare = ap (λ r. length (lead (behind b.offset (children_of r)))) (empty_of_length b.row.now w.in_default.ensures.cases) in
          absurd (omega (arith, c.requires.some, c.requires.within, bare))
    ]
