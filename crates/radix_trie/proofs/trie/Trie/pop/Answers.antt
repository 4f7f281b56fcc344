use Rattle.radix_nodes.specs.Nodes.{tree_of}
use Rattle.radix_trie.proofs.ChangeLemmas.Popped.{popped, none_popped, pop_refused}
use Rattle.radix_trie.proofs.ChangeLemmas.Removals.{map_of-removed, removed_some, removed_kept}
use Rattle.radix_trie.proofs.PathLemmas.Joins.{short_lists_join_short}
use Rattle.radix_trie.proofs.trie.Trie.pop.Goals as goal

pub overflow_sub-self : goal.overflow_sub-self
overflow_sub-self g c =
    let t = tree_of c.self.inside.root in
    let cut = (popped g.K.TrieKey.encoding t _ _ _ c.self.invariant c.args.end _ c.in-Ok-Some.removed (rw c.in-Ok-Some.field-0-is at c.in-Ok-Some.ensures)).0 in
    removed_some g.K.TrieKey.encoding t _ _ _ _ _ _ _ _ c.self.invariant cut

pub invariant_of-self : goal.invariant_of-self
invariant_of-self g c =
    let t = tree_of c.self.inside.root in
    let cut = (popped g.K.TrieKey.encoding t _ _ _ c.self.invariant c.args.end _ c.in-Ok-Some.removed (rw c.in-Ok-Some.field-0-is at c.in-Ok-Some.ensures)).0 in
    removed_kept g.K.TrieKey.encoding t _ _ _ _ _ _ _ _ c.self.invariant cut

pub returns-in-Ok-Some-clause-pair : goal.returns-in-Ok-Some-clause-pair
returns-in-Ok-Some-clause-pair g c =
    let t = tree_of c.self.inside.root in
    rw (← c.self.view_is) (popped g.K.TrieKey.encoding t _ _ _ c.self.invariant c.args.end _ c.in-Ok-Some.removed (rw c.in-Ok-Some.field-0-is at c.in-Ok-Some.ensures)).1

pub returns-in-Ok-Some-clause-removed : goal.returns-in-Ok-Some-clause-removed
returns-in-Ok-Some-clause-removed g c =
    let t = tree_of c.self.inside.root in
    let cut = (popped g.K.TrieKey.encoding t _ _ _ c.self.invariant c.args.end _ c.in-Ok-Some.removed (rw c.in-Ok-Some.field-0-is at c.in-Ok-Some.ensures)).0 in
    rw (← c.self.view_is) (map_of-removed g.K.TrieKey.encoding t _ _ _ _ _ _ _ _ c.self.invariant cut)

pub returns-in-Ok-None-clause-pair : goal.returns-in-Ok-None-clause-pair
returns-in-Ok-None-clause-pair g c =
    rw (← c.self.view_is) (none_popped g.K.TrieKey.encoding (tree_of c.self.inside.root) _ _ _ c.self.invariant c.args.end _ (rw c.in-Ok-None.field-0-is at c.in-Ok-None.ensures))

pub returns-in-Err-clause-short : goal.returns-in-Err-clause-short
returns-in-Err-clause-short g c = λ short.
    let refused = pop_refused g.K.TrieKey.encoding (tree_of c.self.inside.root) _ _ _ c.self.invariant c.args.end _ c.in-Err.refusal c.in-Err.ensures in
    absurd (refused (λ pair is. short_lists_join_short _ (g.K.TrieKey.encoding pair.0) (rw c.self.view_is short)))

pub returns-in-Err-clause-join : goal.returns-in-Err-clause-join
returns-in-Err-clause-join g c = λ short.
    absurd (pop_refused g.K.TrieKey.encoding (tree_of c.self.inside.root) _ _ _ c.self.invariant c.args.end _ c.in-Err.refusal c.in-Err.ensures (rw c.self.view_is short))
