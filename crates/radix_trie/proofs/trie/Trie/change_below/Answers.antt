use Rattle.std.proofs.Common.{◌∙◌, [], All, ap, sym, subst}
use Rattle.std.proofs.lemmas.List.{nil_from_length}
use Rattle.nibble_map.specs.Copies.{IsMapCopy}
use Rattle.nibble_map.specs.Maps.{below, without_below}
use Rattle.radix_nodes.specs.Nodes.{tree_of}
use Rattle.radix_trie.specs.Roots.{map_of}
use Rattle.radix_trie.specs.Values.{LeavesAtPair, TakesPairAtMut}
use Rattle.radix_trie.specs.Views.{pairs_below}
use Rattle.radix_trie.proofs.ChangeLemmas.Branches.{ChangedPair, changed_at, changed_kept, changed_map, changed_rest}
use Rattle.radix_trie.proofs.ChangeLemmas.Copies.{copy_kept, copy_map}
use Rattle.radix_trie.proofs.ChangeLemmas.Prunings.{branch_at, pairs_in-branch, root_branch}
use Rattle.radix_trie.proofs.PathLemmas.Loci.{below-nil, without_below-nil}
use Rattle.radix_trie.proofs.trie.Trie.change_below.Goals as goal

pub change_values-requires : goal.change_values-requires
change_values-requires g c =
    let root = c.self.inside.root in
    let nil = nil_from_length c.args.list.now (sym c.len.ensures ∙ c.if-len-eq0.true) in
    let all = pairs_in-branch g.K.TrieKey.encoding (tree_of root) _ _ _ c.self.invariant [] [] (tree_of root) (root_branch root c.self.invariant.top) in
    record { callable = subst (All (TakesPairAtMut g.F.Fn c.args.f.now)) (ap (λ m. pairs_below m c.args.list.now) (sym c.self.view_is) ∙ ap (pairs_below (map_of (tree_of root))) nil ∙ sym all) c.requires.callable }

pub invariant_of-self : goal.invariant_of-self
invariant_of-self g c = copy_kept g.K.TrieKey.encoding (ChangedPair (LeavesAtPair g.F.Fn c.args.f.now)) (λ x y s. ap g.K.TrieKey.encoding s.0) _ _ _ _ _ c.self.invariant c.change_values.ensures

pub change_branch-requires-clause-callable : goal.change_branch-requires-clause-callable
change_branch-requires-clause-callable g c u s branch =
    let root = c.self.inside.root in
    let all = pairs_in-branch g.K.TrieKey.encoding (tree_of root) _ _ _ c.self.invariant c.args.list.now s u (branch_at root u c.args.list.now s c.self.invariant.top branch) in
    subst (All (TakesPairAtMut g.F.Fn c.args.f.now)) (ap (λ m. pairs_below m c.args.list.now) (sym c.self.view_is) ∙ sym all) c.requires.callable

pub invariant_of-self-else-len-eq0 : goal.invariant_of-self-else-len-eq0
invariant_of-self-else-len-eq0 g c =
    let root = c.self.inside.root in
    changed_kept g.F.Fn c.args.f.now g.K.TrieKey.encoding c.args.list.now (tree_of root) _ _ _ _ c.self.invariant
    (changed_at g.F.Fn c.args.f.now root _ c.args.list.now c.self.invariant.top c.change_branch.ensures)

pub returns-then-len-eq0-clause-changed : goal.returns-then-len-eq0-clause-changed
returns-then-len-eq0-clause-changed g c =
    let old = map_of (tree_of c.self.inside.root) in
    let new = map_of (tree_of c.change_values.new.node) in
    let nil = nil_from_length c.args.list.now (sym c.len.ensures ∙ c.if-len-eq0.true) in
    let S = ChangedPair (LeavesAtPair g.F.Fn c.args.f.now) in
    let copy = copy_map g.K.TrieKey.encoding (ChangedPair (LeavesAtPair g.F.Fn c.args.f.now)) (λ x y s. ap g.K.TrieKey.encoding s.0) _ _ _ _ _ c.self.invariant c.change_values.ensures in
    rw (← c.self.view_is) (subst (λ p. IsMapCopy S (below old p) (below new p)) (sym nil)
    (subst (λ m. IsMapCopy S m (below new [])) (sym (below-nil old)) (subst (IsMapCopy S old) (sym (below-nil new)) copy)))

pub returns-then-len-eq0-clause-elsewhere : goal.returns-then-len-eq0-clause-elsewhere
returns-then-len-eq0-clause-elsewhere g c =
    let new = map_of (tree_of c.change_values.new.node) in
    let nil = nil_from_length c.args.list.now (sym c.len.ensures ∙ c.if-len-eq0.true) in
    ap (without_below new) nil ∙ without_below-nil new ∙ sym (without_below-nil c.args.self.now) ∙ ap (without_below c.args.self.now) (sym nil)

pub returns-else-len-eq0-clause-changed : goal.returns-else-len-eq0-clause-changed
returns-else-len-eq0-clause-changed g c =
    let root = c.self.inside.root in
    rw (← c.self.view_is) (changed_map g.F.Fn c.args.f.now g.K.TrieKey.encoding c.args.list.now (tree_of root) _ _ _ _ c.self.invariant
    (changed_at g.F.Fn c.args.f.now root _ c.args.list.now c.self.invariant.top c.change_branch.ensures))

pub returns-else-len-eq0-clause-elsewhere : goal.returns-else-len-eq0-clause-elsewhere
returns-else-len-eq0-clause-elsewhere g c =
    let root = c.self.inside.root in
    rw (← c.self.view_is) (changed_rest g.F.Fn c.args.f.now g.K.TrieKey.encoding c.args.list.now (tree_of root) _ _ _ _ c.self.invariant
    (changed_at g.F.Fn c.args.f.now root _ c.args.list.now c.self.invariant.top c.change_branch.ensures))
