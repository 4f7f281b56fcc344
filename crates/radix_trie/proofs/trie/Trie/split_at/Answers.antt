use Rattle.std.proofs.Common.{◌≡◌, ◌+◌, ◌-◌, ◌∙◌, [], length, ap, sym, subst, arith, rules, refl}
use Rattle.masked_tree.specs.Edits.{lowered}
use Rattle.masked_tree.specs.Paths.{IsPath}
use Rattle.masked_tree.specs.Tree.{entries_at, nodes_in, nibbles_in}
use Rattle.nibble_map.specs.Lists.{IsPrefix}
use Rattle.radix_nodes.specs.Nodes.{tree_of, fragment_of}
use Rattle.radix_nodes.specs.Pairs.{pairs_in}
use Rattle.radix_nodes.specs.Prunes.{IsSmall, branch_of, nodes_gone, nibbles_gone}
use Rattle.radix_nodes.proofs.NodeLemmas.Nodes.{fragment-tree_of}
use Rattle.radix_nodes.proofs.NodeLemmas.Pairs.{length-pairs_of}
use Rattle.radix_trie.specs.Roots.{IsKept, map_of}
use Rattle.radix_trie.proofs.ChangeLemmas.Changes.{append-root_fragment}
use Rattle.radix_trie.proofs.ChangeLemmas.Prunings.{branch_at, small_root, path_below_has_stored, point_below_has_stored, points_apart-paths, below-nothing_below, map_of-nothing_below, map_of-pruned, handed_pairs_counted, handed_pairs_kept}
use Rattle.radix_trie.proofs.ChangeLemmas.Splits.{cut_is_small, nearest_in_equal, apart_in_equal, part_kept, map_of-part}
use Rattle.radix_trie.proofs.PathLemmas.Loci.{false_is_not_true}
use Rattle.radix_trie.proofs.trie.Trie.split_at.Goals as goal

pub returns-in_err-path-clause-none : goal.returns-in_err-path-clause-none
returns-in_err-path-clause-none g c = λ none.
    absurd (false_is_not_true (c.in_err-path.ensures.short _ c.find.ensures (λ q near. absurd (point_below_has_stored _ c.args.list.now q c.requires.some near.member near.below none))))

pub returns-in_default-clause-split : goal.returns-in_default-clause-split
returns-in_default-clause-split g c =
    let root = c.self.inside.root in
    let points = apart_in_equal _ (map_of (tree_of root)) c.args.list.now c.args.list.now (sym c.self.view_is) refl (rw c.in_default.is at c.in_ok-path.ensures.nearest _ c.find.ensures) in
    let apart = points_apart-paths g.K.TrieKey.encoding (tree_of root) _ _ _ c.self.invariant c.args.list.now points in
    rw (← c.self.view_is) (c.new.ensures ∙ sym (below-nothing_below g.K.TrieKey.encoding (tree_of root) _ _ _ c.self.invariant c.args.list.now apart))

pub returns-in_default-clause-removed : goal.returns-in_default-clause-removed
returns-in_default-clause-removed g c =
    let root = c.self.inside.root in
    let points = apart_in_equal _ (map_of (tree_of root)) c.args.list.now c.args.list.now (sym c.self.view_is) refl (rw c.in_default.is at c.in_ok-path.ensures.nearest _ c.find.ensures) in
    let apart = points_apart-paths g.K.TrieKey.encoding (tree_of root) _ _ _ c.self.invariant c.args.list.now points in
    rw (← c.self.view_is) (map_of-nothing_below g.K.TrieKey.encoding (tree_of root) _ _ _ c.self.invariant c.args.list.now apart (tree_of root) refl)

pub returns-in_err-upper-clause-none : goal.returns-in_err-upper-clause-none
returns-in_err-upper-clause-none g c = λ none.
    let near = rw c.in-Some.is at c.in_ok-path.ensures.nearest _ c.find.ensures in
    absurd (point_below_has_stored _ c.args.list.now _ c.requires.some near.member near.below none)

pub measure-length-requires : goal.measure-length-requires
measure-length-requires g c =
    let root = c.self.inside.root in
    let b = c.in-Ok-Some.branch in
    let o = rw c.in-Ok-Some.field-0-is at c.in-Ok-Some.ensures in
    let small = cut_is_small g.K.TrieKey.encoding (tree_of root) _ _ _ c.self.invariant (search rules) (tree_of c.cut_branch.new.root) b o.0 o.2 in
    subst (λ n. IsSmall (tree_of n)) (sym c.deref.ensures) small

pub overflow_sub-nibbles : goal.overflow_sub-nibbles
overflow_sub-nibbles g c =
    let b = c.in-Ok-Some.branch in
    let held = c.measure-length.ensures.nibbles ∙ ap (λ n. length (tree_of n).fragment + nibbles_in (tree_of n).children) c.deref.ensures in
    let own = c.len.ensures ∙ ap (λ n. length (fragment_of n)) c.deref-in-Ok-Some.ensures ∙ ap length (sym (fragment-tree_of b.top.value)) in
    omega (arith, held, own)

pub overflow_add-nibbles : goal.overflow_add-nibbles
overflow_add-nibbles g c =
    let root = c.self.inside.root in
    let b = c.in-Ok-Some.branch in
    let u = branch_of b in
    let q = c.in-Some.path in
    let o = rw c.in-Ok-Some.field-0-is at c.in-Ok-Some.ensures in
    let small = cut_is_small g.K.TrieKey.encoding (tree_of root) _ _ _ c.self.invariant (search rules) (tree_of c.cut_branch.new.root) b o.0 o.2 in
    let held = c.measure-length.ensures.nibbles ∙ ap (λ n. length (tree_of n).fragment + nibbles_in (tree_of n).children) c.deref.ensures in
    let own = c.len.ensures ∙ ap (λ n. length (fragment_of n)) c.deref-in-Ok-Some.ensures ∙ ap length (sym (fragment-tree_of b.top.value)) in
    let near = nearest_in_equal _ (map_of (tree_of root)) c.args.list.now c.args.list.now q q (sym c.self.view_is) refl refl (rw c.in-Some.is at c.in_ok-path.ensures.nearest _ c.find.ensures) in
    let part = part_kept g.K.TrieKey.encoding (tree_of root) _ _ _ c.self.invariant (tree_of c.cut_branch.new.root) c.args.list.now o.0 u _ _ (branch_at root u c.args.list.now o.0 c.self.invariant.top o.1) o.2 c.requires.some q near c.in_ok-upper.ensures.5 _ _ _ refl refl refl in
    let fits = small_root g.K.TrieKey.encoding (lowered [] q u) _ _ _ part small.pairs in
    omega (arith, held, own, c.len-in-Ok-Some.ensures, fits.nibbles)

pub overflow_sub-self : goal.overflow_sub-self
overflow_sub-self g c =
    let root = c.self.inside.root in
    let u = branch_of c.in-Ok-Some.branch in
    let o = rw c.in-Ok-Some.field-0-is at c.in-Ok-Some.ensures in
    let most = handed_pairs_counted g.K.TrieKey.encoding (tree_of root) _ _ _ c.self.invariant (tree_of c.cut_branch.new.root) c.args.list.now o.0 u _ _ (branch_at root u c.args.list.now o.0 c.self.invariant.top o.1) o.2 (pairs_in u) refl in
    let same = c.measure-length.ensures.pairs ∙ ap (λ n. length (entries_at [] (tree_of n))) c.deref.ensures in
    omega (arith, most, same, length-pairs_of (entries_at [] u))

pub overflow_add-result : goal.overflow_add-result
overflow_add-result g c =
    let root = c.self.inside.root in
    let b = c.in-Ok-Some.branch in
    let o = rw c.in-Ok-Some.field-0-is at c.in-Ok-Some.ensures in
    let small = cut_is_small g.K.TrieKey.encoding (tree_of root) _ _ _ c.self.invariant (search rules) (tree_of c.cut_branch.new.root) b o.0 o.2 in
    omega (arith, c.measure-length.ensures.nodes ∙ ap (λ n. nodes_in (tree_of n).children) c.deref.ensures, small.nodes)

pub invariant_of-result : goal.invariant_of-result
invariant_of-result g c =
    let root = c.self.inside.root in
    let b = c.in-Ok-Some.branch in
    let u = branch_of b in
    let q = c.in-Some.path in
    let o = rw c.in-Ok-Some.field-0-is at c.in-Ok-Some.ensures in
    let count = c.measure-length.ensures.pairs ∙ ap (λ n. length (entries_at [] (tree_of n))) c.deref.ensures in
    let nodes = c.measure-length.ensures.nodes ∙ ap (λ n. nodes_in (tree_of n).children) c.deref.ensures in
    let held = c.measure-length.ensures.nibbles ∙ ap (λ n. length (tree_of n).fragment + nibbles_in (tree_of n).children) c.deref.ensures in
    let own = c.len.ensures ∙ ap (λ n. length (fragment_of n)) c.deref-in-Ok-Some.ensures ∙ ap length (sym (fragment-tree_of b.top.value)) in
    let near = nearest_in_equal _ (map_of (tree_of root)) c.args.list.now c.args.list.now q q (sym c.self.view_is) refl refl (rw c.in-Some.is at c.in_ok-path.ensures.nearest _ c.find.ensures) in
    let is = c.rooted.ensures ∙ ap (λ f. lowered f q u) (c.in_ok-upper.ensures.0 ∙ c.new-2.ensures) in
    let part = part_kept g.K.TrieKey.encoding (tree_of root) _ _ _ c.self.invariant (tree_of c.cut_branch.new.root) c.args.list.now o.0 u _ _ (branch_at root u c.args.list.now o.0 c.self.invariant.top o.1) o.2 c.requires.some q near c.in_ok-upper.ensures.5 _ _ _ count (omega (arith, nodes)) (omega (arith, held, own, c.len-in-Ok-Some.ensures)) in
    subst (λ t. IsKept g.K.TrieKey.encoding t c.measure-length.result.0 (c.measure-length.result.1.nodes + 2) (c.measure-length.result.1.nibbles - c.len.result + c.len-in-Ok-Some.result)) (sym is) part

pub invariant_of-self : goal.invariant_of-self
invariant_of-self g c =
    let root = c.self.inside.root in
    let b = c.in-Ok-Some.branch in
    let u = branch_of b in
    let o = rw c.in-Ok-Some.field-0-is at c.in-Ok-Some.ensures in
    let count = c.measure-length.ensures.pairs ∙ ap (λ n. length (entries_at [] (tree_of n))) c.deref.ensures in
    let nodes : c.measure-length.result.1.nodes + b.nodes ≡ nodes_gone b = let n = c.measure-length.ensures.nodes ∙ ap (λ n. nodes_in (tree_of n).children) c.deref.ensures in omega (arith, n) in
    let held : c.measure-length.result.1.nibbles ≡ nibbles_gone b = c.measure-length.ensures.nibbles ∙ ap (λ n. length (tree_of n).fragment + nibbles_in (tree_of n).children) c.deref.ensures in
    let kept = handed_pairs_kept g.K.TrieKey.encoding (tree_of root) _ _ _ c.self.invariant (tree_of c.cut_branch.new.root) c.args.list.now o.0 u _ _ (branch_at root u c.args.list.now o.0 c.self.invariant.top o.1) o.2 (pairs_in u) refl c.measure-length.result.0 (count ∙ sym (length-pairs_of (entries_at [] u))) in
    subst (λ l. IsKept g.K.TrieKey.encoding (tree_of c.cut_branch.new.root) (c.self.inside.length - c.measure-length.result.0) (c.self.inside.nodes - (c.measure-length.result.1.nodes + b.nodes)) (c.self.inside.nibbles - l)) (sym held)
    (subst (λ m. IsKept g.K.TrieKey.encoding (tree_of c.cut_branch.new.root) (c.self.inside.length - c.measure-length.result.0) (c.self.inside.nodes - m) (c.self.inside.nibbles - nibbles_gone b)) (sym nodes) kept)

pub returns-in-Ok-Some-clause-split : goal.returns-in-Ok-Some-clause-split
returns-in-Ok-Some-clause-split g c =
    let root = c.self.inside.root in
    let u = branch_of c.in-Ok-Some.branch in
    let q = c.in-Some.path in
    let o = rw c.in-Ok-Some.field-0-is at c.in-Ok-Some.ensures in
    let near = nearest_in_equal _ (map_of (tree_of root)) c.args.list.now c.args.list.now q q (sym c.self.view_is) refl refl (rw c.in-Some.is at c.in_ok-path.ensures.nearest _ c.find.ensures) in
    let is = c.rooted.ensures ∙ ap (λ f. lowered f q u) (c.in_ok-upper.ensures.0 ∙ c.new-2.ensures) in
    rw (← c.self.view_is) (ap map_of is ∙ map_of-part g.K.TrieKey.encoding (tree_of root) _ _ _ c.self.invariant (tree_of c.cut_branch.new.root) c.args.list.now o.0 u _ _ (branch_at root u c.args.list.now o.0 c.self.invariant.top o.1) o.2 c.requires.some q near c.in_ok-upper.ensures.5)

pub returns-in-Ok-Some-clause-removed : goal.returns-in-Ok-Some-clause-removed
returns-in-Ok-Some-clause-removed g c =
    let root = c.self.inside.root in
    let o = rw c.in-Ok-Some.field-0-is at c.in-Ok-Some.ensures in
    rw (← c.self.view_is) (map_of-pruned g.K.TrieKey.encoding (tree_of root) _ _ _ c.self.invariant (tree_of c.cut_branch.new.root) c.args.list.now _ _ _ _ (branch_at root (branch_of c.in-Ok-Some.branch) c.args.list.now o.0 c.self.invariant.top o.1) o.2)

pub returns-in-Ok-None-clause-split : goal.returns-in-Ok-None-clause-split
returns-in-Ok-None-clause-split g c =
    let root = c.self.inside.root in
    let o = rw c.in-Ok-None.field-0-is at c.in-Ok-None.ensures in
    let apart = subst (λ p. (q : _) → IsPath (tree_of root) q → IsPrefix p q → ⊥) (append-root_fragment root c.args.list.now c.args.list.now c.self.invariant.top refl) o.1 in
    rw (← c.self.view_is) (c.new-in-Ok-None.ensures ∙ sym (below-nothing_below g.K.TrieKey.encoding (tree_of root) _ _ _ c.self.invariant c.args.list.now apart))

pub returns-in-Ok-None-clause-removed : goal.returns-in-Ok-None-clause-removed
returns-in-Ok-None-clause-removed g c =
    let root = c.self.inside.root in
    let o = rw c.in-Ok-None.field-0-is at c.in-Ok-None.ensures in
    let apart = subst (λ p. (q : _) → IsPath (tree_of root) q → IsPrefix p q → ⊥) (append-root_fragment root c.args.list.now c.args.list.now c.self.invariant.top refl) o.1 in
    let same = map_of-nothing_below g.K.TrieKey.encoding (tree_of root) _ _ _ c.self.invariant c.args.list.now apart (tree_of c.cut_branch.new.root) o.0 in
    rw (← c.self.view_is) same

pub returns-in-Err-clause-none : goal.returns-in-Err-clause-none
returns-in-Err-clause-none g c = λ none.
    let root = c.self.inside.root in
    let o = c.in-Err.ensures in
    let i = subst (λ p. IsPrefix p o.1) (append-root_fragment root c.args.list.now c.args.list.now c.self.invariant.top refl) o.3 in
    absurd (path_below_has_stored g.K.TrieKey.encoding (tree_of root) _ _ _ c.self.invariant c.args.list.now o.1 c.requires.some o.2 i (rw c.self.view_is none))
