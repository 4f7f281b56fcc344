use Rattle.std.proofs.Common.{◌+◌, ◌<◌, ◌^◌, ◌∙◌, Ok, Err, length, ap, subst, sym, arith}
use Rattle.std.specs.FinMap as map
use Rattle.masked_tree.specs.Edits.{IsOne, merged}
use Rattle.radix_nodes.specs.declared.insertion.graft_root.Ungraftable.TheVariants as stays
use Rattle.radix_nodes.specs.declared.trie_node.TrieNode.{out-TrieNode}
use Rattle.radix_nodes.specs.Grafts.{GraftRootOutcome}
use Rattle.radix_nodes.specs.Nodes.{fragment_of, tree_of}
use Rattle.radix_nodes.proofs.EditLemmas.GraftedRoots.{only_is_merged}
use Rattle.radix_nodes.proofs.EditLemmas.Insertion.{box_is_child}
use Rattle.radix_nodes.proofs.EditLemmas.Merging.{has_one_child}
use Rattle.radix_nodes.proofs.NodeLemmas.Nodes.{fragment-tree_of}
use Rattle.radix_trie.proofs.ChangeLemmas.Joined.{grafted_counts, grafted_keyed, grafted_from_root, lists_apart, pairs_appended, part_begins}
use Rattle.radix_trie.proofs.ChangeLemmas.Overlaps.{occupied_overlaps, root_overlaps}
use Rattle.radix_trie.proofs.ChangeLemmas.Prunings.{len-nothing_below}
use Rattle.radix_trie.proofs.RootLemmas.Shown.{len-map_of_kept}
use Rattle.radix_trie.proofs.trie.Trie.graft_root.Goals as goal

pub graft_root-requires-clause-top : goal.graft_root-requires-clause-top
graft_root-requires-clause-top g c = sym (fragment-tree_of c.args.root.now) ∙ c.requires.kept.top

pub returns-then-not-is_one_branch-clause-why : goal.returns-then-not-is_one_branch-clause-why
returns-then-not-is_one_branch-clause-why g c =
    root_overlaps g.K.TrieKey.encoding (tree_of c.args.root.now) _ _ _ c.requires.kept c.if-not-is_one_branch.ensures c.requires.some c.args.self.now

pub overflow_add-self : goal.overflow_add-self
overflow_add-self g c =
    let l = sym (len-map_of_kept g.K.TrieKey.encoding (tree_of c.self.inside.root) _ _ _ c.self.invariant) ∙ ap map.len c.self.view_is in
    omega (arith, l, c.requires.room)

pub overflow_add-self-in-Ok : goal.overflow_add-self-in-Ok
overflow_add-self-in-Ok g c =
    let n = c.args.root.now in
    let one : IsOne (tree_of n).children = has_one_child n (sym (out-TrieNode g.row.K.Denot g.row.V.Denot n).children.ok.0 ∙ c.if-not-is_one_branch.ensures.1) in
    let s = grafted_from_root c.self.inside.root (tree_of n) (tree_of c.graft_root.new.part) (tree_of c.graft_root.new.root) (Ok c.in-Ok.grafted) c.self.invariant.top c.in-Ok.ensures in
    let top = c.len-top.ensures ∙ ap (λ m. length (fragment_of m)) c.deref.ensures
    ∙ ap length (sym (fragment-tree_of c.index.result.now.value) ∙ ap (λ u. u.fragment) (sym (only_is_merged (tree_of n) (tree_of c.index.result.now.value) c.requires.kept.top
    (box_is_child n 0 c.index.result.now c.requires.kept.masked (omega (arith, c.if-not-is_one_branch.ensures.1, (out-TrieNode g.row.K.Denot g.row.V.Denot n).children.ok.0)) (sym c.index.ensures))))) in
    let room : c.self.inside.length + c.args.length < 2 ^ 64 = (let l = sym (len-map_of_kept g.K.TrieKey.encoding (tree_of c.self.inside.root) _ _ _ c.self.invariant) ∙ ap map.len c.self.view_is in omega (arith, l, c.requires.room)) in
    let t = grafted_counts g.K.TrieKey.encoding (tree_of c.self.inside.root) _ _ _ c.self.invariant (tree_of n) _ _ _ c.requires.kept c.if-not-is_one_branch.ensures.0 one c.in-Ok.grafted (tree_of c.graft_root.new.part) (tree_of c.graft_root.new.root) c.len-top.result s top room in
    omega (arith, t.2)

pub overflow_add-self-in-Ok-2 : goal.overflow_add-self-in-Ok-2
overflow_add-self-in-Ok-2 g c =
    let n = c.args.root.now in
    let one : IsOne (tree_of n).children = has_one_child n (sym (out-TrieNode g.row.K.Denot g.row.V.Denot n).children.ok.0 ∙ c.if-not-is_one_branch.ensures.1) in
    let s = grafted_from_root c.self.inside.root (tree_of n) (tree_of c.graft_root.new.part) (tree_of c.graft_root.new.root) (Ok c.in-Ok.grafted) c.self.invariant.top c.in-Ok.ensures in
    let top = c.len-top.ensures ∙ ap (λ m. length (fragment_of m)) c.deref.ensures
    ∙ ap length (sym (fragment-tree_of c.index.result.now.value) ∙ ap (λ u. u.fragment) (sym (only_is_merged (tree_of n) (tree_of c.index.result.now.value) c.requires.kept.top
    (box_is_child n 0 c.index.result.now c.requires.kept.masked (omega (arith, c.if-not-is_one_branch.ensures.1, (out-TrieNode g.row.K.Denot g.row.V.Denot n).children.ok.0)) (sym c.index.ensures))))) in
    let room : c.self.inside.length + c.args.length < 2 ^ 64 = (let l = sym (len-map_of_kept g.K.TrieKey.encoding (tree_of c.self.inside.root) _ _ _ c.self.invariant) ∙ ap map.len c.self.view_is in omega (arith, l, c.requires.room)) in
    let t = grafted_counts g.K.TrieKey.encoding (tree_of c.self.inside.root) _ _ _ c.self.invariant (tree_of n) _ _ _ c.requires.kept c.if-not-is_one_branch.ensures.0 one c.in-Ok.grafted (tree_of c.graft_root.new.part) (tree_of c.graft_root.new.root) c.len-top.result s top room in
    omega (arith, t.2)

pub overflow_sub-self-in-Ok : goal.overflow_sub-self-in-Ok
overflow_sub-self-in-Ok g c =
    let n = c.args.root.now in
    let one : IsOne (tree_of n).children = has_one_child n (sym (out-TrieNode g.row.K.Denot g.row.V.Denot n).children.ok.0 ∙ c.if-not-is_one_branch.ensures.1) in
    let s = grafted_from_root c.self.inside.root (tree_of n) (tree_of c.graft_root.new.part) (tree_of c.graft_root.new.root) (Ok c.in-Ok.grafted) c.self.invariant.top c.in-Ok.ensures in
    let top = c.len-top.ensures ∙ ap (λ m. length (fragment_of m)) c.deref.ensures
    ∙ ap length (sym (fragment-tree_of c.index.result.now.value) ∙ ap (λ u. u.fragment) (sym (only_is_merged (tree_of n) (tree_of c.index.result.now.value) c.requires.kept.top
    (box_is_child n 0 c.index.result.now c.requires.kept.masked (omega (arith, c.if-not-is_one_branch.ensures.1, (out-TrieNode g.row.K.Denot g.row.V.Denot n).children.ok.0)) (sym c.index.ensures))))) in
    let room : c.self.inside.length + c.args.length < 2 ^ 64 = (let l = sym (len-map_of_kept g.K.TrieKey.encoding (tree_of c.self.inside.root) _ _ _ c.self.invariant) ∙ ap map.len c.self.view_is in omega (arith, l, c.requires.room)) in
    let t = grafted_counts g.K.TrieKey.encoding (tree_of c.self.inside.root) _ _ _ c.self.invariant (tree_of n) _ _ _ c.requires.kept c.if-not-is_one_branch.ensures.0 one c.in-Ok.grafted (tree_of c.graft_root.new.part) (tree_of c.graft_root.new.root) c.len-top.result s top room in
    t.0

pub overflow_add-self-in-Ok-3 : goal.overflow_add-self-in-Ok-3
overflow_add-self-in-Ok-3 g c =
    let n = c.args.root.now in
    let one : IsOne (tree_of n).children = has_one_child n (sym (out-TrieNode g.row.K.Denot g.row.V.Denot n).children.ok.0 ∙ c.if-not-is_one_branch.ensures.1) in
    let s = grafted_from_root c.self.inside.root (tree_of n) (tree_of c.graft_root.new.part) (tree_of c.graft_root.new.root) (Ok c.in-Ok.grafted) c.self.invariant.top c.in-Ok.ensures in
    let top = c.len-top.ensures ∙ ap (λ m. length (fragment_of m)) c.deref.ensures
    ∙ ap length (sym (fragment-tree_of c.index.result.now.value) ∙ ap (λ u. u.fragment) (sym (only_is_merged (tree_of n) (tree_of c.index.result.now.value) c.requires.kept.top
    (box_is_child n 0 c.index.result.now c.requires.kept.masked (omega (arith, c.if-not-is_one_branch.ensures.1, (out-TrieNode g.row.K.Denot g.row.V.Denot n).children.ok.0)) (sym c.index.ensures))))) in
    let room : c.self.inside.length + c.args.length < 2 ^ 64 = (let l = sym (len-map_of_kept g.K.TrieKey.encoding (tree_of c.self.inside.root) _ _ _ c.self.invariant) ∙ ap map.len c.self.view_is in omega (arith, l, c.requires.room)) in
    let t = grafted_counts g.K.TrieKey.encoding (tree_of c.self.inside.root) _ _ _ c.self.invariant (tree_of n) _ _ _ c.requires.kept c.if-not-is_one_branch.ensures.0 one c.in-Ok.grafted (tree_of c.graft_root.new.part) (tree_of c.graft_root.new.root) c.len-top.result s top room in
    omega (arith, t.3)

pub overflow_add-self-in-Ok-4 : goal.overflow_add-self-in-Ok-4
overflow_add-self-in-Ok-4 g c =
    let n = c.args.root.now in
    let one : IsOne (tree_of n).children = has_one_child n (sym (out-TrieNode g.row.K.Denot g.row.V.Denot n).children.ok.0 ∙ c.if-not-is_one_branch.ensures.1) in
    let s = grafted_from_root c.self.inside.root (tree_of n) (tree_of c.graft_root.new.part) (tree_of c.graft_root.new.root) (Ok c.in-Ok.grafted) c.self.invariant.top c.in-Ok.ensures in
    let top = c.len-top.ensures ∙ ap (λ m. length (fragment_of m)) c.deref.ensures
    ∙ ap length (sym (fragment-tree_of c.index.result.now.value) ∙ ap (λ u. u.fragment) (sym (only_is_merged (tree_of n) (tree_of c.index.result.now.value) c.requires.kept.top
    (box_is_child n 0 c.index.result.now c.requires.kept.masked (omega (arith, c.if-not-is_one_branch.ensures.1, (out-TrieNode g.row.K.Denot g.row.V.Denot n).children.ok.0)) (sym c.index.ensures))))) in
    let room : c.self.inside.length + c.args.length < 2 ^ 64 = (let l = sym (len-map_of_kept g.K.TrieKey.encoding (tree_of c.self.inside.root) _ _ _ c.self.invariant) ∙ ap map.len c.self.view_is in omega (arith, l, c.requires.room)) in
    let t = grafted_counts g.K.TrieKey.encoding (tree_of c.self.inside.root) _ _ _ c.self.invariant (tree_of n) _ _ _ c.requires.kept c.if-not-is_one_branch.ensures.0 one c.in-Ok.grafted (tree_of c.graft_root.new.part) (tree_of c.graft_root.new.root) c.len-top.result s top room in
    omega (arith, t.3)

pub invariant_of-self : goal.invariant_of-self
invariant_of-self g c =
    let n = c.args.root.now in
    let one : IsOne (tree_of n).children = has_one_child n (sym (out-TrieNode g.row.K.Denot g.row.V.Denot n).children.ok.0 ∙ c.if-not-is_one_branch.ensures.1) in
    let s = grafted_from_root c.self.inside.root (tree_of n) (tree_of c.graft_root.new.part) (tree_of c.graft_root.new.root) (Ok c.in-Ok.grafted) c.self.invariant.top c.in-Ok.ensures in
    let top = c.len-top.ensures ∙ ap (λ m. length (fragment_of m)) c.deref.ensures
    ∙ ap length (sym (fragment-tree_of c.index.result.now.value) ∙ ap (λ u. u.fragment) (sym (only_is_merged (tree_of n) (tree_of c.index.result.now.value) c.requires.kept.top
    (box_is_child n 0 c.index.result.now c.requires.kept.masked (omega (arith, c.if-not-is_one_branch.ensures.1, (out-TrieNode g.row.K.Denot g.row.V.Denot n).children.ok.0)) (sym c.index.ensures))))) in
    let room : c.self.inside.length + c.args.length < 2 ^ 64 = (let l = sym (len-map_of_kept g.K.TrieKey.encoding (tree_of c.self.inside.root) _ _ _ c.self.invariant) ∙ ap map.len c.self.view_is in omega (arith, l, c.requires.room)) in
    let t = grafted_counts g.K.TrieKey.encoding (tree_of c.self.inside.root) _ _ _ c.self.invariant (tree_of n) _ _ _ c.requires.kept c.if-not-is_one_branch.ensures.0 one c.in-Ok.grafted (tree_of c.graft_root.new.part) (tree_of c.graft_root.new.root) c.len-top.result s top room in
    t.1

pub returns-in-Ok-clause-grafted : goal.returns-in-Ok-clause-grafted
returns-in-Ok-clause-grafted g c =
    let n = c.args.root.now in
    let one : IsOne (tree_of n).children = has_one_child n (sym (out-TrieNode g.row.K.Denot g.row.V.Denot n).children.ok.0 ∙ c.if-not-is_one_branch.ensures.1) in
    let s = grafted_from_root c.self.inside.root (tree_of n) (tree_of c.graft_root.new.part) (tree_of c.graft_root.new.root) (Ok c.in-Ok.grafted) c.self.invariant.top c.in-Ok.ensures in
    rw (← c.self.view_is) (pairs_appended g.K.TrieKey.encoding (tree_of c.self.inside.root) _ _ _ c.self.invariant (tree_of n) _ _ _ c.requires.kept c.if-not-is_one_branch.ensures.0 one s.0 (tree_of c.graft_root.new.root) _ _ s.1)

pub returns-in-Ok-clause-apart : goal.returns-in-Ok-clause-apart
returns-in-Ok-clause-apart g c =
    let n = c.args.root.now in
    let one : IsOne (tree_of n).children = has_one_child n (sym (out-TrieNode g.row.K.Denot g.row.V.Denot n).children.ok.0 ∙ c.if-not-is_one_branch.ensures.1) in
    let s = grafted_from_root c.self.inside.root (tree_of n) (tree_of c.graft_root.new.part) (tree_of c.graft_root.new.root) (Ok c.in-Ok.grafted) c.self.invariant.top c.in-Ok.ensures in
    rw (← c.self.view_is) (lists_apart g.K.TrieKey.encoding (tree_of c.self.inside.root) _ _ _ c.self.invariant (tree_of n) _ _ _ c.requires.kept c.if-not-is_one_branch.ensures.0 one s.0 (tree_of c.graft_root.new.root) _ _ s.1)

pub returns-in-Ok-clause-vacant : goal.returns-in-Ok-clause-vacant
returns-in-Ok-clause-vacant g c =
    let n = c.args.root.now in
    let one : IsOne (tree_of n).children = has_one_child n (sym (out-TrieNode g.row.K.Denot g.row.V.Denot n).children.ok.0 ∙ c.if-not-is_one_branch.ensures.1) in
    let s = grafted_from_root c.self.inside.root (tree_of n) (tree_of c.graft_root.new.part) (tree_of c.graft_root.new.root) (Ok c.in-Ok.grafted) c.self.invariant.top c.in-Ok.ensures in
    let begins = part_begins g.K.TrieKey.encoding (tree_of c.self.inside.root) _ _ _ c.self.invariant (tree_of n) _ _ _ c.requires.kept c.if-not-is_one_branch.ensures.0 one in
    rw (← c.self.view_is) ((merged (tree_of n)).fragment, begins, len-nothing_below g.K.TrieKey.encoding (tree_of c.self.inside.root) _ _ _ c.self.invariant (merged (tree_of n)).fragment s.0)

pub returns-in-Ok-clause-keyed : goal.returns-in-Ok-clause-keyed
returns-in-Ok-clause-keyed g c =
    let n = c.args.root.now in
    let one : IsOne (tree_of n).children = has_one_child n (sym (out-TrieNode g.row.K.Denot g.row.V.Denot n).children.ok.0 ∙ c.if-not-is_one_branch.ensures.1) in
    let s = grafted_from_root c.self.inside.root (tree_of n) (tree_of c.graft_root.new.part) (tree_of c.graft_root.new.root) (Ok c.in-Ok.grafted) c.self.invariant.top c.in-Ok.ensures in
    rw (← c.self.view_is) (grafted_keyed g.K.TrieKey.encoding (tree_of c.self.inside.root) _ _ _ c.self.invariant (tree_of n) _ _ _ c.requires.kept c.if-not-is_one_branch.ensures.0 one s.0 (tree_of c.graft_root.new.root) _ _ s.1 g.K.TrieKey.is_value)

pub returns-in-Err-Occupied-clause-why : goal.returns-in-Err-Occupied-clause-why
returns-in-Err-Occupied-clause-why g c =
    let n = c.args.root.now in
    let one : IsOne (tree_of n).children = has_one_child n (sym (out-TrieNode g.row.K.Denot g.row.V.Denot n).children.ok.0 ∙ c.if-not-is_one_branch.ensures.1) in
    let told = subst (λ e. GraftRootOutcome (Err e) (fragment_of c.self.inside.root) (tree_of n) (tree_of c.graft_root.new.part) (tree_of c.self.inside.root) (tree_of c.graft_root.new.root)) c.in-Err-Occupied.field-0-is c.in-Err-Occupied.ensures in
    let s = grafted_from_root c.self.inside.root (tree_of n) (tree_of c.graft_root.new.part) (tree_of c.graft_root.new.root) (Err stays.Occupied) c.self.invariant.top told in
    rw (← c.self.view_is) (occupied_overlaps g.K.TrieKey.encoding (tree_of n) _ _ _ c.requires.kept one (tree_of c.self.inside.root) _ _ _ c.self.invariant s.2)

pub returns-in-Err-Memory-clause-why : goal.returns-in-Err-Memory-clause-why
returns-in-Err-Memory-clause-why g c =
    let n = c.args.root.now in
    let one : IsOne (tree_of n).children = has_one_child n (sym (out-TrieNode g.row.K.Denot g.row.V.Denot n).children.ok.0 ∙ c.if-not-is_one_branch.ensures.1) in
    let told = subst (λ e. GraftRootOutcome (Err e) (fragment_of c.self.inside.root) (tree_of n) (tree_of c.graft_root.new.part) (tree_of c.self.inside.root) (tree_of c.graft_root.new.root)) c.in-Err-Memory.field-0-is c.in-Err-Memory.ensures in
    let s = grafted_from_root c.self.inside.root (tree_of n) (tree_of c.graft_root.new.part) (tree_of c.graft_root.new.root) (Err stays.Memory) c.self.invariant.top told in
    let begins = part_begins g.K.TrieKey.encoding (tree_of c.self.inside.root) _ _ _ c.self.invariant (tree_of n) _ _ _ c.requires.kept c.if-not-is_one_branch.ensures.0 one in
    rw (← c.self.view_is) ((merged (tree_of n)).fragment, begins, len-nothing_below g.K.TrieKey.encoding (tree_of c.self.inside.root) _ _ _ c.self.invariant (merged (tree_of n)).fragment s.2)
