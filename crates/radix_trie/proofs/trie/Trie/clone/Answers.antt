use Rattle.std.proofs.Common.{◌≡◌, ◌≤◌, ap, sym, ◌∙◌, arith, length}
use Rattle.std.specs.FinMap as map
use Rattle.nibble_map.specs.Copies.{IsPairClone}
use Rattle.nibble_map.proofs.MapLemmas.SameTests.{anything_of_false}
use Rattle.radix_nodes.specs.Nodes.{tree_of, fragment_of}
use Rattle.radix_nodes.proofs.NodeLemmas.Nodes.{fragment-tree_of}
use Rattle.radix_trie.specs.Roots.{map_of}
use Rattle.radix_trie.proofs.ChangeLemmas.Keyed.{keyed_copied}
use Rattle.radix_trie.proofs.ChangeLemmas.Copies.{copy_kept, copy_map, pair-empty_root, children-empty_root}
use Rattle.radix_trie.proofs.RootLemmas.Shown.{len-map_of_kept}
use Rattle.radix_trie.proofs.trie.Trie.clone.Goals as goal

pub returns-in_err-copied-clause-inline : goal.returns-in_err-copied-clause-inline
returns-in_err-copied-clause-inline g c = λ nothing.
    let enc = g.K.TrieKey.encoding in
    let root = c.self.inside.root in
    let none : map.len (map_of (tree_of root)) ≡ 0 = rw c.self.view_is nothing in
    let empty = sym (len-map_of_kept enc (tree_of root) _ _ _ c.self.invariant) ∙ none in
    let short : length (fragment_of root) ≤ 32 = omega (arith, ap length (sym (fragment-tree_of root) ∙ c.self.invariant.top)) in
    anything_of_false (c.in_err-copied.ensures.inline (pair-empty_root enc (tree_of root) _ _ _ c.self.invariant empty) (children-empty_root enc (tree_of root) _ _ _ c.self.invariant empty) short)

pub invariant_of-result : goal.invariant_of-result
invariant_of-result g c =
    copy_kept g.K.TrieKey.encoding (IsPairClone g.K.Clone.is_clone g.V.Clone.is_clone) (λ x y s. c.requires.same_encoding x.0 y.0 s.0) _ _ _ _ _ c.self.invariant c.in_ok-copied.ensures.copy

pub returns-clause-copy : goal.returns-clause-copy
returns-clause-copy g c =
    rw (← c.self.view_is)
    (copy_map g.K.TrieKey.encoding (IsPairClone g.K.Clone.is_clone g.V.Clone.is_clone) (λ x y s. c.requires.same_encoding x.0 y.0 s.0) _ _ _ _ _ c.self.invariant c.in_ok-copied.ensures.copy)

pub returns-clause-keyed : goal.returns-clause-keyed
returns-clause-keyed g c values =
    let enc = g.K.TrieKey.encoding in
    rw (← c.self.view_is) (keyed_copied enc g.K.TrieKey.is_value (IsPairClone g.K.Clone.is_clone g.V.Clone.is_clone) (λ p q s i. (c.requires.same_encoding p.0 q.0 s.0, values p.0 q.0 s.0 i)) _ _
    (copy_map enc (IsPairClone g.K.Clone.is_clone g.V.Clone.is_clone) (λ x y s. c.requires.same_encoding x.0 y.0 s.0) _ _ _ _ _ c.self.invariant c.in_ok-copied.ensures.copy))
