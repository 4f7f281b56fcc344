use Rattle.std.proofs.Common.{◌≡◌, ◌≤◌, ◌∙◌, ap, sym, arith, length}
use Rattle.std.specs.FinMap as map
use Rattle.nibble_map.specs.Copies.{IsPairClone}
use Rattle.nibble_map.specs.Nibbles.{nibbles}
use Rattle.nibble_map.specs.Turned.{turned}
use Rattle.nibble_map.proofs.MapLemmas.SameTests.{anything_of_false}
use Rattle.radix_keys.specs.AscendingKeys.{turned_bytes}
use Rattle.radix_keys.proofs.NibbleLemmas.Turning.{nibbles-turned}
use Rattle.radix_nodes.specs.Nodes.{tree_of, fragment_of}
use Rattle.radix_nodes.proofs.NodeLemmas.Nodes.{fragment-tree_of}
use Rattle.radix_trie.specs.Roots.{map_of}
use Rattle.radix_trie.proofs.ChangeLemmas.Keyed.{keyed_turned}
use Rattle.radix_trie.proofs.ChangeLemmas.Turned.{wrapped_kept, wrapped_map, wrapped_footprint}
use Rattle.radix_trie.proofs.ChangeLemmas.Copies.{pair-empty_root, children-empty_root}
use Rattle.radix_trie.proofs.RootLemmas.Shown.{len-map_of_kept}
use Rattle.radix_trie.proofs.trie.Trie.to_ascending.Goals as goal

pub returns-in_err-turned_copy-clause-inline : goal.returns-in_err-turned_copy-clause-inline
returns-in_err-turned_copy-clause-inline g c = λ nothing.
    let enc = g.T.TrieKey.encoding in
    let root = c.self.inside.root in
    let none : map.len (map_of (tree_of root)) ≡ 0 = rw c.self.view_is nothing in
    let empty = sym (len-map_of_kept enc (tree_of root) _ _ _ c.self.invariant) ∙ none in
    let short : length (fragment_of root) ≤ 32 = omega (arith, ap length (sym (fragment-tree_of root) ∙ c.self.invariant.top)) in
    anything_of_false (c.in_err-turned_copy.ensures.inline (pair-empty_root enc (tree_of root) _ _ _ c.self.invariant empty) (children-empty_root enc (tree_of root) _ _ _ c.self.invariant empty) short)

pub invariant_of-result : goal.invariant_of-result
invariant_of-result g c =
    wrapped_kept g.T.TrieKey.encoding (λ k. nibbles (turned_bytes (g.T.KeyInt.bytes k))) g.V.Clone.is_clone (λ k. nibbles-turned _ ∙ ap turned (sym (g.met.T.KeySigned.plain k)))
    _ _ _ _ _ c.self.invariant c.in_ok-turned_copy.ensures.copy

pub returns-clause-moved : goal.returns-clause-moved
returns-clause-moved g c =
    rw (← c.self.view_is)
    (wrapped_map g.T.TrieKey.encoding (λ k. nibbles (turned_bytes (g.T.KeyInt.bytes k))) g.V.Clone.is_clone (λ k. nibbles-turned _ ∙ ap turned (sym (g.met.T.KeySigned.plain k)))
    _ _ _ _ _ c.self.invariant c.in_ok-turned_copy.ensures.copy)

pub returns-clause-footprint : goal.returns-clause-footprint
returns-clause-footprint g c =
    rw (← c.self.view_is)
    (wrapped_footprint g.T.TrieKey.encoding (λ k. nibbles (turned_bytes (g.T.KeyInt.bytes k))) g.V.Clone.is_clone (λ k. nibbles-turned _ ∙ ap turned (sym (g.met.T.KeySigned.plain k)))
    _ _ _ _ _ c.self.invariant c.in_ok-turned_copy.ensures.copy)

pub returns-clause-keyed : goal.returns-clause-keyed
returns-clause-keyed g c =
    rw (← c.self.view_is)
    (keyed_turned g.T.TrieKey.encoding g.T.KeyInt.is_value (λ k. nibbles (turned_bytes (g.T.KeyInt.bytes k))) (λ k. nibbles-turned _ ∙ ap turned (sym (g.met.T.KeySigned.plain k)))
    (IsPairClone (λ x y. y ≡ x) g.V.Clone.is_clone) (λ p q s. s.0) _ _
    (wrapped_map g.T.TrieKey.encoding (λ k. nibbles (turned_bytes (g.T.KeyInt.bytes k))) g.V.Clone.is_clone (λ k. nibbles-turned _ ∙ ap turned (sym (g.met.T.KeySigned.plain k)))
    _ _ _ _ _ c.self.invariant c.in_ok-turned_copy.ensures.copy))
