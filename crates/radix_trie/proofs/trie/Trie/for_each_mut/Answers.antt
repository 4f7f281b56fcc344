use Rattle.std.proofs.Common.{◌∙◌, [], All, ap, sym, subst}
use Rattle.radix_nodes.specs.Nodes.{tree_of}
use Rattle.radix_trie.specs.Values.{LeavesAtPair, TakesPairAtMut}
use Rattle.radix_trie.specs.Views.{pairs_below}
use Rattle.radix_trie.proofs.ChangeLemmas.Branches.{ChangedPair}
use Rattle.radix_trie.proofs.ChangeLemmas.Copies.{copy_kept, copy_map}
use Rattle.radix_trie.proofs.ChangeLemmas.Keyed.{keyed_changed}
use Rattle.radix_trie.proofs.ChangeLemmas.Prunings.{pairs_in-branch, root_branch}
use Rattle.radix_trie.proofs.trie.Trie.for_each_mut.Goals as goal

pub change_values-requires : goal.change_values-requires
change_values-requires g c =
    let root = c.self.inside.root in
    let all = pairs_in-branch g.K.TrieKey.encoding (tree_of root) _ _ _ c.self.invariant [] [] (tree_of root) (root_branch root c.self.invariant.top) in
    record { callable = subst (All (TakesPairAtMut g.F.Fn c.args.f)) (ap (λ m. pairs_below m []) (sym c.self.view_is) ∙ sym all) c.requires.callable }

pub invariant_of-self : goal.invariant_of-self
invariant_of-self g c = copy_kept g.K.TrieKey.encoding (ChangedPair (LeavesAtPair g.F.Fn c.args.f)) (λ x y s. ap g.K.TrieKey.encoding s.0) _ _ _ _ _ c.self.invariant c.change_values.ensures

pub returns : goal.returns
returns g c =
    let copy = copy_map g.K.TrieKey.encoding (ChangedPair (LeavesAtPair g.F.Fn c.args.f)) (λ x y s. ap g.K.TrieKey.encoding s.0) _ _ _ _ _ c.self.invariant c.change_values.ensures in
    rw (← c.self.view_is) (record { changed = copy; keyed = keyed_changed g.K.TrieKey.encoding g.K.TrieKey.is_value _ _ _ copy })
