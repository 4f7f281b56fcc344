use Rattle.std.proofs.Common.{◌≡◌, None, Option, option_map, MutBor, ap, inr, sym, refl, subst, ◌∙◌, ◌++◌}
use Rattle.nibble_map.specs.Maps.{value_at}
use Rattle.masked_tree.specs.Paths.{IsHeld}
use Rattle.radix_nodes.specs.Lending.{OnNone, Revalues}
use Rattle.radix_nodes.specs.Nodes.{tree_of, fragment_of}
use Rattle.radix_trie.proofs.ChangeLemmas.Changes.{unheld_at}
use Rattle.radix_trie.proofs.RootLemmas.Held.{get-unheld}
use Rattle.radix_trie.proofs.ChangeLemmas.Written.{same_after, like_kept, map_of-unchanged, revalued_at, value_at-before_revalued, map_of-revalued}
use Rattle.radix_trie.proofs.trie.Trie.at_mut.Goals as goal

pub invariant_of-self-lent : goal.invariant_of-self-lent
invariant_of-self-lent g c w =
    like_kept g.K.TrieKey.encoding (tree_of c.self.inside.root) _ _ _ _ c.self.invariant (c.value_at_mut.follows.holds w).1

pub invariant_of-self : goal.invariant_of-self
invariant_of-self g c =
    like_kept g.K.TrieKey.encoding (tree_of c.self.inside.root) _ _ _ _ c.self.invariant c.value_at_mut.follows.holds-at-none.0.like

pub returns-in-Some : goal.returns-in-Some
returns-in-Some g c =
    let root = c.self.inside.root in
    let enc = g.K.TrieKey.encoding in
    let list = c.args.list.now in
    let x = c.in-Some.value.now in
    let written : (w : g.row.V.Denot) → Revalues list x w (tree_of root) (tree_of (c.value_at_mut.follows.lender w)) =
    λ w. revalued_at root _ list c.value_at_mut.result c.in-Some.value w c.self.invariant.top c.in-Some.is (c.value_at_mut.follows.holds w).0 in (
      same_after _ _ _ (λ w. rw (← c.self.view_is) (map_of-revalued enc (tree_of root) _ _ _ _ c.self.invariant list x w (written w))),
      record {
        writes_back = tt;
        value = rw (← c.self.view_is) (sym (value_at-before_revalued enc (tree_of root) _ _ _ _ c.self.invariant list x x (written x)));
      },
    )

pub returns-in-None : goal.returns-in-None
returns-in-None g c =
    let root = c.self.inside.root in
    let enc = g.K.TrieKey.encoding in
    let list = c.args.list.now in
    let apart = subst (λ (r : Option (MutBor g.row.V.Denot)). OnNone r (IsHeld (tree_of root) (fragment_of root ++ list) → ⊥)) c.in-None.is c.value_at_mut.follows.holds-at-none.1 in
    let absent : value_at c.args.self.now list ≡ None =
    rw (← c.self.view_is) (ap (option_map (λ p. p.1)) (get-unheld enc (tree_of root) _ _ _ c.self.invariant list (unheld_at root list list c.self.invariant.top refl apart))) in (
      ap inr (map_of-unchanged enc (tree_of root) _ _ _ _ c.self.invariant c.value_at_mut.follows.holds-at-none.0 ∙ c.self.view_is),
      record { writes_back = tt; value = sym absent },
    )
