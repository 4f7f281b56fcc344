use Rattle.std.proofs.Common.{ap, sym, ◌∙◌, refl}
use Rattle.radix_nodes.specs.Nodes.{tree_of}
use Rattle.nibble_map.proofs.MapLemmas.Bridge.{remove-absent}
use Rattle.nibble_map.proofs.ListLemmas.Sorted.{tied_lists_equal}
use Rattle.std.proofs.lemmas.Cmp.{nat_list_cmp_total}
use Rattle.radix_trie.specs.Roots.{map_of}
use Rattle.radix_trie.proofs.ChangeLemmas.Removals.{get-removed, map_of-removed, removed_some, removed_kept}
use Rattle.radix_trie.proofs.ChangeLemmas.Changes.{removed_at, unheld_at, held_at}
use Rattle.radix_trie.proofs.RootLemmas.Held.{get-unheld, none_unheld}
use Rattle.radix_trie.proofs.PathLemmas.Joins.{kept_joins_fit, short_lists_join_short}
use Rattle.radix_trie.proofs.trie.Trie.take_entry_at.Goals as goal

pub overflow_sub-self : goal.overflow_sub-self
overflow_sub-self g c =
    let cut = removed_at c.self.inside.root _ c.args.list.now _ _ _ _ c.self.invariant.top refl (rw c.in-Ok-Some.field-0-is at c.in-Ok-Some.ensures) in
    removed_some g.K.TrieKey.encoding (tree_of c.self.inside.root) _ _ _ _ _ _ _ _ c.self.invariant cut

pub invariant_of-self : goal.invariant_of-self
invariant_of-self g c =
    let cut = removed_at c.self.inside.root _ c.args.list.now _ _ _ _ c.self.invariant.top refl (rw c.in-Ok-Some.field-0-is at c.in-Ok-Some.ensures) in
    removed_kept g.K.TrieKey.encoding (tree_of c.self.inside.root) _ _ _ _ _ _ _ _ c.self.invariant cut

pub returns-in-Ok-Some-clause-old_pair : goal.returns-in-Ok-Some-clause-old_pair
returns-in-Ok-Some-clause-old_pair g c =
    let cut = removed_at c.self.inside.root _ c.args.list.now _ _ _ _ c.self.invariant.top refl (rw c.in-Ok-Some.field-0-is at c.in-Ok-Some.ensures) in
    rw (← c.self.view_is) (sym (get-removed g.K.TrieKey.encoding (tree_of c.self.inside.root) _ _ _ _ _ _ _ _ c.self.invariant cut))

pub returns-in-Ok-Some-clause-removed : goal.returns-in-Ok-Some-clause-removed
returns-in-Ok-Some-clause-removed g c =
    let cut = removed_at c.self.inside.root _ c.args.list.now _ _ _ _ c.self.invariant.top refl (rw c.in-Ok-Some.field-0-is at c.in-Ok-Some.ensures) in
    rw (← c.self.view_is) (map_of-removed g.K.TrieKey.encoding (tree_of c.self.inside.root) _ _ _ _ _ _ _ _ c.self.invariant cut)

pub returns-in-Ok-None-clause-old_pair : goal.returns-in-Ok-None-clause-old_pair
returns-in-Ok-None-clause-old_pair g c =
    let cut = rw c.in-Ok-None.field-0-is at c.in-Ok-None.ensures in
    let absent = get-unheld g.K.TrieKey.encoding (tree_of c.self.inside.root) _ _ _ c.self.invariant c.args.list.now
    (unheld_at c.self.inside.root c.args.list.now _ c.self.invariant.top refl cut.1) in
    rw (← c.self.view_is) (sym absent)

pub returns-in-Ok-None-clause-removed : goal.returns-in-Ok-None-clause-removed
returns-in-Ok-None-clause-removed g c =
    let cut = rw c.in-Ok-None.field-0-is at c.in-Ok-None.ensures in
    let absent = get-unheld g.K.TrieKey.encoding (tree_of c.self.inside.root) _ _ _ c.self.invariant c.args.list.now
    (unheld_at c.self.inside.root c.args.list.now _ c.self.invariant.top refl cut.1) in
    rw (← c.self.view_is) (ap map_of cut.0 ∙ sym (remove-absent _ nat_list_cmp_total tied_lists_equal _ _ absent))

pub returns-in-Err-clause-absent : goal.returns-in-Err-clause-absent
returns-in-Err-clause-absent g c = λ absent.
    let here = none_unheld g.K.TrieKey.encoding (tree_of c.self.inside.root) _ _ _ c.self.invariant c.args.list.now (rw c.self.view_is absent) in
    absurd (here (held_at c.self.inside.root c.args.list.now _ c.self.invariant.top refl c.in-Err.ensures.1))

pub returns-in-Err-clause-join : goal.returns-in-Err-clause-join
returns-in-Err-clause-join g c = λ short.
    absurd (kept_joins_fit g.K.TrieKey.encoding c.self.inside.root _ _ _ c.self.invariant c.args.list.now (rw c.self.view_is short) c.in-Err.ensures.1 c.in-Err.ensures.2)

pub returns-in-Err-clause-short : goal.returns-in-Err-clause-short
returns-in-Err-clause-short g c = λ short.
    absurd (kept_joins_fit g.K.TrieKey.encoding c.self.inside.root _ _ _ c.self.invariant c.args.list.now (short_lists_join_short _ c.args.list.now (rw c.self.view_is short)) c.in-Err.ensures.1 c.in-Err.ensures.2)
