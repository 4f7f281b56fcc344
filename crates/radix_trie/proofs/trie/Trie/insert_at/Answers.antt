use Rattle.std.proofs.Common.{◌≡◌, ℕ, ◌<◌, ◌^◌, ap, sym, ◌∙◌, refl, arith, Some, None, is_some, T, length, List, subst, drop, rules}
use Rattle.std.specs.FinMap as map
use Rattle.std.specs.Option.{option_map}
use Rattle.radix_nodes.specs.Nodes.{tree_of}
use Rattle.radix_trie.proofs.ChangeLemmas.Insertions.{value_at-insert, map_of-insert, over_kept, added_kept, inserted_fits}
use Rattle.radix_trie.proofs.ChangeLemmas.Changes.{unheld_at}
use Rattle.radix_trie.proofs.RootLemmas.Held.{get-unheld}
use Rattle.radix_trie.proofs.trie.Trie.insert_at.Goals as goal

pub returns-in-Err-clause-why : goal.returns-in-Err-clause-why
returns-in-Err-clause-why g c =
    let root = c.self.inside.root in
    let absent : map.get c.args.self.now c.args.list.now ≡ None = rw (← c.self.view_is) (get-unheld g.K.TrieKey.encoding (tree_of root) _ _ _ c.self.invariant c.args.list.now
    (unheld_at root (drop 0 c.args.list.now) c.args.list.now c.self.invariant.top refl c.in-Err.ensures.2)) in
    rw c.refused-in-Err.ensures.why
    (λ _. (tt, (λ full. let e = c.if-has_no_room_for.ensures.1 full in cc), λ stored. subst (λ o. T (is_some o)) absent stored))

pub overflow_add-self : goal.overflow_add-self
overflow_add-self g c =
    let change = c.in-Ok.change in
    let small : c.self.inside.length < 2 ^ 64 = search rules in
    let fit = inserted_fits g.K.TrieKey.encoding c.self.inside.root _ _ _ _ c.args.list.now _ c.args.pair change.was change.nodes change.nibbles
    c.self.invariant c.requires.encoding c.in-Ok.ensures refl c.requires.fits small
    c.args.self.now c.self.view_is c.has_no_room_for.result c.if-has_no_room_for.false c.has_no_room_for.ensures.1 in
    omega (arith, fit.0)

pub overflow_add-self-2 : goal.overflow_add-self-2
overflow_add-self-2 g c =
    let change = c.in-Ok.change in
    let small : c.self.inside.length < 2 ^ 64 = search rules in
    let fit = inserted_fits g.K.TrieKey.encoding c.self.inside.root _ _ _ _ c.args.list.now _ c.args.pair change.was change.nodes change.nibbles
    c.self.invariant c.requires.encoding c.in-Ok.ensures refl c.requires.fits small
    c.args.self.now c.self.view_is c.has_no_room_for.result c.if-has_no_room_for.false c.has_no_room_for.ensures.1 in
    omega (arith, fit.1)

pub overflow_add-self-in-None : goal.overflow_add-self-in-None
overflow_add-self-in-None g c =
    let change = c.in-Ok.change in
    let small : c.self.inside.length < 2 ^ 64 = search rules in
    let fit = inserted_fits g.K.TrieKey.encoding c.self.inside.root _ _ _ _ c.args.list.now _ c.args.pair change.was change.nodes change.nibbles
    c.self.invariant c.requires.encoding c.in-Ok.ensures refl c.requires.fits small
    c.args.self.now c.self.view_is c.has_no_room_for.result c.if-has_no_room_for.false c.has_no_room_for.ensures.1 in
    omega (arith, fit.2 c.in-None.is)

pub invariant_of-self-in-Some : goal.invariant_of-self-in-Some
invariant_of-self-in-Some g c =
    let change = c.in-Ok.change in
    let q = g.K.TrieKey.encoding c.args.pair.key in
    let fits : length q < 2 ^ 64 = subst (λ (l : List ℕ). length l < 2 ^ 64) c.requires.encoding c.requires.fits in
    over_kept g.K.TrieKey.encoding c.self.inside.root _ _ _ _ c.args.list.now q c.args.pair change.was change.nodes change.nibbles
    c.self.invariant c.requires.encoding c.in-Ok.ensures c.in-Some.pair c.in-Some.is refl fits

pub returns-in-Some-clause-old_value : goal.returns-in-Some-clause-old_value
returns-in-Some-clause-old_value g c =
    let change = c.in-Ok.change in
    rw (← c.self.view_is)
    (ap (λ p. Some p.value) c.in-Some.pair-is ∙ ap (option_map (λ y. y.value)) (sym c.in-Some.is)
    ∙ sym (value_at-insert g.K.TrieKey.encoding c.self.inside.root _ _ _ _ c.args.list.now c.args.list.now c.args.pair change.was change.nodes change.nibbles
    c.self.invariant refl c.in-Ok.ensures))

pub returns-in-Some-clause-stored : goal.returns-in-Some-clause-stored
returns-in-Some-clause-stored g c =
    let change = c.in-Ok.change in
    rw (← c.self.view_is)
    (map_of-insert g.K.TrieKey.encoding c.self.inside.root _ _ _ _ c.args.list.now c.args.list.now c.args.pair change.was
    change.nodes change.nibbles c.self.invariant refl c.in-Ok.ensures)

pub invariant_of-self-in-None : goal.invariant_of-self-in-None
invariant_of-self-in-None g c =
    let change = c.in-Ok.change in
    let q = g.K.TrieKey.encoding c.args.pair.key in
    let fits : length q < 2 ^ 64 = subst (λ (l : List ℕ). length l < 2 ^ 64) c.requires.encoding c.requires.fits in
    added_kept g.K.TrieKey.encoding c.self.inside.root _ _ _ _ c.args.list.now q c.args.pair change.was change.nodes change.nibbles
    c.self.invariant c.requires.encoding c.in-Ok.ensures c.in-None.is refl fits

pub returns-in-None-clause-old_value : goal.returns-in-None-clause-old_value
returns-in-None-clause-old_value g c =
    let change = c.in-Ok.change in
    rw (← c.self.view_is)
    (ap (option_map (λ y. y.value)) (sym c.in-None.is)
    ∙ sym (value_at-insert g.K.TrieKey.encoding c.self.inside.root _ _ _ _ c.args.list.now c.args.list.now c.args.pair change.was change.nodes change.nibbles
    c.self.invariant refl c.in-Ok.ensures))

pub returns-in-None-clause-stored : goal.returns-in-None-clause-stored
returns-in-None-clause-stored g c =
    let change = c.in-Ok.change in
    rw (← c.self.view_is)
    (map_of-insert g.K.TrieKey.encoding c.self.inside.root _ _ _ _ c.args.list.now c.args.list.now c.args.pair change.was
    change.nodes change.nibbles c.self.invariant refl c.in-Ok.ensures)
