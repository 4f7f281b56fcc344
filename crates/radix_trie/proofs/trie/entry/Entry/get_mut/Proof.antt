-- `get_mut` borrows the value behind the entry's reference, while the entry's list is read. Assumes `Logic`.
use mathlib.Core.Path.{◌≡◌, ap, subst, ◌∙◌}
use Prim.Native.Nat.{ℕ}
use mathlib.Core.List.{List, [], ◌∷◌}
use mir.Syntax.{a_type, dcons, dnil}
use base.Logic.{ent, id⊢}
use types.Logic.{sem}
use contract.BorrowLft.{◌⊑◌, ⊑_trans}
use denote.Param.{param, bounded}
use denote.Param.Laws.{param_laws}
use Rattle.std.specs.Option.{ghost_name_of, option_copied_mut}
use Rattle.std.specs.Borrow.{follows_if}
use Rattle.nibble_map.specs.Maps.{value_at, with_value}
use Rattle.radix_trie.proofs.EntryLemmas as whole
use Rattle.radix_trie.proofs.PartLemmas.Lending.{lends_through}
use Rattle.radix_trie.specs.Entries.{entry_lends_own}
use Rattle.radix_trie.specs.Lends.{trie_row}
use Rattle.radix_trie.specs.contracts.trie.entry.Entry.get_mut as f
use Rattle.radix_trie.specs.contracts.trie.entry.value_at_list as vb
use Rattle.radix_trie.proofs.trie.entry.value_at_list.Met.{met as value_at_list_met}
use Rattle.radix_trie.proofs.trie.entry.Entry.get_mut.Statement.{statement}
use Rattle.radix_trie.proofs.trie.entry.Entry.get_mut.Code as code

pub get_mut_spec : {M : Type 1} → statement M
get_mut_spec 𝓤 𝓛 𝓜 𝓡 wired K V P LK LV LP key d equal d' eq d'' path f' g' met met' met'' met₂ met₃ =
    let args = bounded (a_type ∷ a_type ∷ a_type ∷ []) (K, (V, (P, tt))) (dcons d (dcons d' (dcons d'' (dcons f' (dcons g' dnil))))) in
    let Whole = whole.Whole K V P key eq path in
    lends_through 𝓛 𝓜 𝓡 3 (f.signature K V P key d equal d' eq d'' path f' g').outlives (vb.signature K V P key d equal d' eq d'' path f' g').outlives V (trie_row (param 0 K) (param 1 V) key eq) (param 2 P) (param 0 K) LV
    Whole (whole.name K V P key eq path []) (λ α x. x.trie) (λ α x. x.list) (λ α x w. record x { trie = w })
    (λ κs. κs.1.1.0 ⊑ K.lives) (λ κs. (κs.1.1.1.0 ⊑ V.lives) ∷ (κs.1.1.1.1.0 ⊑ P.lives) ∷ []) (λ m l. value_at m (path.list l)) (λ m l. with_value m (path.list l))
    (λ α r u. entry_lends_own (param 0 K) (param 1 V) (param 2 P) key eq path r u) (λ α x u. option_copied_mut u ≡ value_at x.trie.now (key.encoding x.key))
    (λ α r κ q within. whole.entry_splits K V P key eq path α 𝓛 (param_laws 0 K LK) (param_laws 2 P LP) r.now r.ref_ptr.0 r.ref_ptr.1 κ q r.ghost_name within)
    (λ κs bounds asked. ⊑_trans _ _ _ bounds.1.1.1.0 asked.1.1) (λ κs bounds. (bounds.0, (bounds.1.1.1.1.0, (bounds.1.1.1.1.1.0, (bounds.1.1.1.0, (bounds.1.1.0, tt))))))
    (λ α r u. subst (λ (e : List ℕ). ent 𝓤 (sem 𝓛 (follows_if (Whole α) (param 1 V) r.ghost_name (ghost_name_of u) (λ w. record r.now { trie = record r.now.trie { now = with_value r.now.trie.now (path.list r.now.list) w } }) r.now))
    (sem 𝓛 (follows_if (Whole α) (param 1 V) r.ghost_name (ghost_name_of u) (λ w. record r.now { trie = record r.now.trie { now = with_value r.now.trie.now e w } }) r.now))) r.now.encoded (id⊢ 𝓤 _))
    (λ α x u found. found ∙ ap (value_at x.trie.now) x.encoded) _ _ _ _ _ (f.Key.name args) (vb.Key.name args)
    (code.unfolded 𝓤 𝓛.H 𝓜 𝓡 wired (K, (V, (P, tt))) d d' d'' f' g')
    (value_at_list_met 𝓤 𝓛 𝓜 𝓡 (code.calls-radix_trie::trie::entry::value_at_list 𝓡.env wired) K V P LK LV LP key d equal d' eq d'' path f' g' met met' met'' met₂ met₃)
