-- `value_mut` borrows the value behind the view's reference, while the view's path is read. Assumes `Logic`.
use mathlib.Core.List.{[], ◌∷◌}
use mir.Syntax.{a_type, dcons, dnil}
use base.Logic.{id⊢}
use contract.BorrowLft.{◌⊑◌, ⊑_static}
use denote.Param.{param, bounded}
use Rattle.std.specs.Prelude.{◌≡◌}
use Rattle.std.specs.Option.{option_copied_mut}
use Rattle.nibble_map.specs.Maps.{value_at, with_value}
use Rattle.radix_keys.specs.contracts.nibbles.NibbleVec.{the_row as list_row}
use Rattle.radix_trie.proofs.PartLemmas.Lending.{lends_through}
use Rattle.radix_trie.proofs.ViewLemmas as whole
use Rattle.radix_trie.specs.Lends.{lends_own, trie_row}
use Rattle.radix_trie.specs.contracts.view.subtrie_mut.SubTrieMut+K+V.value_mut as f
use Rattle.radix_trie.specs.contracts.view.subtrie_mut.value_behind as vb
use Rattle.radix_trie.proofs.view.subtrie_mut.value_behind.Met.{met as value_behind_met}
use Rattle.radix_trie.proofs.view.subtrie_mut.SubTrieMut+K+V.value_mut.Statement.{statement}
use Rattle.radix_trie.proofs.view.subtrie_mut.SubTrieMut+K+V.value_mut.Code as code

pub value_mut_spec : {M : Type 1} → statement M
value_mut_spec 𝓤 𝓛 𝓜 𝓡 wired K V LK LV key d equal d' eq d'' met met' met'' =
    let args = bounded (a_type ∷ a_type ∷ []) (K, (V, tt)) (dcons d (dcons d' (dcons d'' dnil))) in
    lends_through 𝓛 𝓜 𝓡 2 (f.signature K V key d equal d' eq d'').outlives (vb.signature K V key d equal d' eq d'').outlives V (trie_row (param 0 K) (param 1 V) key eq) list_row list_row LV
    (whole.View (param 0 K) (param 1 V) key eq) (whole.name (param 0 K) (param 1 V) key eq []) (λ α x. x.trie) (λ α x. x.path) (λ α x w. record x { trie = w })
    (λ κs. κs.1.1.0 ⊑ K.lives) (λ κs. (κs.1.1.1.0 ⊑ V.lives) ∷ []) value_at with_value
    (λ α r u. lends_own (param 0 K) (param 1 V) key eq r u) (λ α x u. option_copied_mut u ≡ value_at x.trie.now x.path)
    (λ α r κ q within. whole.view_splits (param 0 K) (param 1 V) key eq α 𝓛 r.now r.ref_ptr.0 r.ref_ptr.1 κ q r.ghost_name within)
    (λ κs bounds asked. ⊑_static κs.0) (λ κs bounds. (bounds.0, (bounds.1.1.1.0, (bounds.1.1.1.1.0, (bounds.1.1.0, tt)))))
    (λ α r u. id⊢ 𝓤 _) (λ α x u found. found) _ _ _ _ _ (f.Key.name args) (vb.Key.name args)
    (code.unfolded 𝓤 𝓛.H 𝓜 𝓡 wired (K, (V, tt)) d d' d'')
    (value_behind_met 𝓤 𝓛 𝓜 𝓡 (code.calls-radix_trie::view::subtrie_mut::value_behind 𝓡.env wired) K V LK LV key d equal d' eq d'' met met' met'')
