-- `last_key_value` takes the view apart, and borrows the last pair from its trie.
use mathlib.Core.Path.{refl}
use mathlib.Core.List.{[], ◌∷◌}
use mir.Syntax.{named, a_type, dcons, dnil}
use denote.HoleKnot.{shared_laws}
use denote.Param.{param, bounded}
use denote.Param.Laws.{param_laws}
use denote.Ref.{ShrRef}
use denote.Struct.Tuple.{Tuple, tuple_laws}
use Rattle.std.specs.Prelude.{◌≡◌, ◌-◌, length, option_map, slice_get}
use Rattle.radix_trie.specs.Views.{pairs_below}
use Rattle.radix_trie.specs.Walks.{deref_pair}
use Rattle.radix_trie.proofs.SpentLemmas.{spent_by_reading}
use Rattle.radix_trie.specs.contracts.view.subtrie_mut.SubTrieMut.last_key_value.Key as f
use Rattle.radix_trie.specs.contracts.view.subtrie_mut.SubTrieMut.into_owned_parts.Key as ip
use Rattle.radix_trie.specs.contracts.view.subtrie_mut.spent.last_within.Key as kw
use Rattle.radix_trie.proofs.view.subtrie_mut.SubTrieMut.into_owned_parts.Met.{met as into_owned_parts_met}
use Rattle.radix_trie.proofs.view.subtrie_mut.spent.last_within.Met.{met as last_within_met}
use Rattle.radix_trie.proofs.view.subtrie_mut.SubTrieMut.last_key_value.Statement.{statement}
use Rattle.radix_trie.proofs.view.subtrie_mut.SubTrieMut.last_key_value.Code as code

pub last_key_value_spec : {M : Type 1} → statement M
last_key_value_spec 𝓤 𝓛 𝓜 𝓡 wired K V P LK LV LP key d equal d' eq d'' path d₃ d₄ met met' met'' met₃ met₄ =
    let args = bounded (a_type ∷ a_type ∷ a_type ∷ []) (K, (V, (P, tt))) (dcons d (dcons d' (dcons d'' (dcons d₃ (dcons d₄ dnil))))) in
    spent_by_reading 𝓛 𝓜 𝓡 K V P LK LV LP key eq
    (λ κ. Tuple (ShrRef (named 0) κ (param 0 K) ∷ ShrRef (named 0) κ (param 1 V) ∷ []))
    (λ κ. tuple_laws (ShrRef (named 0) κ (param 0 K) ∷ ShrRef (named 0) κ (param 1 V) ∷ []) (shared_laws (record { mir = named 0; lft = κ }) (param 0 K) (param_laws 0 K LK), (shared_laws (record { mir = named 0; lft = κ }) (param 1 V) (param_laws 1 V LV), tt)))
    (λ κ m p r. option_map deref_pair r ≡ slice_get (pairs_below m (path.list p)) (length (pairs_below m (path.list p)) - 1))
    _ _ _ (f.name args) (ip.name args) (kw.name args) (code.unfolded 𝓤 𝓛.H 𝓜 𝓡 wired (K, (V, (P, tt))) d d' d'' d₃ d₄) (λ κ. refl) (λ v typed. typed)
    (into_owned_parts_met 𝓤 𝓛 𝓜 𝓡 (code.calls-radix_trie::view::subtrie_mut::SubTrieMut::into_owned_parts 𝓡.env wired) K V P LK LV LP key d equal d' eq d'' path d₃ d₄ met met' met'' met₃ met₄)
    (last_within_met 𝓤 𝓛 𝓜 𝓡 (code.calls-radix_trie::view::subtrie_mut::spent::last_within 𝓡.env wired) K V P LK LV LP key d equal d' eq d'' path d₃ d₄ met met' met'' met₃ met₄)
