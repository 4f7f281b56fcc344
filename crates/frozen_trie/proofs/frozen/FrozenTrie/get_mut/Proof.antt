-- `get_mut` says what `find_mut` borrows another way.
use mathlib.Core.List.{[], ◌∷◌}
use mir.Syntax.{a_type, dcons, dnil}
use denote.Param.{param, bounded}
use Rattle.nibble_map.specs.Maps.{value_at, with_value}
use Rattle.radix_trie.proofs.NestedLemmas.Found.{finds_as_none}
use Rattle.frozen_trie.specs.contracts.frozen.FrozenTrie.{the_row}
use Rattle.frozen_trie.specs.contracts.frozen.FrozenTrie.get_mut.Key as f
use Rattle.frozen_trie.specs.contracts.frozen.FrozenTrie.find_mut.Key as fm
use Rattle.frozen_trie.specs.contracts.frozen.written.absent_as_none.Key as an
use Rattle.frozen_trie.proofs.frozen.FrozenTrie.find_mut.Met.{met as find_mut_met}
use Rattle.frozen_trie.proofs.frozen.written.absent_as_none.Met.{met as absent_as_none_met}
use Rattle.frozen_trie.proofs.frozen.FrozenTrie.get_mut.Statement.{statement}
use Rattle.frozen_trie.proofs.frozen.FrozenTrie.get_mut.Code as code

pub get_mut_spec : {M : Type 1} → statement M
get_mut_spec 𝓤 𝓛 𝓜 𝓡 wired K V Q LK LV LQ lend b key d equal d' eq d'' lend₂ b₂ key₂ d₂ equal₂ d₂' eq₂ d₂'' lends met met' met'' lends₂ met₂ met₂' met₂'' =
    let args = bounded (a_type ∷ a_type ∷ a_type ∷ []) (K, (V, (Q, tt))) (dcons b (dcons d (dcons d' (dcons d'' (dcons b₂ (dcons d₂ (dcons d₂' (dcons d₂'' dnil)))))))) in
    finds_as_none 𝓛 𝓜 𝓡 K V Q (the_row (param 0 K) (param 1 V) key eq) LV (λ m e. value_at m (key₂.encoding e)) (λ m e w. with_value m (key₂.encoding e) w) (λ e. key₂.is_inline e ∷ lend₂.is_lent e ∷ [])
    _ _ _ _ (f.name args) (fm.name args) (an.name (bounded (a_type ∷ []) (V, tt) dnil))
    (code.unfolded 𝓤 𝓛.H 𝓜 𝓡 wired (K, (V, (Q, tt))) b d d' d'' b₂ d₂ d₂' d₂'') (λ v typed. typed)
    (find_mut_met 𝓤 𝓛 𝓜 𝓡 (code.calls-frozen_trie::frozen::FrozenTrie::find_mut 𝓡.env wired) K V Q LK LV LQ lend b key d equal d' eq d'' lend₂ b₂ key₂ d₂ equal₂ d₂' eq₂ d₂'' lends met met' met'' lends₂ met₂ met₂' met₂'')
    (absent_as_none_met 𝓤 𝓛 𝓜 𝓡 (code.calls-frozen_trie::frozen::written::absent_as_none 𝓡.env wired) V LV)
