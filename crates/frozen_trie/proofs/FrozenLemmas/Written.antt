-- One value written: the encodings stay, and the map has it in the place of the old one.
use Rattle.std.proofs.Common.{◌≡◌, ℕ, zero, suc, ◌<◌, List, [], ◌∷◌, length, set, get_or, Some, refl, sym, ap, subst, ◌∙◌, arith}
use Rattle.std.specs.FinMap as fin
use Rattle.nibble_map.specs.Lists.{IsRising}
use Rattle.nibble_map.specs.Maps.{set_value, with_value}
use Rattle.nibble_map.specs.Swaps.{Swaps, entry}
use Rattle.nibble_map.proofs.MapLemmas.Edits.{from_sorted-lists_swapped_over}
use Rattle.encoded_keys.specs.Codes.{code_at}
use Rattle.frozen_trie.specs.Frozen.{codes_of, coded_pairs, map_of_pairs}
use Rattle.frozen_trie.proofs.FrozenLemmas.Rows.{code_of_pair, get_at, stored_rows}

module _ {K V : Type 0} (enc : K → List ℕ) where
  -- a pair with another value keeps the encodings
  pub codes_written : (ps : List (K × V)) (i : ℕ) (x : K × V) (w : V) → x ≡ get_or ps i x → codes_of enc ps ≡ codes_of enc (set ps i (x.0, w))
  codes_written [] i x w e = refl
  codes_written (p ∷ ps) zero x w e = ap (λ y. enc y.0 ∷ codes_of enc ps) (sym e)
  codes_written (p ∷ ps) (suc i) x w e = ap (λ cs. enc p.0 ∷ cs) (codes_written ps i x w e)

  -- its entry is put in the place of the old one
  swaps_written : (ps : List (K × V)) (i : ℕ) (x : K × V) (w : V) → i < length ps → x ≡ get_or ps i x
      → Swaps (entry (enc x.0) (Some x)) (entry (enc x.0) (Some (x.0, w))) (coded_pairs enc ps) (coded_pairs enc (set ps i (x.0, w)))
  swaps_written [] i x w l e = absurd (omega (arith, l))
  swaps_written (p ∷ ps) zero x w l e = record { before = []; after = coded_pairs enc ps; was = ap (λ y. (enc y.0, y) ∷ coded_pairs enc ps) (sym e); is = refl }
  swaps_written (p ∷ ps) (suc i) x w l e =
      let r = swaps_written ps i x w (omega (arith, l)) e in
      record { before = (enc p.0, p) ∷ r.before; after = r.after; was = ap (λ es. (enc p.0, p) ∷ es) r.was; is = ap (λ es. (enc p.0, p) ∷ es) r.is }

  -- so the map has the value there
  pub map_written : (ps : List (K × V)) (q : List ℕ) (i : ℕ) (x : K × V) (w : V) → IsRising (codes_of enc ps) → i < length ps → x ≡ get_or ps i x
      → code_at (codes_of enc ps) i ≡ q → map_of_pairs enc (set ps i (x.0, w)) ≡ with_value (map_of_pairs enc ps) q w
  map_written ps q i x w rises l e code =
      let here : enc x.0 ≡ q = sym (code_of_pair enc ps i x l e) ∙ code in
      from_sorted-lists_swapped_over (enc x.0) (Some x) (x.0, w) (coded_pairs enc ps) (coded_pairs enc (set ps i (x.0, w)))
      (subst IsRising (sym (stored_rows enc ps)) rises)
      (subst IsRising (codes_written ps i x w e ∙ sym (stored_rows enc (set ps i (x.0, w)))) rises)
      (swaps_written ps i x w l e)
      ∙ ap (λ y. fin.insert (map_of_pairs enc ps) y (x.0, w)) here
      ∙ ap (set_value (map_of_pairs enc ps) q w) (sym (get_at enc ps q i x rises l e code))
