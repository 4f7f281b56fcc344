-- Rows that are copied one by one, or moved.
use Rattle.std.proofs.Common.{◌≡◌, ℕ, zero, suc, ◌+◌, List, [], ◌∷◌, ◌++◌, length, take, drop, sym, ap, subst, ◌∙◌, append_assoc}
use Rattle.std.proofs.lemmas.List.{map-append, take-append-drop}
use Rattle.std.specs.FinMap as fin
use Rattle.nibble_map.specs.Lists.{Each, IsRising}
use Rattle.nibble_map.specs.Maps.{PairMap}
use Rattle.nibble_map.proofs.ListLemmas.Rising.{Each-append}
use Rattle.radix_keys.specs.Networks.{Net}
use Rattle.radix_trie.specs.Views.{pairs_below}
use Rattle.frozen_routes.specs.Routes.{AreRowsInOrder, IsFirstOutOfOrder}
use Rattle.frozen_trie.specs.Frozen.{codes_of}
use Rattle.encoded_keys.proofs.CodeLemmas.Appended.{rising_front}
use Rattle.frozen_trie.proofs.FrozenLemmas.Thawed.{IsThawed, one_thawed}
use Rattle.frozen_trie.proofs.FrozenLemmas.Whole.{count_whole}
use Rattle.frozen_networks.specs.Networks.{IsNetwork, network_code}
use Rattle.frozen_networks.proofs.OrderLemmas.{rising_rows, rows_of_networks, rows_rise}

module _ {K V : Type 0} where
  -- a copy of the first of the rest behind those so far
  pub one_row_copied : (whole rows more rest later : List (K × V)) (k : K) (v copy : V) → whole ≡ rows ++ rest → rest ≡ (k, v) ∷ later → copy ≡ v
      → more ≡ rows ++ (k, copy) ∷ [] → whole ≡ more ++ later
  one_row_copied whole rows more rest later k v copy begun next same pushed =
      begun ∙ ap (λ r. rows ++ r) next ∙ sym (append_assoc rows ((k, v) ∷ []) later)
      ∙ ap (λ (u : V). (rows ++ (k, u) ∷ []) ++ later) (sym same) ∙ ap (λ r. r ++ later) (sym pushed)

  -- what holds of each key so far and of one more
  pub one_key_more : (Q : K → Type 0) (rows more : List (K × V)) (k : K) (copy : V) → Each (λ r. Q r.0) rows → Q k → more ≡ rows ++ (k, copy) ∷ [] → Each (λ r. Q r.0) more
  one_key_more Q rows more k copy so_far here pushed =
      subst (Each (λ r. Q r.0)) (sym pushed) (Each-append (λ r. Q r.0) rows ((k, copy) ∷ []) so_far (here, tt))

  -- as many rows as the map has pairs
  pub count_rows : (m : PairMap K V) (rows : List (K × V)) → rows ≡ pairs_below m [] → length rows ≡ fin.len m
  count_rows m rows e = ap length e ∙ count_whole m

  -- what holds of each item holds of each of the first
  each_of_first : (Q : K × V → Type 0) (n : ℕ) (rows : List (K × V)) → Each Q rows → Each Q (take n rows)
  each_of_first Q zero rows h = tt
  each_of_first Q (suc n) [] h = tt
  each_of_first Q (suc n) (r ∷ rows) h = (h.0, each_of_first Q n rows h.1)

module _ {A V : Type 0} (w : ℕ) (number : A → ℕ) where
  -- the first of rows in order are in order
  first_in_order : (n : ℕ) (rows : List (Net A × V)) → AreRowsInOrder w number rows → AreRowsInOrder w number (take n rows)
  first_in_order n rows h =
      let code = network_code w number in
      let parted = ap (codes_of code) (sym (take-append-drop n rows)) ∙ map-append (λ r. code r.0) (take n rows) (drop n rows) in
      rising_rows w number (take n rows) (each_of_first (λ r. IsNetwork w number r.0) n rows (rows_of_networks w number rows h))
      (rising_front (codes_of code (take n rows)) (codes_of code (drop n rows)) (subst IsRising parted (rows_rise w number rows h)))

  -- none of rows in order is the first that isn't
  pub none_out_of_order : (rows : List (Net A × V)) (i : ℕ) → AreRowsInOrder w number rows → IsFirstOutOfOrder w number rows i → ⊥
  none_out_of_order rows i rising first = first.unsorted (first_in_order (i + 1) rows rising)

  -- so it is of copies of a map's rows
  pub no_copy_out_of_order : (m : PairMap (Net A) V) (rows : List (Net A × V)) (i : ℕ) → rows ≡ pairs_below m [] → Each (λ r. IsNetwork w number r.0) rows
      → IsRising (codes_of (network_code w number) (pairs_below m [])) → IsFirstOutOfOrder w number rows i → ⊥
  no_copy_out_of_order m rows i copied networks rises first =
      none_out_of_order rows i (rising_rows w number rows networks (subst (λ ps. IsRising (codes_of (network_code w number) ps)) (sym copied) rises)) first

  -- the last of the rows in front is put into the map of the others
  pub one_row_thawed : (rows all before front : List (Net A × V)) (r : Net A × V) (m n : PairMap (Net A) V) → AreRowsInOrder w number rows → all ≡ rows
      → before ≡ front ++ r ∷ [] → IsThawed (network_code w number) all before m → n ≡ fin.insert m (network_code w number r.0) r → IsThawed (network_code w number) all front n
  one_row_thawed rows all before front r m n rising same taken so_far put =
      let code = network_code w number in
      let rises = subst (λ rs. IsRising (codes_of code rs)) (sym same) (rows_rise w number rows rising) in
      one_thawed code all front r m n rises (subst (λ rs. IsThawed code all rs m) taken so_far) put
