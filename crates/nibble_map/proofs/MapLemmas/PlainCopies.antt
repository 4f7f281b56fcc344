-- A copy of plain values is the map itself.
use Rattle.std.proofs.Common.{◌≡◌, T, Option, Some, None, is_some, refl, ap, ◌∙◌}
use Rattle.std.specs.FinMap as fin
use Rattle.std.proofs.lemmas.Cmp.{nat_list_cmp_total}
use Rattle.nibble_map.specs.Copies.{IsMapCopy, IsPairClone}
use Rattle.nibble_map.specs.Maps.{NibbleMap, PairMap}
use Rattle.nibble_map.proofs.ListLemmas.Sorted.{tied_lists_equal}

module _ {P : Type 0} where
  -- options are equal where both or none is there, and what they hold is equal
  options_agree : (o u : Option P) → (T (is_some o) → T (is_some u)) → (T (is_some u) → T (is_some o)) → ((x y : P) → o ≡ Some x → u ≡ Some y → y ≡ x) → u ≡ o
  options_agree None None f g h = refl
  options_agree None (Some y) f g h = absurd (g tt)
  options_agree (Some x) None f g h = absurd (f tt)
  options_agree (Some x) (Some y) f g h = ap Some (h x y refl refl)

  -- a copy that holds the same at each list is the map
  equal_copy : (m n : NibbleMap P) → IsMapCopy (λ x y. y ≡ x) m n → n ≡ m
  equal_copy m n c =
      fin.same_map nat_list_cmp_total tied_lists_equal n m
      (λ q. options_agree (fin.get m q) (fin.get n q) (c.same_lists q).0 (c.same_lists q).1 (λ x y i j. c.copied_pairs q x y i j))

-- where each clone is the value itself, a copy is the map
pub plain_copy : {K V : Type 0} (m n : PairMap K V) → IsMapCopy (IsPairClone (λ x y. y ≡ x) (λ x y. y ≡ x)) m n → n ≡ m
plain_copy m n c =
    equal_copy m n (record { same_lists = c.same_lists; copied_pairs = λ e x y i j. let p = c.copied_pairs e x y i j in (ap (λ k. (k, y.1)) p.0 ∙ ap (λ v. (x.0, v)) p.1) })
