-- What is looked up in a table, and in rows with its networks' numbers.
use Rattle.std.proofs.Common.{◌≡◌, ℕ, zero, suc, ◌+◌, ◌<◌, Bool, List, [], ◌∷◌, ◌++◌, Option, Some, None, get_or, slice_get, map as each, option_map, refl, ap, sym, subst, ◌∙◌, arith}
use Rattle.std.proofs.lemmas.List.{map_push}
use Rattle.radix_keys.specs.Networks.{AgreeIn, IsBase, Net}
use Rattle.image_parts.specs.Parts.{listed, row_count}
use Rattle.image_parts.proofs.ByteLemmas.{listed_more}
use Rattle.frozen_routes.specs.Routes.{AreRising, AreRowsInOrder, IsHoldingRow, IsLongestRow, base_numbers, bit_counts}
use Rattle.flat_routes.specs.Images.{IsImage, bases, numbered_row, sizes, width}
use Rattle.flat_routes.proofs.ImageLemmas.{length-firsts}

module _ {X Y : Type 0} (f : X → Y) where
  -- an item's image is stored where it is
  each_get : (xs : List X) (i : ℕ) (x : X) → slice_get xs i ≡ Some x → slice_get (each f xs) i ≡ Some (f x)
  each_get [] i x at = absurd (cc at)
  each_get (y ∷ ys) zero x at = let same : y ≡ x = cc at in ap (λ z. Some (f z)) same
  each_get (y ∷ ys) (suc i) x at = each_get ys i x at

  -- and nothing else is
  each_got : (xs : List X) (i : ℕ) (y : Y) → slice_get (each f xs) i ≡ Some y → (x : X) × (slice_get xs i ≡ Some x) × (f x ≡ y)
  each_got [] i y at = absurd (cc at)
  each_got (x ∷ xs) zero y at = (x, (let same : x ≡ x = cc in ap (λ z. Some z) same), cc at)
  each_got (x ∷ xs) (suc i) y at = each_got xs i y at

module _ {A : Type 0} (w : ℕ) (number : A → ℕ) (rows : List (Net A × ℕ)) (n : ℕ) where
  -- a row that holds an address holds it there
  holding_there : (r : Net A × ℕ) → IsHoldingRow w number rows n r → IsHoldingRow w (λ m. m) (each (numbered_row number) rows) n (numbered_row number r)
  holding_there r h = record { at = h.at; stored = each_get (numbered_row number) rows h.at r h.stored; holds = h.holds }

  -- and one that holds it there is one of them
  holding_here : (s : Net ℕ × ℕ) → IsHoldingRow w (λ m. m) (each (numbered_row number) rows) n s → (r : Net A × ℕ) × IsHoldingRow w number rows n r × (numbered_row number r ≡ s)
  holding_here s h =
      let own = each_got (numbered_row number) rows h.at s h.stored in
      (own.0, record { at = h.at; stored = own.1; holds = subst (λ t. AgreeIn w t.0.bits t.0.base n) (sym own.2) h.holds }, own.2)

  -- the longest row has the longest one's numbers
  pub longest_there : (found : Option (Net A × ℕ)) → IsLongestRow w number rows n found
      → IsLongestRow w (λ m. m) (each (numbered_row number) rows) n (option_map (numbered_row number) found)
  longest_there None none = λ s h. let own = holding_here s h in none own.0 own.1
  longest_there (Some r) most = (
    holding_there r most.0,
    λ s h.
        let own = holding_here s h in
        let le = most.1 own.0 own.1 in
        let bits = ap (λ t. t.0.bits) own.2 in
        omega (arith, le, bits),
  )

-- rows whose networks are told by numbers have the same numbers
module _ {A : Type 0} (number : A → ℕ) where
  -- their first addresses
  numbered_firsts : (rows : List (Net A × ℕ)) → base_numbers (λ m. m) (each (numbered_row number) rows) ≡ base_numbers number rows
  numbered_firsts [] = refl
  numbered_firsts (r ∷ rs) = ap (λ xs. number r.0.base ∷ xs) (numbered_firsts rs)

  -- and how many bits each shares
  numbered_counts : (rows : List (Net A × ℕ)) → bit_counts (each (numbered_row number) rows) ≡ bit_counts rows
  numbered_counts [] = refl
  numbered_counts (r ∷ rs) = ap (λ xs. r.0.bits ∷ xs) (numbered_counts rs)

  -- and are in order as they are
  pub numbered_order : (w : ℕ) (rows : List (Net A × ℕ)) → AreRowsInOrder w number rows → AreRowsInOrder w (λ m. m) (each (numbered_row number) rows)
  numbered_order w rows rising =
      subst (λ fs. AreRising w fs (bit_counts (each (numbered_row number) rows))) (sym (numbered_firsts rows))
      (subst (AreRising w (base_numbers number rows)) (sym (numbered_counts rows)) rising)

-- the numbers that are read at a row of an image are a network's
pub read_base : (wide : Bool) (bs : List ℕ) (i f b : ℕ) → IsImage wide bs → i < row_count bs → f ≡ get_or (bases wide bs) i 0 → b ≡ get_or (sizes wide bs) i 0
    → IsBase (width wide) b f
read_base wide bs i f b image inside first size =
    subst (λ x. IsBase (width wide) b x) (sym first) (subst (λ y. IsBase (width wide) y (get_or (bases wide bs) i 0)) (sym size)
    (image.rising.bases i (omega (arith, inside, length-firsts wide bs))))

-- one more row that an image has
pub shown_more : {R X : Type 0} (shown : R → X) (f : ℕ → X) (xs more : List R) (n : ℕ) (r : R) → more ≡ xs ++ r ∷ [] → each shown xs ≡ listed f n → shown r ≡ f n
    → each shown more ≡ listed f (n + 1)
shown_more shown f xs more n r is same here =
    ap (λ ys. each shown ys) is ∙ map_push shown xs r ∙ ap (λ ys. ys ++ shown r ∷ []) same ∙ ap (λ x. listed f n ++ x ∷ []) here ∙ sym (listed_more f n)
