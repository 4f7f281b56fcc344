-- The routes in order are those that are stored.
use Rattle.std.proofs.Common.{◌≡◌, ◌∙◌, ℕ, zero, suc, ◌<◌, List, [], ◌∷◌, length, slice_get, map as each, Option, Some, None, refl, sym, ap, subst, inl, inr, arith}
use Rattle.std.specs.FinMap as map
use Rattle.std.specs.List.{Contains}
use Rattle.std.proofs.lemmas.List.{get_or-map, length-map}
use Rattle.std.proofs.lemmas.Option.{get_or_from_slice_get, slice_get_within, slice_get_read}
use Rattle.frozen_routes.specs.Routes.{IsHoldingRow, IsLongestRow}
use Rattle.nibble_map.specs.Lists.{Has}
use Rattle.nibble_map.specs.Maps.{walk}
use Rattle.nibble_map.proofs.MapLemmas.Walks.{Has-walk}
use Rattle.radix_keys.specs.Networks.{IsBase}
use Rattle.route_tool.specs.Routes.{Route, Routes, AreNetworks, IsHolder, IsLongestRoute, in_order, place}

-- an element of a list, changed as all are
pub changed_has : {X Y : Type 0} (f : X → Y) (xs : List X) (x : X) → Contains xs x → Contains (each f xs) (f x)
changed_has f xs x (k, lt, e) = (k, subst (λ n. k < n) (sym (length-map xs f)) lt, get_or-map f xs k x (f x) lt ∙ ap f e)

-- an element of a changed list is one of the list, changed
pub has_changed : {X Y : Type 0} (f : X → Y) (xs : List X) (y : Y) → Contains (each f xs) y → (x : X) × Contains xs x × (f x ≡ y)
has_changed f [] y (k, lt, e) = absurd (omega arith)
has_changed f (x ∷ xs) y (zero, lt, e) = (x, (zero, omega arith, refl), e)
has_changed f (x ∷ xs) y (suc k, lt, e) =
    let (z, (j, less, at), is) = has_changed f xs y (k, omega arith, e) in (z, (suc j, omega arith, at), is)

-- the two words for an element of a list
pub has_of : {X : Type 0} (xs : List X) (x : X) → Contains xs x → Has xs x
has_of [] x (k, lt, e) = absurd (omega arith)
has_of (y ∷ ys) x (zero, lt, e) = inl (sym e)
has_of (y ∷ ys) x (suc k, lt, e) = inr (has_of ys x (k, omega arith, e))

pub contains_of : {X : Type 0} (xs : List X) (x : X) → Has xs x → Contains xs x
contains_of [] x h = absurd h
contains_of (y ∷ ys) x (inl e) = (zero, omega arith, sym e)
contains_of (y ∷ ys) x (inr h) = let (k, lt, e) = contains_of ys x h in (suc k, omega arith, e)

-- a list with no first is none
pub none_left : {X : Type 0} (xs : List X) → slice_get xs 0 ≡ None → xs ≡ []
none_left [] e = refl
none_left (y ∷ ys) e = cc

module _ {A : Type 0} (w : ℕ) (number : A → ℕ) (m : Routes A) (networks : AreNetworks w number m) where
  -- a listed entry is stored
  pub entry_stored : (e : List ℕ) (r : Route A) → Has (walk m []) (e, r) → map.get m e ≡ Some r
  entry_stored e r has = ((Has-walk m [] e r).0 has).1

  -- a listed route is stored at its network
  pub stored : (r : Route A) → Contains (in_order m) r → (map.get m (place w number r.0) ≡ Some r) × IsBase w r.0.bits (number r.0.base)
  stored r at =
      let (e, has, is) = has_changed (λ e. e.1) (walk m []) r at in
      let got : map.get m e.0 ≡ Some r = entry_stored e.0 e.1 (has_of (walk m []) e has) ∙ ap (λ s. Some s) is in
      let key = networks e.0 r got in
      (ap (map.get m) (sym key.0) ∙ got, key.1)

  -- a stored route is listed
  pub listed : (r : Route A) → map.get m (place w number r.0) ≡ Some r → Contains (in_order m) r
  listed r got =
      changed_has (λ e. e.1) (walk m []) (place w number r.0, r)
      (contains_of (walk m []) (place w number r.0, r) ((Has-walk m [] (place w number r.0) r).1 ((place w number r.0, refl), got)))

  module _ (n : ℕ) where
    -- a row that holds an address is a route that does
    holder_of : (r : Route A) → IsHoldingRow w number (in_order m) n r → IsHolder w number m n r
    holder_of r h =
        let at : Contains (in_order m) r = (h.at, slice_get_within (in_order m) h.at r h.stored, get_or_from_slice_get (in_order m) h.at r r h.stored) in
        let (got, base) = stored r at in record { stored = got; base = base; holds = h.holds }

    -- and the other way round
    row_of : (r : Route A) → IsHolder w number m n r → IsHoldingRow w number (in_order m) n r
    row_of r h =
        let (k, lt, e) = listed r h.stored in
        record { at = k; stored = slice_get_read (in_order m) (length (in_order m)) k r refl lt (sym e); holds = h.holds }

    -- the longest of the rows in order is the longest route
    pub longest_row : (found : Option (Route A)) → IsLongestRow w number (in_order m) n found → IsLongestRoute w number m n found
    longest_row None none = λ r h. none r (row_of r h)
    longest_row (Some r) (holds, most) = (holder_of r holds, λ s h. most s (row_of s h))
