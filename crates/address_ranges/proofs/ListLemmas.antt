-- What holds of some element, or of each two, where lists are joined or mapped.
use Rattle.std.proofs.Common.{zero, suc, ◌+◌, ◌⊎◌, List, [], ◌∷◌, ◌++◌, length, map, inl, inr, refl, sym, subst, ◌∙◌, arith}
use Rattle.std.specs.List.{All, AllPairs, Any}
use Rattle.std.proofs.lemmas.List.{length-append, get_or_append_left, get_or-append-add}
use Rattle.std.proofs.lemmas.List.Elements.{All-append, All-cons, All-head, All-map, All-nil, All-tail}
use Rattle.std.proofs.lemmas.List.Kept.{AllPairs-cons}

module _ {X : Type 0} (P : X → Type 0) where
  pub any_here : (x : X) (xs : List X) → P x → Any P (x ∷ xs)
  any_here x xs h = (0, x, omega arith, refl, h)

  pub any_later : (x : X) (xs : List X) → Any P xs → Any P (x ∷ xs)
  any_later x xs h = (suc h.0, h.1, (let lt = h.2 in omega (arith, lt)), h.3, h.4)

  pub any_left : (xs ys : List X) → Any P xs → Any P (xs ++ ys)
  any_left xs ys h =
      (h.0, h.1, (let lt = h.2 in omega (arith, lt, length-append xs ys)), get_or_append_left xs ys h.1 h.0 h.2 ∙ h.3, h.4)

  pub any_right : (xs ys : List X) → Any P ys → Any P (xs ++ ys)
  any_right xs ys h =
      (length xs + h.0, h.1, (let lt = h.2 in omega (arith, lt, length-append xs ys)), get_or-append-add xs ys h.0 h.1 ∙ h.3, h.4)

  pub any_none : Any P [] → ⊥
  any_none h = let lt = h.2 in omega (arith, lt)

  pub any_first : (x : X) (xs : List X) → Any P (x ∷ xs) → P x ⊎ Any P xs
  any_first x xs (zero, y, lt, is, p) = inl (subst P (sym is) p)
  any_first x xs (suc k, y, lt, is, p) = inr (k, y, omega (arith, lt), is, p)

  pub any_parts : (xs ys : List X) → Any P (xs ++ ys) → Any P xs ⊎ Any P ys
  any_parts [] ys h = inr h
  any_parts (x ∷ xs) ys h = elim (any_first x (xs ++ ys) h) [
    | inl p ↦ inl (any_here x xs p)
    | inr rest ↦ elim (any_parts xs ys rest) [ inl l ↦ inl (any_later x xs l) | inr r ↦ inr r ]
  ]

  -- what holds of all holds of some one
  pub any_of_all : (Q : X → Type 0) (xs : List X) → All Q xs → Any P xs → (x : X) × Q x × P x
  any_of_all Q xs all h = (h.1, subst Q h.3 (all h.0 h.1 h.2), h.4)

-- what holds of one holds of it in another sense
pub any_weaker : {X : Type 0} (P Q : X → Type 0) → ((x : X) → P x → Q x) → (xs : List X) → Any P xs → Any Q xs
any_weaker P Q f xs h = (h.0, h.1, h.2, h.3, f h.1 h.4)

-- some element of a mapped list, by that of the list
pub any_mapped : {X Y : Type 0} (P : Y → Type 0) (f : X → Y) (xs : List X) → Any (λ x. P (f x)) xs → Any P (map f xs)
any_mapped P f [] h = absurd (any_none (λ x. P (f x)) h)
any_mapped P f (x ∷ xs) h = elim (any_first (λ y. P (f y)) x xs h) [
  | inl p ↦ any_here P (f x) (map f xs) p
  | inr rest ↦ any_later P (f x) (map f xs) (any_mapped P f xs rest)
]

pub any_unmapped : {X Y : Type 0} (P : Y → Type 0) (f : X → Y) (xs : List X) → Any P (map f xs) → Any (λ x. P (f x)) xs
any_unmapped P f [] h = absurd (any_none P h)
any_unmapped P f (x ∷ xs) h = elim (any_first P (f x) (map f xs) h) [
  | inl p ↦ any_here (λ y. P (f y)) x xs p
  | inr rest ↦ any_later (λ y. P (f y)) x xs (any_unmapped P f xs rest)
]

module _ {X : Type 0} (R : X → X → Type 0) where
  pub pairs_head : (x : X) (xs : List X) → AllPairs R (x ∷ xs) → All (R x) xs
  pairs_head x xs h k d lt = h zero (suc k) d (omega arith) (omega (arith, lt))

  pub pairs_tail : (x : X) (xs : List X) → AllPairs R (x ∷ xs) → AllPairs R xs
  pairs_tail x xs h i j d less lt = h (suc i) (suc j) d (omega (arith, less)) (omega (arith, lt))

  pub pairs_none : AllPairs R []
  pairs_none i j d less lt = absurd (omega (arith, lt))

  pub pairs_parts : (xs ys : List X) → AllPairs R xs → AllPairs R ys → All (λ x. All (R x) ys) xs → AllPairs R (xs ++ ys)
  pairs_parts [] ys h k across = k
  pairs_parts (x ∷ xs) ys h k across =
      AllPairs-cons R x (xs ++ ys)
      (All-append (R x) xs ys (pairs_head x xs h) (All-head (λ z. All (R z) ys) x xs across))
      (pairs_parts xs ys (pairs_tail x xs h) k (All-tail (λ z. All (R z) ys) x xs across))

-- pairs of a mapped list, by those of the list
pub pairs_mapped : {X Y : Type 0} (R : Y → Y → Type 0) (f : X → Y) (xs : List X) → AllPairs (λ x y. R (f x) (f y)) xs → AllPairs R (map f xs)
pairs_mapped R f [] h = pairs_none R
pairs_mapped R f (x ∷ xs) h =
    AllPairs-cons R (f x) (map f xs) (All-map (R (f x)) f xs (pairs_head (λ a b. R (f a) (f b)) x xs h))
    (pairs_mapped R f xs (pairs_tail (λ a b. R (f a) (f b)) x xs h))

pub all_unmapped : {X Y : Type 0} (P : Y → Type 0) (f : X → Y) (xs : List X) → All P (map f xs) → All (λ x. P (f x)) xs
all_unmapped P f [] h = All-nil (λ x. P (f x))
all_unmapped P f (x ∷ xs) h =
    All-cons (λ y. P (f y)) x xs (All-head P (f x) (map f xs) h) (all_unmapped P f xs (All-tail P (f x) (map f xs) h))

pub pairs_unmapped : {X Y : Type 0} (R : Y → Y → Type 0) (f : X → Y) (xs : List X) → AllPairs R (map f xs) → AllPairs (λ x y. R (f x) (f y)) xs
pairs_unmapped R f [] h = pairs_none (λ x y. R (f x) (f y))
pairs_unmapped R f (x ∷ xs) h =
    AllPairs-cons (λ a b. R (f a) (f b)) x xs (all_unmapped (R (f x)) f xs (pairs_head R (f x) (map f xs) h))
    (pairs_unmapped R f xs (pairs_tail R (f x) (map f xs) h))
