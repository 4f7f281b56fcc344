-- How lists of nibbles compare in the order of the encodings.
use Rattle.std.proofs.Common.{◌≡◌, ◌≢◌, ℕ, zero, suc, ◌<◌, ◌≤◌, List, [], ◌∷◌, ◌++◌, length, take, slice_index, refl, ap, sym, ◌∙◌, arith, Ordering, Less, Equal, Greater, nat_cmp}
use Rattle.std.specs.Ordering.{ordering_then}
use Rattle.std.specs.Cmp.{nat_cmp_is}
use Rattle.std.specs.Cmp.Lexicographic.{slice_cmp}
use Rattle.nibble_map.specs.Trees.{first}
use Rattle.nibble_map.proofs.ListLemmas.Cut.{cons_head, cons_tail}

-- the order of two lists
abbrev pub order : List ℕ → List ℕ → Ordering
order = slice_cmp nat_cmp

-- what begins with a lower nibble comes before
low_head : (a b : ℕ) (y r : List ℕ) → a < b → order (b ∷ r) (a ∷ y) ≡ Greater
low_head a b y r lt = ap (λ o. ordering_then o (order r y)) (sym (nat_cmp_is b a Greater lt))

-- what begins with a higher nibble comes after
high_head : (a b : ℕ) (y r : List ℕ) → b < a → order (b ∷ r) (a ∷ y) ≡ Less
high_head a b y r lt = ap (λ o. ordering_then o (order r y)) (sym (nat_cmp_is b a Less lt))

-- with the same first nibble, the rests decide
same_head : (a b : ℕ) (y r : List ℕ) → b ≡ a → order (b ∷ r) (a ∷ y) ≡ order r y
same_head a b y r e = ap (λ o. ordering_then o (order r y)) (sym (nat_cmp_is b a Equal e))

-- behind a common beginning, the rests decide
pub order-behind : (p r y : List ℕ) → order (p ++ r) (p ++ y) ≡ order r y
order-behind [] r y = refl
order-behind (a ∷ p) r y = same_head a a (p ++ y) (p ++ r) refl ∙ order-behind p r y

-- a list and f agree in n nibbles
-- what f begins comes after a list that ends there
pub after_ended : (f r : List ℕ) (n : ℕ) (y : List ℕ) → take n f ≡ take n r → n < length f → length r ≤ n → order r (f ++ y) ≡ Less
after_ended [] r n y alike lt end = absurd (omega arith)
after_ended (a ∷ f) [] n y alike lt end = refl
after_ended (a ∷ f) (b ∷ r) zero y alike lt end = absurd (omega arith)
after_ended (a ∷ f) (b ∷ r) (suc n) y alike lt end =
    same_head a b (f ++ y) r (sym (cons_head alike)) ∙ after_ended f r n y (cons_tail alike) (omega arith) (omega arith)

-- what f begins comes before a list that goes on by a higher nibble
pub before_parted : (f r : List ℕ) (n : ℕ) (y : List ℕ) → take n f ≡ take n r → n < length f → n < length r → slice_index f n < slice_index r n → order r (f ++ y) ≡ Greater
before_parted [] r n y alike lt in_r low = absurd (omega arith)
before_parted (a ∷ f) [] n y alike lt in_r low = absurd (omega arith)
before_parted (a ∷ f) (b ∷ r) zero y alike lt in_r low = low_head a b (f ++ y) r low
before_parted (a ∷ f) (b ∷ r) (suc n) y alike lt in_r low =
    same_head a b (f ++ y) r (sym (cons_head alike)) ∙ before_parted f r n y (cons_tail alike) (omega arith) (omega arith) low

-- what f begins comes after a list that goes on by a lower nibble
pub after_parted : (f r : List ℕ) (n : ℕ) (y : List ℕ) → take n f ≡ take n r → n < length f → n < length r → slice_index r n < slice_index f n → order r (f ++ y) ≡ Less
after_parted [] r n y alike lt in_r low = absurd (omega arith)
after_parted (a ∷ f) [] n y alike lt in_r low = absurd (omega arith)
after_parted (a ∷ f) (b ∷ r) zero y alike lt in_r low = high_head a b (f ++ y) r low
after_parted (a ∷ f) (b ∷ r) (suc n) y alike lt in_r low =
    same_head a b (f ++ y) r (sym (cons_head alike)) ∙ after_parted f r n y (cons_tail alike) (omega arith) (omega arith) low

-- what begins with a lower nibble comes before
pub low_first : (b : ℕ) (r f y : List ℕ) → f ≢ [] → first f < b → order (b ∷ r) (f ++ y) ≡ Greater
low_first b r [] y some lt = absurd (some refl)
low_first b r (a ∷ f) y some lt = low_head a b (f ++ y) r lt

-- what begins with a higher nibble comes after
pub high_first : (b : ℕ) (r f y : List ℕ) → f ≢ [] → b < first f → order (b ∷ r) (f ++ y) ≡ Less
high_first b r [] y some lt = absurd (some refl)
high_first b r (a ∷ f) y some lt = high_head a b (f ++ y) r lt

-- what isn't empty comes after the empty list
pub some_first : (f y : List ℕ) → f ≢ [] → order [] (f ++ y) ≡ Less
some_first [] y some = absurd (some refl)
some_first (a ∷ f) y some = refl
