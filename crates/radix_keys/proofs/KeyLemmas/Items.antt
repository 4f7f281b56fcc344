-- Keys that are encoded item by item.
use Rattle.std.proofs.Common.{◌≡◌, ℕ, zero, suc, ◌+◌, ◌-◌, ◌%◌, ◌<◌, ◌≤◌, List, [], ◌∷◌, ◌++◌, length, get_or, take, drop, reverse, flat_map, All, refl, arith, sym, ◌∙◌, ap}
use Rattle.std.specs.Int.{w8, to_be_bytes}
use Rattle.std.proofs.lemmas.Grind.{flat_map-append}
use Rattle.std.proofs.lemmas.List.{append-nil, get_or-reverse, length-append, length-reverse, length-take-le, take_more, take-append-drop}
use Rattle.std.proofs.lemmas.List.Elements.{All-append}

-- one more item of a list that is encoded item by item
-- the encodings of i + 1 items are those of i items, and that of the next
pub flat_map-one_more : {X : Type 0} (f : X → List ℕ) (xs : List X) (i : ℕ) (x : X) → i < length xs → x ≡ get_or xs i x
    → flat_map f (take (i + 1) xs) ≡ flat_map f (take i xs) ++ f x
flat_map-one_more f xs i x lt e =
    rw (take_more xs i x lt, ← e) (flat_map-append f (take i xs) (x ∷ []) ∙ ap (λ t. flat_map f (take i xs) ++ t) (append-nil (f x)))

-- the encodings of i items and of the next fit into that of the whole list
pub flat_map_room : {X : Type 0} (f : X → List ℕ) (xs : List X) (i : ℕ) (x : X) → i < length xs → x ≡ get_or xs i x
    → length (flat_map f (take i xs)) + length (f x) ≤ length (flat_map f xs)
flat_map_room f xs i x lt e =
    let whole : flat_map f xs ≡ flat_map f (take (i + 1) xs) ++ flat_map f (drop (i + 1) xs) =
    ap (flat_map f) (sym (take-append-drop (i + 1) xs)) ∙ flat_map-append f (take (i + 1) xs) (drop (i + 1) xs) in
    omega (
      arith,
      ap length whole,
      ap length (flat_map-one_more f xs i x lt e),
      length-append (flat_map f (take (i + 1) xs)) (flat_map f (drop (i + 1) xs)),
      length-append (flat_map f (take i xs)) (f x),
    )

-- what holds of an item holds of all items of the list with it alone
all-one : {X : Type 0} (P : X → Type 0) (x : X) → P x → All P (x ∷ [])
all-one P x here zero d h = here
all-one P x here (suc k) d h = absurd (omega arith)

-- what holds of the first i items and of the next holds of the first i + 1
pub all-more : {X : Type 0} (P : X → Type 0) (xs : List X) (i : ℕ) (x : X) → i < length xs → x ≡ get_or xs i x
    → All P (take i xs) → P x → All P (take (i + 1) xs)
all-more P xs i x lt e all here =
    rw (take_more xs i x lt, ← e) (All-append P (take i xs) (x ∷ []) all (all-one P x here))

-- one more byte, from the end
-- i + 1 bytes from the end are i bytes from the end, and the next towards the front
pub take-reverse_more : (xs : List ℕ) (n i : ℕ) → length xs ≡ n → i < n
    → take (i + 1) (reverse xs) ≡ take i (reverse xs) ++ get_or xs (n - 1 - i) 0 ∷ []
take-reverse_more xs n i e lt =
    take_more (reverse xs) i 0 (omega (arith, length-reverse xs))
    ∙ ap (λ t. take i (reverse xs) ++ t ∷ []) (get_or-reverse xs i 0 (omega arith))
    ∙ ap (λ m. take i (reverse xs) ++ get_or xs (m - 1 - i) 0 ∷ []) e

-- i bytes from the end are i bytes, where there are as many
pub length-take-reverse : (xs : List ℕ) (i : ℕ) → i ≤ length xs → length (take i (reverse xs)) ≡ i
length-take-reverse xs i le = length-take-le i (reverse xs) (omega (arith, length-reverse xs))

-- the bytes of bytes are these
pub bytes_of_bytes : (bs : List ℕ) → ((k : ℕ) → get_or bs k 0 < 256) → bs ≡ flat_map (to_be_bytes w8) bs
bytes_of_bytes [] fits = refl
bytes_of_bytes (b ∷ bs) fits =
    let low : b ≡ b % 256 = (let byte = fits 0 in omega (arith, byte)) in
    ap (λ x. x ∷ bs) low ∙ ap (λ t. (b % 256) ∷ t) (bytes_of_bytes bs (λ k. fits (suc k)))
