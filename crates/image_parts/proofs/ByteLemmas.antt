-- What numbers in bytes say when bytes are put, and what is listed of a function.
use Rattle.std.proofs.Common.{◌≡◌, ℕ, zero, suc, ◌+◌, ◌^◌, ◌<◌, ◌≤◌, inl, inr, List, [], ◌∷◌, ◌++◌, Some, None, length, slice_get, slice_index, take, drop, unwrap_or, Fits, w8, refl, ap, sym, subst, ◌∙◌, arith}
use Rattle.std.specs.Int.{w32, w64, from_le_bytes, to_le_bytes}
use Rattle.std.proofs.lemmas.Bool.{cases_lt}
use Rattle.std.proofs.lemmas.List.{drop_more, ext_get_or, length-append, take-append-le, take_all}
use Rattle.std.proofs.lemmas.Option.{unwrap_or-slice_get}
use Rattle.std.proofs.lemmas.Nat.{from_le_bytes-to_le_bytes_4, from_le_bytes-to_le_bytes_8}
use Rattle.image_parts.specs.Parts.{IsEntry, listed, u32_in, u64_in}

-- the byte at a place, and those behind it
byte_on : (bs : List ℕ) (a b : ℕ) → b ≡ a + 1 → b ≤ length bs → drop a bs ≡ slice_index bs a ∷ drop b bs
byte_on bs a b next l = drop_more bs a 0 (omega (arith, next, l)) ∙ ap (λ m. slice_index bs a ∷ drop m bs) (sym next)

-- the first 4 bytes behind a place
four : (bs : List ℕ) (a : ℕ) → a + 4 ≤ length bs
    → take 4 (drop a bs) ≡ slice_index bs a ∷ slice_index bs (a + 1) ∷ slice_index bs (a + 2) ∷ slice_index bs (a + 3) ∷ []
four bs a l = ap (take 4) (byte_on bs a (a + 1) (omega arith) (omega (arith, l))
    ∙ ap (λ r. slice_index bs a ∷ r) (byte_on bs (a + 1) (a + 2) (omega arith) (omega (arith, l))
    ∙ ap (λ r. slice_index bs (a + 1) ∷ r) (byte_on bs (a + 2) (a + 3) (omega arith) (omega (arith, l))
    ∙ ap (λ r. slice_index bs (a + 2) ∷ r) (byte_on bs (a + 3) (a + 4) (omega arith) l))))

-- the first 8
eight : (bs : List ℕ) (a : ℕ) → a + 8 ≤ length bs
    → take 8 (drop a bs) ≡ slice_index bs a ∷ slice_index bs (a + 1) ∷ slice_index bs (a + 2) ∷ slice_index bs (a + 3)
    ∷ slice_index bs (a + 4) ∷ slice_index bs (a + 5) ∷ slice_index bs (a + 6) ∷ slice_index bs (a + 7) ∷ []
eight bs a l = ap (take 8) (byte_on bs a (a + 1) (omega arith) (omega (arith, l))
    ∙ ap (λ r. slice_index bs a ∷ r) (byte_on bs (a + 1) (a + 2) (omega arith) (omega (arith, l))
    ∙ ap (λ r. slice_index bs (a + 1) ∷ r) (byte_on bs (a + 2) (a + 3) (omega arith) (omega (arith, l))
    ∙ ap (λ r. slice_index bs (a + 2) ∷ r) (byte_on bs (a + 3) (a + 4) (omega arith) (omega (arith, l))
    ∙ ap (λ r. slice_index bs (a + 3) ∷ r) (byte_on bs (a + 4) (a + 5) (omega arith) (omega (arith, l))
    ∙ ap (λ r. slice_index bs (a + 4) ∷ r) (byte_on bs (a + 5) (a + 6) (omega arith) (omega (arith, l))
    ∙ ap (λ r. slice_index bs (a + 5) ∷ r) (byte_on bs (a + 6) (a + 7) (omega arith) (omega (arith, l))
    ∙ ap (λ r. slice_index bs (a + 6) ∷ r) (byte_on bs (a + 7) (a + 8) (omega arith) l))))))))

-- they are its number
pub u32_part : (bs : List ℕ) (a : ℕ) → a + 4 ≤ length bs → from_le_bytes w32 (take 4 (drop a bs)) ≡ u32_in bs a
unfolding u32_in
u32_part bs a l = ap (from_le_bytes w32) (four bs a l)

pub u64_part : (bs : List ℕ) (a : ℕ) → a + 8 ≤ length bs → from_le_bytes w64 (take 8 (drop a bs)) ≡ u64_in bs a
unfolding u64_in
u64_part bs a l = ap (from_le_bytes w64) (eight bs a l)

-- it is below 2^32
pub u32_fits : (bs : List ℕ) (a : ℕ) → ((i : ℕ) → Fits w8 (slice_index bs i)) → u32_in bs a < 2 ^ 32
unfolding u32_in
u32_fits bs a byte =
    let b0 = (byte a).fits in
    let b1 = (byte (a + 1)).fits in
    let b2 = (byte (a + 2)).fits in
    let b3 = (byte (a + 3)).fits in
    omega (arith, b0, b1, b2, b3)

-- and one of 8 bytes below 2^64
pub u64_fits : (bs : List ℕ) (a : ℕ) → ((i : ℕ) → Fits w8 (slice_index bs i)) → u64_in bs a < 2 ^ 64
unfolding u64_in
u64_fits bs a byte =
    let b0 = (byte a).fits in
    let b1 = (byte (a + 1)).fits in
    let b2 = (byte (a + 2)).fits in
    let b3 = (byte (a + 3)).fits in
    let b4 = (byte (a + 4)).fits in
    let b5 = (byte (a + 5)).fits in
    let b6 = (byte (a + 6)).fits in
    let b7 = (byte (a + 7)).fits in
    omega (arith, b0, b1, b2, b3, b4, b5, b6, b7)

-- a number stays where its bytes do
pub u32_kept : (xs ys : List ℕ) (a : ℕ) → ((k : ℕ) → a ≤ k → k < a + 4 → slice_index ys k ≡ slice_index xs k) → u32_in ys a ≡ u32_in xs a
unfolding u32_in
u32_kept xs ys a same =
    let s0 = same a (omega arith) (omega arith) in
    let s1 = same (a + 1) (omega arith) (omega arith) in
    let s2 = same (a + 2) (omega arith) (omega arith) in
    let s3 = same (a + 3) (omega arith) (omega arith) in
    cc (s0, s1, s2, s3)

pub u64_kept : (xs ys : List ℕ) (a : ℕ) → ((k : ℕ) → a ≤ k → k < a + 8 → slice_index ys k ≡ slice_index xs k) → u64_in ys a ≡ u64_in xs a
unfolding u64_in
u64_kept xs ys a same =
    let s0 = same a (omega arith) (omega arith) in
    let s1 = same (a + 1) (omega arith) (omega arith) in
    let s2 = same (a + 2) (omega arith) (omega arith) in
    let s3 = same (a + 3) (omega arith) (omega arith) in
    let s4 = same (a + 4) (omega arith) (omega arith) in
    let s5 = same (a + 5) (omega arith) (omega arith) in
    let s6 = same (a + 6) (omega arith) (omega arith) in
    let s7 = same (a + 7) (omega arith) (omega arith) in
    cc (s0, s1, s2, s3, s4, s5, s6, s7)

-- and what is listed
pub entry_kept : (xs ys : List ℕ) (a kind detail place size : ℕ) → ((k : ℕ) → a ≤ k → k < a + 24 → slice_index ys k ≡ slice_index xs k)
    → IsEntry xs a kind detail place size → IsEntry ys a kind detail place size
entry_kept xs ys a kind detail place size same entry = record {
  kind_is = u32_kept xs ys a (λ k l m. same k l (omega (arith, m))) ∙ entry.kind_is;
  detail_is = u32_kept xs ys (a + 4) (λ k l m. same k (omega (arith, l)) (omega (arith, m))) ∙ entry.detail_is;
  place_is = u64_kept xs ys (a + 8) (λ k l m. same k (omega (arith, l)) (omega (arith, m))) ∙ entry.place_is;
  size_is = u64_kept xs ys (a + 16) (λ k l m. same k (omega (arith, l)) (omega (arith, m))) ∙ entry.size_is;
}

-- a number is read where its bytes were put
pub u32_written : (zs : List ℕ) (a e n : ℕ) → a + 4 ≤ length zs → e ≡ 4 → n < 2 ^ 32 → take e (drop a zs) ≡ to_le_bytes w32 n → u32_in zs a ≡ n
u32_written zs a e n l is fits put =
    sym (u32_part zs a l) ∙ ap (from_le_bytes w32) (ap (λ k. take k (drop a zs)) (sym is) ∙ put) ∙ from_le_bytes-to_le_bytes_4 n fits

pub u64_written : (zs : List ℕ) (a e n : ℕ) → a + 8 ≤ length zs → e ≡ 8 → n < 2 ^ 64 → take e (drop a zs) ≡ to_le_bytes w64 n → u64_in zs a ≡ n
u64_written zs a e n l is fits put =
    sym (u64_part zs a l) ∙ ap (from_le_bytes w64) (ap (λ k. take k (drop a zs)) (sym is) ∙ put) ∙ from_le_bytes-to_le_bytes_8 n fits

-- as many as are listed
pub length-listed : {X : Type 0} (f : ℕ → X) (n : ℕ) → length (listed f n) ≡ n
unfolding listed
length-listed f zero = refl
length-listed f (suc n) = omega (arith, length-append (listed f n) (f n ∷ []), length-listed f n)

listed_next : {X : Type 0} (f : ℕ → X) (n : ℕ) → listed f (suc n) ≡ listed f n ++ f n ∷ []
unfolding listed
listed_next f n = refl

-- one more is listed
pub listed_more : {X : Type 0} (f : ℕ → X) (n : ℕ) → listed f (n + 1) ≡ listed f n ++ f n ∷ []
listed_more f n = let next : suc n ≡ n + 1 = omega arith in subst (λ m. listed f m ≡ listed f n ++ f n ∷ []) next (listed_next f n)

-- of functions with the same values the same is listed
pub listed_same : {X : Type 0} (f g : ℕ → X) (n : ℕ) → ((k : ℕ) → k < n → f k ≡ g k) → listed f n ≡ listed g n
unfolding listed
listed_same f g zero same = refl
listed_same f g (suc n) same = ap (λ xs. xs ++ f n ∷ []) (listed_same f g n (λ k l. same k (omega (arith, l)))) ∙ ap (λ x. listed g n ++ x ∷ []) (same n (omega arith))

-- what is stored in a list is stored in it and one more
stored_left : {X : Type 0} (xs ys : List X) (i : ℕ) (x : X) → slice_get xs i ≡ Some x → slice_get (xs ++ ys) i ≡ Some x
stored_left [] ys i x at = absurd (cc at)
stored_left (y ∷ xs) ys zero x at = at
stored_left (y ∷ xs) ys (suc i) x at = stored_left xs ys i x at

-- and the last one at the length of the others
stored_last : {X : Type 0} (xs : List X) (x : X) (i : ℕ) → length xs ≡ i → slice_get (xs ++ x ∷ []) i ≡ Some x
stored_last [] x zero is = refl
stored_last [] x (suc i) is = absurd (omega (arith, is))
stored_last (y ∷ xs) x zero is = absurd (omega (arith, is))
stored_last (y ∷ xs) x (suc i) is = stored_last xs x i (omega (arith, is))

-- the one at an index
pub listed_at : {X : Type 0} (f : ℕ → X) (n i : ℕ) → i < n → slice_get (listed f n) i ≡ Some (f i)
unfolding listed
listed_at f zero i l = absurd (omega (arith, l))
listed_at f (suc n) i l = elim (cases_lt i n) [
  | inl lt ↦ stored_left (listed f n) (f n ∷ []) i (f i) (listed_at f n i lt)
  | inr ge ↦
      let same : n ≡ i = omega (arith, l, ge) in
      subst (λ j. slice_get (listed f n ++ f n ∷ []) j ≡ Some (f j)) same (stored_last (listed f n) (f n) n (length-listed f n))
]

-- nothing is stored behind a list
past : {X : Type 0} (xs : List X) (i : ℕ) (x : X) → length xs ≤ i → slice_get xs i ≡ Some x → ⊥
past [] i x l at = cc at
past (y ∷ xs) zero x l at = omega (arith, l)
past (y ∷ xs) (suc i) x l at = past xs i x (omega (arith, l)) at

pub none_past : {X : Type 0} (xs : List X) (i : ℕ) → length xs ≤ i → slice_get xs i ≡ None
none_past [] i l = refl
none_past (y ∷ xs) zero l = absurd (omega (arith, l))
none_past (y ∷ xs) (suc i) l = none_past xs i (omega (arith, l))

-- a list whose items are a function's values is what is listed of it
pub listed_all : {X : Type 0} (f : ℕ → X) (xs : List X) (n : ℕ) → length xs ≡ n → ((k : ℕ) → k < n → slice_get xs k ≡ Some (f k)) → listed f n ≡ xs
listed_all f xs n many stored =
    let d = f 0 in
    ext_get_or d (listed f n) xs (length-listed f n ∙ sym many) (λ k l.
    let inside : k < n = omega (arith, l, length-listed f n) in
    sym (unwrap_or-slice_get (listed f n) k d) ∙ ap (λ o. unwrap_or o d) (listed_at f n k inside ∙ sym (stored k inside)) ∙ unwrap_or-slice_get xs k d)

-- the first ones are fewer that are listed
pub take_listed : {X : Type 0} (f : ℕ → X) (m n : ℕ) → m ≤ n → take m (listed f n) ≡ listed f m
unfolding listed
take_listed f m zero le = let none : m ≡ 0 = omega (arith, le) in subst (λ k. take k (listed f zero) ≡ listed f k) (sym none) refl
take_listed f m (suc n) le = elim (cases_lt m (suc n)) [
  | inl lt ↦ take-append-le m (listed f n) (f n ∷ []) (omega (arith, lt, length-listed f n)) ∙ take_listed f m n (omega (arith, lt))
  | inr ge ↦
      let same : m ≡ suc n = omega (arith, le, ge) in
      subst (λ k. take k (listed f (suc n)) ≡ listed f k) (sym same) (take_all (suc n) (listed f (suc n)) (omega (arith, length-listed f (suc n))))
]
