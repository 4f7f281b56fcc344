-- Bytes that are compared eight at a time, as one number.
use Rattle.std.proofs.Common.{◌≡◌, ℕ, ◌+◌, ◌<◌, ◌≤◌, ◌++◌, inl, inr, List, length, get_or, take, drop, refl, sym, ap, subst, ◌∙◌, arith}
use Rattle.std.proofs.Math.Seq.{take-add}
use Rattle.std.proofs.lemmas.Bool.{cases_lt}
use Rattle.std.proofs.lemmas.List.{get_or-drop, get_or_past, get_or-take, length-drop, length-take, length-take-le}
use Rattle.std.proofs.lemmas.Nat.{be_bytes_8}
use Rattle.std.specs.Int.{w64, from_be_bytes}

-- eight bytes from a place on are bytes
word_fits : (bs : List ℕ) (i : ℕ) → ((k : ℕ) → get_or bs k 0 < 256) → (k : ℕ) → get_or (take 8 (drop i bs)) k 0 < 256
word_fits bs i fits k = elim (cases_lt k 8) [
  | inl lt ↦ subst (λ b. b < 256) (sym (get_or-take 8 (drop i bs) k 0 lt ∙ get_or-drop i bs k 0)) (fits (i + k))
  | inr past ↦ (let none = get_or_past (take 8 (drop i bs)) k 0 (let most = length-take 8 (drop i bs) in omega (arith, past, most)) in omega (arith, none))
]

-- bytes that agree so far, and in one word more, agree in eight bytes more
pub one_more_word : (xs ys : List ℕ) (i : ℕ) → ((k : ℕ) → get_or xs k 0 < 256) → ((k : ℕ) → get_or ys k 0 < 256) → i + 8 ≤ length xs → i + 8 ≤ length ys
    → take i xs ≡ take i ys → from_be_bytes w64 (take 8 (drop i xs)) ≡ from_be_bytes w64 (take 8 (drop i ys)) → take (i + 8) xs ≡ take (i + 8) ys
one_more_word xs ys i f g l m same word =
    let long : length (take 8 (drop i xs)) ≡ 8 = length-take-le 8 (drop i xs) (omega (arith, length-drop i xs, l)) in
    let also : length (take 8 (drop i ys)) ≡ 8 = length-take-le 8 (drop i ys) (omega (arith, length-drop i ys, m)) in
    let one = be_bytes_8 (take 8 (drop i xs)) (from_be_bytes w64 (take 8 (drop i xs))) long (word_fits xs i f) refl in
    let other = be_bytes_8 (take 8 (drop i ys)) (from_be_bytes w64 (take 8 (drop i xs))) also (word_fits ys i g) word in
    take-add i 8 xs ∙ ap (λ zs. take i xs ++ zs) (sym one ∙ other) ∙ ap (λ zs. zs ++ take 8 (drop i ys)) same ∙ sym (take-add i 8 ys)
