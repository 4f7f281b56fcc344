-- What the parts of a line are.
use Rattle.std.proofs.Common.{◌≡◌, ℕ, ◌+◌, ◌-◌, ◌^◌, ◌<◌, ◌≤◌, Bool, true, false, inl, inr, get_or, List, [], ◌∷◌, length, take, drop, refl, sym, ap, ◌∙◌, None, Some, arith, Result, Ok, Err, ◌==◌, ◌&&◌, nat_lt, if◌then◌else◌, not, length-drop, get_or-drop, option_map}
use Rattle.std.specs.Str.{all_ascii_digits}
use Rattle.std.specs.Str.Parse.{digits_value, ParsesUnsigned}
use Rattle.std.specs.Result.{OkIff, result_ok}
use Rattle.std.proofs.lemmas.Str.Parse.{IsNumeralModel, numerals_by_value, tells_all_ascii_digits, parse_digits}
use Rattle.std.proofs.lemmas.Bool.Decides.{nat_tests}
use Rattle.std.specs.Char.{is_ascii_digit}
use Rattle.std.specs.List.{list_all, suffix_len, before_last, after_last}
use Rattle.std.specs.Str.{NoCharPasses, is_utf8, IsUtf8}
use Rattle.std.specs.Str.Pattern.{RFindsChar}
use Rattle.std.proofs.lemmas.Str.Pattern.{NoCharPasses-char}
use Rattle.std.proofs.lemmas.Bool.Decides.{eqb_tells}
use Rattle.std.proofs.lemmas.List.Sums.{suffix_len_is}
use Rattle.std.proofs.lemmas.List.Elements.{All-from_get_or}
use Rattle.std.proofs.lemmas.Str.{is_utf8-from_IsUtf8, IsUtf8-from_is_utf8}
use Rattle.std.proofs.lemmas.List.Folds.{list_any_at, list_any_none}
use Rattle.trie_tool.specs.Request.{number_of, is_space, has_space, insert_of, worded_request, request_of, Insert}

digits_model : IsNumeralModel (λ ds. all_ascii_digits ds ≡ true) (digits_value 10)
digits_model = numerals_by_value _ tells_all_ascii_digits

none-no_digits : (a b : Bool) (v : ℕ) → None ≡ (if a && false && b then Some v else None)
none-no_digits a b v = elim a as (λ x. None ≡ (if x && false && b then Some v else None)) [ true ↦ refl | false ↦ refl ]

-- no byte from j on is a space
is_space-dropped : (s : List ℕ) (j k : ℕ) → NoCharPasses (λ d. d == 32) (drop j s) → j ≤ k → k < length s → is_space (get_or s k 0) ≡ false
is_space-dropped s j k none low high =
    let away = NoCharPasses-char 32 (drop j s) (k - j) none (omega arith) (omega (arith, length-drop j s)) in
    let there : get_or (drop j s) (k - j) 0 ≡ get_or s k 0 = get_or-drop j s (k - j) 0 ∙ ap (λ (n : ℕ). get_or s n 0) (let e : j + (k - j) ≡ k = omega arith in e) in
    elim (eqb_tells (get_or s k 0) 32) [ inl same ↦ absurd (away (there ∙ same.1)) | inr differs ↦ differs.0 ]

result_ok-digits : {E : Type 0} (r : Result ℕ E) (bs : List ℕ) (v : ℕ) → OkIff r ((0 < length bs) × (v < 2 ^ 64)) v
    → result_ok r ≡ (if nat_lt 0 (length bs) && true && nat_lt v (2 ^ 64) then Some v else None)
result_ok-digits (Ok x) bs v h = grind (arith, nat_tests)
result_ok-digits (Err e) bs v h = grind (arith, nat_tests)

-- what parses digits reads the number that they spell
pub number_of-parsed : {E : Type 0} (r : Result ℕ E) (bs : List ℕ) → ParsesUnsigned 64 10 bs r → all_ascii_digits bs ≡ true → result_ok r ≡ number_of bs
number_of-parsed r bs parsed digits =
    result_ok-digits r bs (digits_value 10 bs) (parse_digits digits_model 64 bs r parsed digits)
    ∙ ap (λ (d : Bool). if nat_lt 0 (length bs) && d && nat_lt (digits_value 10 bs) (2 ^ 64) then Some (digits_value 10 bs) else None) (sym digits)

-- the test of each byte is the test of all
pub list_all-digits : (bs : List ℕ) → list_all is_ascii_digit bs ≡ all_ascii_digits bs
list_all-digits [] = refl
list_all-digits (c ∷ cs) = ap (λ (b : Bool). is_ascii_digit c && b) (list_all-digits cs)

-- a text that is not all digits is no number
pub number_of-none : (bs : List ℕ) → all_ascii_digits bs ≡ false → None ≡ number_of bs
number_of-none bs bad =
    none-no_digits (nat_lt 0 (length bs)) (nat_lt (digits_value 10 bs) (2 ^ 64)) (digits_value 10 bs)
    ∙ ap (λ (d : Bool). if nat_lt 0 (length bs) && d && nat_lt (digits_value 10 bs) (2 ^ 64) then Some (digits_value 10 bs) else None) (sym bad)

-- a key and a number around the last space
last_space-parts : (s front back : List ℕ) (i j : ℕ) → RFindsChar 32 s (Some (i, j)) → front ≡ take i s → back ≡ drop j s → length back + j ≡ length s
    → (has_space s ≡ true) × (before_last is_space s ≡ front) × (after_last is_space s ≡ back)
last_space-parts s front back i j found f b fits =
    let next : j ≡ i + 1 = found.1.ends in
    let here : get_or s i 0 ≡ 32 = found.1.byte (omega arith) in
    let within : i < length s = omega arith in
    let here-is : is_space (get_or s i 0) ≡ true = ap is_space here in
    let tail : suffix_len (λ x. not (is_space x)) s ≡ length s - j =
    suffix_len_is (λ x. not (is_space x)) s j 0 (omega arith)
    (λ k low high. ap not (is_space-dropped s j k found.0 low high))
    (λ some. ap (λ (n : ℕ). not (is_space (get_or s n 0))) (let e : j - 1 ≡ i = omega arith in e) ∙ ap not here-is) in (
      list_any_at is_space s i 0 within here-is,
      ap (λ (n : ℕ). take (length s - n - 1) s) tail ∙ ap (λ (n : ℕ). take n s) (let e : length s - (length s - j) - 1 ≡ i = omega arith in e) ∙ sym f,
      ap (λ (n : ℕ). drop (length s - n) s) tail ∙ ap (λ (n : ℕ). drop n s) (let e : length s - (length s - j) ≡ j = omega arith in e) ∙ sym b,
    )

has_space-none : (s : List ℕ) → NoCharPasses (λ d. d == 32) s → has_space s ≡ false
has_space-none s none = list_any_none is_space s (All-from_get_or (λ x. is_space x ≡ false) s 0 (λ i within. has_space-at i within))
  where
    has_space-at : (i : ℕ) → i < length s → is_space (get_or s i 0) ≡ false
    has_space-at i within = elim (eqb_tells (get_or s i 0) 32) [ inl same ↦ absurd (NoCharPasses-char 32 s i none (omega arith) within same.1) | inr differs ↦ differs.0 ]

-- a text with no space is no insertion
pub insert_of-none : (s : List ℕ) → NoCharPasses (λ d. d == 32) s → None ≡ insert_of s
insert_of-none s none = sym (ap (λ (h : Bool). if h then option_map (λ n. Insert (before_last is_space s) n) (number_of (after_last is_space s)) else None) (has_space-none s none))

-- an insertion is the key and the number around the last space
pub insert_of-parts : (s front back : List ℕ) (i j : ℕ) → RFindsChar 32 s (Some (i, j)) → front ≡ take i s → back ≡ drop j s → length back + j ≡ length s
    → option_map (λ n. Insert front n) (number_of back) ≡ insert_of s
insert_of-parts s front back i j found f b fits =
    let parts = last_space-parts s front back i j found f b fits in
    sym (ap (λ (h : Bool). if h then option_map (λ n. Insert (before_last is_space s) n) (number_of (after_last is_space s)) else None) parts.0
    ∙ ap (λ (l : List ℕ). option_map (λ n. Insert l n) (number_of (after_last is_space s))) parts.1
    ∙ ap (λ (l : List ℕ). option_map (λ n. Insert front n) (number_of l)) parts.2)

-- a line that is a text asks for what its words say
pub request_of-text : (s : List ℕ) → IsUtf8 s → worded_request s ≡ request_of s
unfolding request_of
request_of-text s text = sym (ap (λ (t : Bool). if t then worded_request s else None) (is_utf8-from_IsUtf8 s text))

-- a line that is no text asks for nothing
pub request_of-none : (s : List ℕ) → ¬ (IsUtf8 s) → None ≡ request_of s
unfolding request_of
request_of-none s wrong =
    elim (is_utf8 s) as (λ v. is_utf8 s ≡ v → None ≡ (if v then worded_request s else None)) [
      | true ↦ λ yes. absurd (wrong (IsUtf8-from_is_utf8 s yes))
      | false ↦ λ _. refl
    ] refl
