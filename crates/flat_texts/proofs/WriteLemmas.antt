-- Pairs that are to be written.
use Rattle.std.proofs.Common.{◌≡◌, ℕ, zero, suc, ◌+◌, ◌-◌, ◌<◌, ◌≤◌, List, [], ◌∷◌, length, map as each, get_or, take, refl, ap, subst, sym, ◌∙◌, arith}
use Rattle.std.proofs.lemmas.List.{get_or-map, get_or-take, length-map, length-take-le, take_more}
use Rattle.std.proofs.lemmas.List.Sums.{sum_by-append, sum_by-cons}
use Rattle.nibble_map.specs.Lists.{IsBefore, IsRising}
use Rattle.nibble_map.specs.Nibbles.{nibbles}
use Rattle.encoded_keys.specs.Codes.{code_at}
use Rattle.frozen_trie.specs.Frozen.{codes_of}
use Rattle.encoded_keys.proofs.CodeLemmas.Parts.{rising_at}
use Rattle.encoded_keys.proofs.CodeLemmas.Appended.{rising_more}
use Rattle.flat_texts.specs.TextWritten.{keys_len}
use Rattle.flat_texts.specs.TextImages.{given_pair}
use Rattle.flat_texts.specs.declared.pair.Pair.{Pair}

-- the bytes of the first keys and of one more are at most those of all
pub keys_more : (ps : List Pair) (i : ℕ) (d : Pair) → i < length ps → keys_len (take i ps) + length ((get_or ps i d).key.now) ≤ keys_len ps
keys_more [] i d l = absurd (omega (arith, l))
keys_more (p ∷ ps) zero d l = let none : keys_len [] ≡ 0 = refl in omega (arith, sum_by-cons (λ (p : Pair). length (p.key.now)) p ps, none)
keys_more (p ∷ ps) (suc i) d l =
    let rest = keys_more ps i d (omega (arith, l)) in
    omega (arith, rest, sum_by-cons (λ (p : Pair). length (p.key.now)) p ps, sum_by-cons (λ (p : Pair). length (p.key.now)) p (take i ps))

-- the bytes of the first keys and of the next one
pub keys_next : (ps : List Pair) (i : ℕ) (d : Pair) → i < length ps → keys_len (take (i + 1) ps) ≡ keys_len (take i ps) + length ((get_or ps i d).key.now)
keys_next ps i d l =
    ap keys_len (take_more ps i d l) ∙ sum_by-append (λ (p : Pair). length (p.key.now)) (take i ps) (get_or ps i d ∷ [])
    ∙ ap (λ n. keys_len (take i ps) + n) (let none : keys_len [] ≡ 0 = refl in omega (arith, sum_by-cons (λ (p : Pair). length (p.key.now)) (get_or ps i d) [], none))

-- the nibbles of the key at an index
pub code_of : (ps : List Pair) (i : ℕ) (d : Pair) → i < length ps → code_at (codes_of nibbles (each given_pair ps)) i ≡ nibbles ((get_or ps i d).key.now)
code_of ps i d l =
    get_or-map (λ (p : List ℕ × ℕ). nibbles p.0) (each given_pair ps) i (given_pair d) [] (omega (arith, l, length-map ps given_pair))
    ∙ ap (λ (p : List ℕ × ℕ). nibbles p.0) (get_or-map given_pair ps i d (given_pair d) l)

-- as many as pairs
pub length-pair_codes : (ps : List Pair) → length (codes_of nibbles (each given_pair ps)) ≡ length ps
length-pair_codes ps = omega (arith, length-map (each given_pair ps) (λ (p : List ℕ × ℕ). nibbles p.0), length-map ps given_pair)

-- one list rises
pub one_rises : (cs : List (List ℕ)) → IsRising (take 1 cs)
one_rises [] = tt
one_rises (c ∷ cs) = (tt, tt)

-- rising lists rise with one more that comes after the last of them
pub next_rises : (cs : List (List ℕ)) (i : ℕ) → 0 < i → i < length cs → IsRising (take i cs) → IsBefore (code_at cs (i - 1)) (code_at cs i) → IsRising (take (i + 1) cs)
next_rises cs i some l rises before =
    let all : length (take i cs) ≡ i = length-take-le i cs (omega (arith, l)) in
    let last : code_at (take i cs) (length (take i cs) - 1) ≡ code_at cs (i - 1) =
    ap (λ n. code_at (take i cs) (n - 1)) all ∙ get_or-take i cs (i - 1) [] (omega (arith, some)) in
    subst IsRising (sym (take_more cs i [] l))
    (rising_more (take i cs) (code_at cs i) (omega (arith, all, some)) rises (subst (λ c. IsBefore c (code_at cs i)) (sym last) before))

-- and of those that do the last comes after the one before it
pub next_before : (cs : List (List ℕ)) (i : ℕ) → 0 < i → i < length cs → IsRising (take (i + 1) cs) → IsBefore (code_at cs (i - 1)) (code_at cs i)
next_before cs i some l rises =
    let all : length (take (i + 1) cs) ≡ i + 1 = length-take-le (i + 1) cs (omega (arith, l)) in
    let first : code_at (take (i + 1) cs) (i - 1) ≡ code_at cs (i - 1) = get_or-take (i + 1) cs (i - 1) [] (omega arith) in
    let last : code_at (take (i + 1) cs) i ≡ code_at cs i = get_or-take (i + 1) cs i [] (omega arith) in
    subst (IsBefore (code_at cs (i - 1))) last (subst (λ c. IsBefore c (code_at (take (i + 1) cs) i)) first
    (rising_at (take (i + 1) cs) rises (i - 1) i (omega (arith, some)) (omega (arith, all))))
