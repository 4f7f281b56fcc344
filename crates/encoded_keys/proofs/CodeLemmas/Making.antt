-- Levels in the making.
use Rattle.std.proofs.Common.{◌≡◌, ℕ, ◌+◌, ◌-◌, ◌*◌, ◌/◌, ◌^◌, ◌<◌, ◌≤◌, inl, inr, List, [], ◌∷◌, ◌++◌, Some, length, take, drop, get_or, set, refl, sym, ap, subst, ◌∙◌, arith}
use Rattle.std.proofs.Math.Nat.{lt-mul-div-succ, mul-div-le}
use Rattle.std.proofs.lemmas.Bool.{cases_lt}
use Rattle.std.proofs.lemmas.List.{get_or-set_other, get_or-set_same, get_or_append_left, get_or_past, length-append}
use Rattle.std.proofs.lemmas.Option.{get_or_from_slice_get, slice_get-get_or, slice_get_within}
use Rattle.std.proofs.Math.Seq.{get_or-append_seam, take-append_seam}
use Rattle.std.specs.List.{slice_get}
use Rattle.radix_keys.proofs.KeyLemmas.Order.{three_ways}
use Rattle.encoded_keys.specs.Blocks.{AreHeads, AreOfNibbles, AreSkips, IsLevel, IsLevelOf, IsSkip}
use Rattle.encoded_keys.specs.Codes.{code_at}
use Rattle.encoded_keys.specs.Heads.{head_behind}
use Rattle.encoded_keys.specs.Packed.{AreHeaded}
use Rattle.encoded_keys.specs.declared.keys.blocks.Level.{Level}

-- one head more
pub heads_more : (cs : List (List ℕ)) (S m : ℕ) (hs ks : List ℕ) (n h : ℕ) → AreHeads cs S m hs ks n → n < length hs
    → h ≡ head_behind (2 * (m + get_or ks (n / 16) 0)) (code_at cs (S * (n + 1) - 1)) → AreHeads cs S m (set hs n h) ks (n + 1)
heads_more cs S m hs ks n h kept l e = λ i k. elim (three_ways i n) [
  | inl lt ↦ get_or-set_other hs n i h 0 (λ s. omega (arith, s, lt)) ∙ kept i lt
  | inr (inl s) ↦ subst (λ j. get_or (set hs n h) j 0 ≡ head_behind (2 * (m + get_or ks (j / 16) 0)) (code_at cs (S * (j + 1) - 1))) (sym s) (get_or-set_same hs n h 0 l ∙ e)
  | inr (inr g) ↦ absurd (omega (arith, k, g))
]

-- what holds of each number holds with one more behind them
pub each_more : (P : ℕ → ℕ → Type 0) (xs : List ℕ) (n x : ℕ) → length xs ≡ n → ((k : ℕ) → k < n → P k (get_or xs k 0)) → P n x
    → (k : ℕ) → k < n + 1 → P k (get_or (xs ++ x ∷ []) k 0)
each_more P xs n x many kept more = λ k m. elim (three_ways k n) [
  | inl lt ↦ subst (P k) (sym (get_or_append_left xs (x ∷ []) 0 k (omega (arith, lt, many)))) (kept k lt)
  | inr (inl s) ↦
      let at : length xs ≡ k = omega (arith, many, s) in
      subst (P k) (sym (ap (λ j. get_or (xs ++ x ∷ []) j 0) (sym at) ∙ get_or-append_seam xs x [] 0)) (subst (λ j. P j x) (sym s) more)
  | inr (inr g) ↦ absurd (omega (arith, m, g))
]

-- nothing is skipped where nothing is said
pub no_skip : (cs : List (List ℕ)) (a b s : ℕ) → s ≡ 0 → IsSkip cs a b s
no_skip cs a b s e = subst (IsSkip cs a b) (sym e) (record { long = omega arith; same = refl; edge = λ _. refl })

-- so what the first blocks skip is all that is skipped
pub all_skips : (cs : List (List ℕ)) (S : ℕ) (ks : List ℕ) (n : ℕ) → length ks ≡ n
    → ((k : ℕ) → k < n → IsSkip cs (S * (16 * k)) (S * (16 * k + 16)) (get_or ks k 0)) → AreSkips cs S ks
all_skips cs S ks n many kept = λ k. elim (cases_lt k n) [
  | inl lt ↦ kept k lt
  | inr ge ↦ no_skip cs _ _ _ (get_or_past ks k 0 (omega (arith, many, ge)))
]

-- as many heads as there are whole parts of S lists
pub level_of_parts : (cs : List (List ℕ)) (S : ℕ) (hs ks : List ℕ) → AreOfNibbles cs → 0 < S → S ≤ length cs + 1 → length hs ≡ length cs / S
    → AreHeads cs S 0 hs ks (length hs) → AreSkips cs S ks → IsLevel cs S hs ks
level_of_parts cs S hs ks nibbles apart few many heads skips = record {
  nibbles = nibbles;
  apart = apart;
  few = few;
  many = (let le = mul-div-le (length cs) S in omega (arith, ap (λ n. S * n) many, le));
  rest = (let lt = lt-mul-div-succ (length cs) apart in omega (arith, ap (λ n. S * (n + 1)) many, lt));
  heads = heads;
  skips = skips;
}

-- each of some levels is one
abbrev pub AreEachLevels : List (List ℕ) → List Level → Type 0
AreEachLevels cs ls = (t : ℕ) (l : Level) → slice_get ls t ≡ Some l → (l.step ≡ 16 ^ (t + 1)) × IsLevelOf cs l

-- one level more
pub levels_more : (cs : List (List ℕ)) (ls : List Level) (l : Level) → AreEachLevels cs ls → l.step ≡ 16 ^ (length ls + 1) → IsLevelOf cs l
    → AreEachLevels cs (ls ++ l ∷ [])
levels_more cs ls l kept step is = λ t m at.
    let inside = slice_get_within (ls ++ l ∷ []) t m at in
    let all = ls ++ l ∷ [] in
    elim (three_ways t (length ls)) [
      | inl lt ↦ kept t m (slice_get-get_or ls t l lt ∙ ap Some (sym (get_or_append_left ls (l ∷ []) l t lt) ∙ get_or_from_slice_get all t m l at))
      | inr (inl e) ↦
          let same : l ≡ m = sym (ap (λ i. get_or all i l) e ∙ get_or-append_seam ls l [] l) ∙ get_or_from_slice_get all t m l at in
          subst (λ x. (x.step ≡ 16 ^ (t + 1)) × IsLevelOf cs x) same (step ∙ ap (λ n. 16 ^ (n + 1)) (sym e), is)
      | inr (inr g) ↦ absurd (omega (arith, inside, g, length-append ls (l ∷ [])))
    ]

-- what is written over all of a vector is all that it holds then
pub all_written : (n : ℕ) (xs ys : List ℕ) → n ≡ length xs → take n (xs ++ drop (length xs) ys) ≡ xs
all_written n xs ys e = ap (λ k. take k (xs ++ drop (length xs) ys)) e ∙ take-append_seam xs (drop (length xs) ys)

-- a head for each list is a level
pub level_of_all : (cs : List (List ℕ)) (hs ks : List ℕ) → AreOfNibbles cs → length hs ≡ length cs → AreHeads cs 1 0 hs ks (length hs) → AreSkips cs 1 ks → IsLevel cs 1 hs ks
level_of_all cs hs ks nibbles many heads skips =
    let one : length cs ≡ length cs / 1 = omega arith in
    level_of_parts cs 1 hs ks nibbles (omega arith) (omega arith) (many ∙ one) heads skips

-- one list more and its head, where nothing is skipped
pub level_more : (cs : List (List ℕ)) (hs : List ℕ) (c : List ℕ) (h : ℕ) → IsLevel cs 1 hs [] → h ≡ head_behind 0 c → ((k : ℕ) → get_or c k 0 < 16)
    → IsLevel (cs ++ c ∷ []) 1 (hs ++ h ∷ []) []
level_more cs hs c h kept e low =
    let many : length hs ≡ length cs = omega (arith, kept.many, kept.rest) in
    level_of_all (cs ++ c ∷ []) (hs ++ h ∷ []) []
    (λ i k. elim (three_ways i (length cs)) [
      | inl lt ↦ subst (λ l. get_or l k 0 < 16) (sym (get_or_append_left cs (c ∷ []) [] i lt)) (kept.nibbles i k)
      | inr (inl s) ↦ subst (λ l. get_or l k 0 < 16) (sym (ap (code_at (cs ++ c ∷ [])) s ∙ get_or-append_seam cs c [] [])) (low k)
      | inr (inr g) ↦ subst (λ l. get_or l k 0 < 16) (sym (get_or_past (cs ++ c ∷ []) i [] (omega (arith, g, length-append cs (c ∷ []))))) (omega arith)
    ])
    (omega (arith, many, length-append cs (c ∷ []), length-append hs (h ∷ [])))
    (λ i l.
    let back : 1 * (i + 1) - 1 ≡ i = omega arith in
    let forth : i ≡ 1 * (i + 1) - 1 = omega arith in
    elim (three_ways i (length hs)) [
      | inl lt ↦ get_or_append_left hs (h ∷ []) 0 i lt ∙ kept.heads i lt
          ∙ ap (head_behind 0) (ap (code_at cs) back ∙ sym (get_or_append_left cs (c ∷ []) [] i (omega (arith, lt, many))) ∙ ap (code_at (cs ++ c ∷ [])) forth)
      | inr (inl s) ↦
          let at : i ≡ length cs = omega (arith, s, many) in
          ap (λ j. get_or (hs ++ h ∷ []) j 0) s ∙ get_or-append_seam hs h [] 0 ∙ e
          ∙ ap (head_behind 0) (sym (get_or-append_seam cs c [] []) ∙ ap (code_at (cs ++ c ∷ [])) (sym at ∙ forth))
      | inr (inr g) ↦ absurd (omega (arith, l, g, length-append hs (h ∷ [])))
    ])
    (λ k. no_skip (cs ++ c ∷ []) _ _ _ refl)

-- plain heads are heads
pub plain_headed : (cs : List (List ℕ)) (hs ks : List ℕ) (ls : List Level) → ks ≡ [] → ls ≡ [] → IsLevel cs 1 hs [] → AreHeaded cs hs ks ls
plain_headed cs hs ks ls skips levels kept = record {
  level = subst (IsLevel cs 1 hs) (sym skips) kept;
  plain = λ _. skips;
  levels = λ some. absurd (let none = ap length levels in omega (arith, none, some));
}
