-- Slots of lists, which are found by their hashes.
use Rattle.std.proofs.Common.{◌≡◌, ℕ, ◌+◌, ◌-◌, ◌/◌, ◌<◌, ◌≤◌, inl, inr, Bool, true, List, ◌++◌, length, drop, take, nat_eq, get_or, set, refl, sym, ap, subst, ◌∙◌, arith}
use Rattle.std.proofs.lemmas.Bool.{cases_eq, le-ltb, lt-ltb}
use Rattle.std.proofs.lemmas.List.{get_or-set_other, get_or-set_same, take-append-le, take_all}
use Rattle.std.proofs.lemmas.Slice.Eq.{bytes_eq-Decides}
use Rattle.std.specs.Cmp.Lexicographic.{pointwise}
use Rattle.radix_keys.proofs.KeyLemmas.Order.{three_ways}
use Rattle.encoded_keys.specs.Codes.{code_at}
use Rattle.encoded_keys.specs.Index.{AreSlotted, IsFirstFree, IsEntered, IsSlotted, entry_of, first_slot, hash_of_bytes, hash_of_list, hash_of_words, mixed_with, number_in, word_in}

-- the hash of fewer than eight bytes
pub hash_of_few : (bytes : List ℕ) → length bytes < 8 → mixed_with (length bytes) (number_in bytes (length bytes)) ≡ hash_of_bytes bytes
unfolding hash_of_bytes
hash_of_few bytes l = rw (lt-ltb (length bytes) 8 l) refl

-- the hash of eight or more
pub hash_of_many : (bytes : List ℕ) → 8 ≤ length bytes
    → mixed_with (hash_of_words bytes ((length bytes - 1) / 8)) (word_in bytes (length bytes - 8)) ≡ hash_of_bytes bytes
unfolding hash_of_bytes
hash_of_many bytes l = rw (le-ltb (length bytes) 8 l) refl

-- the test of two lists tells whether they are one
pub decides_lists : (xs ys : List ℕ) (r : Bool) → r ≡ pointwise nat_eq xs ys → (r ≡ true → xs ≡ ys) × (xs ≡ ys → r ≡ true)
decides_lists xs ys r e = (λ t. (bytes_eq-Decides xs ys).0 (sym e ∙ t), λ s. e ∙ (bytes_eq-Decides xs ys).1 s)

-- a list as long as another, in the place of that one's elements
pub in_place : (xs ys : List ℕ) (n : ℕ) → n ≡ length ys → length xs ≡ length ys → take n (xs ++ drop (length xs) ys) ≡ xs
in_place xs ys n e same = take-append-le n xs (drop (length xs) ys) (omega (arith, e, same)) ∙ take_all n xs (omega (arith, e, same))

module _ (slots : List ℕ) (p v : ℕ) (inside : p < length slots) (some : 0 < v) (free : get_or slots p 0 ≡ 0) where
  -- a slot that is free once another one is filled was free before, and isn't that one
  still_free : (s : ℕ) → get_or (set slots p v) s 0 ≡ 0 → (get_or slots s 0 ≡ 0) × (s ≡ p → ⊥)
  still_free s e = elim (cases_eq s p) [
    | inl same ↦ absurd (let here = get_or-set_same slots p v 0 inside in let at = ap (λ i. get_or (set slots p v) i 0) same in omega (arith, e, here, at, some))
    | inr other ↦ (sym (get_or-set_other slots p s v 0 other) ∙ e, other)
  ]

  -- an entry stays where a free slot is filled
  still_entered : (from to entry : ℕ) → 0 < entry → IsEntered slots from to entry → IsEntered (set slots p v) from to entry
  still_entered from to entry more h = record {
    at = h.at;
    start = h.start;
    before = h.before;
    held = get_or-set_other slots p h.at v 0 (λ e. (let same = ap (λ i. get_or slots i 0) e in let held = h.held in omega (arith, same, held, free, more))) ∙ h.held;
  }

  -- so does what is slotted
  pub still_slotted : (from entry : ℕ) → 0 < entry → IsSlotted slots from entry → IsSlotted (set slots p v) from entry
  still_slotted from entry more h = λ s l m e. still_entered from s entry more (h s l m (still_free s e).0)

  -- and what fills the first free slot is slotted
  pub now_slotted : (from : ℕ) → IsFirstFree slots from p → IsSlotted (set slots p v) from v
  now_slotted from f = λ s l m e. record {
    at = p;
    start = f.start;
    before = elim (three_ways s p) [
      | inl lt ↦ absurd (f.first s l lt (still_free s e).0)
      | inr (inl same) ↦ absurd ((still_free s e).1 same)
      | inr (inr gt) ↦ gt
    ];
    held = get_or-set_same slots p v 0 inside;
  }

module _ (cs : List (List ℕ)) (slots : List ℕ) (tags : ℕ) where
  -- one list more is slotted
  pub one_more : (n : ℕ) → AreSlotted cs n slots tags
      → IsSlotted slots (first_slot (length slots - 64) (hash_of_list (code_at cs n))) (entry_of tags (hash_of_list (code_at cs n)) n)
      → AreSlotted cs (n + 1) slots tags
  one_more n h new = λ k l. elim (three_ways k n) [
    | inl lt ↦ h k lt
    | inr (inl e) ↦ subst (λ i. IsSlotted slots (first_slot (length slots - 64) (hash_of_list (code_at cs i))) (entry_of tags (hash_of_list (code_at cs i)) i)) (sym e) new
    | inr (inr g) ↦ absurd (omega (arith, l, g))
  ]

  -- those that are slotted stay so among slots in which each entry does
  pub all_still_slotted : (n : ℕ) (more : List ℕ) → length more ≡ length slots
      → ((from entry : ℕ) → 0 < entry → IsSlotted slots from entry → IsSlotted more from entry) → AreSlotted cs n slots tags → AreSlotted cs n more tags
  all_still_slotted n more same kept h = λ k l.
      let hash = hash_of_list (code_at cs k) in
      subst (λ m. IsSlotted more (first_slot (m - 64) hash) (entry_of tags hash k)) (sym same)
      (kept (first_slot (length slots - 64) hash) (entry_of tags hash k) (omega arith) (h k l))

-- a list whose hash leads to a free slot before its entry isn't there
pub none_behind_free : (cs : List (List ℕ)) (slots : List ℕ) (tags : ℕ) → AreSlotted cs (length cs) slots tags → (q : List ℕ) (first tag at : ℕ)
    → first ≡ first_slot (length slots - 64) (hash_of_list q) → (k : ℕ) → k < length cs → code_at cs k ≡ q → entry_of tags (hash_of_list q) k ≡ tag + (k + 1)
    → first ≤ at → at < first + 64 → get_or slots at 0 ≡ 0
    → ((s : ℕ) → first ≤ s → s < at → get_or slots s 0 ≡ tag + (k + 1) → ⊥) → ⊥
none_behind_free cs slots tags slotted q first tag at f k inside same entry l m free others =
    let here : IsSlotted slots first (tag + (k + 1)) =
    subst (λ e. IsSlotted slots first e) entry
    (subst (λ s. IsSlotted slots s (entry_of tags (hash_of_list q) k)) (sym f)
    (subst (λ c. IsSlotted slots (first_slot (length slots - 64) (hash_of_list c)) (entry_of tags (hash_of_list c) k)) same (slotted k inside))) in
    let held = here at l m free in
    others held.at held.start held.before held.held
