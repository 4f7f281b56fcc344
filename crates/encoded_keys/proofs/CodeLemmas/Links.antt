-- The links from each code to the last earlier one that is a prefix of it.
use Rattle.std.proofs.Common.{◌≡◌, ◌≢◌, ℕ, ◌+◌, ◌-◌, ◌<◌, ◌≤◌, ◌⊎◌, inl, inr, Bool, true, false, not, refl, List, length, take, sym, ap, subst, ◌∙◌, arith, get_or}
use Rattle.std.proofs.lemmas.List.{take_all, take-append-le, take-take, get_or_append_left}
use Rattle.radix_keys.proofs.KeyLemmas.Order.{three_ways}
use Rattle.nibble_map.specs.Lists.{IsBefore, IsPrefix, IsRising}
use Rattle.nibble_map.proofs.ListLemmas.Parted.{prefix_itself, prefix_length}
use Rattle.nibble_map.proofs.ListLemmas.Unique.{before_not_itself}
use Rattle.nibble_map.proofs.TreeLemmas.SomePrefixes.{before_through}
use Rattle.encoded_keys.specs.Codes.{IsLastPrefix, IsCut, is_before, code_at}
use Rattle.encoded_keys.proofs.CodeLemmas.Order.{which_before, between_begins, taken_begins, prefix_before, before_passes, before_by_test}
use Rattle.encoded_keys.proofs.CodeLemmas.Parts.{rising_at}
use Rattle.sorted_tables.proofs.TableLemmas.Links.{last_of_more}

-- a prefix is the first part of its length
pub prefix_is_taken : (p x : List ℕ) → IsPrefix p x → take (length p) x ≡ p
prefix_is_taken p x (r, e) = ap (take (length p)) e ∙ take-append-le (length p) p r (omega arith) ∙ take_all (length p) p (omega arith)

-- a prefix of x that is no longer than what x and q share is a prefix of q
pub shared_prefix : (p x q : List ℕ) (n : ℕ) → IsPrefix p x → take n x ≡ take n q → length p ≤ n → IsPrefix p q
shared_prefix p x q n h same le =
    let e : take (length p) q ≡ p = sym (take-take (length p) n q le) ∙ ap (take (length p)) (sym same) ∙ take-take (length p) n x le ∙ prefix_is_taken p x h in
    subst (λ l. IsPrefix l q) e (taken_begins (length p) q)

-- a prefix of x and of q is no longer than what x and q share
pub unshared : (p x q : List ℕ) (n : ℕ) → IsPrefix p x → IsPrefix p q → n < length p
    → (n < length x → n < length q → get_or x n 0 ≢ get_or q n 0) → ⊥
unshared p x q n h k l apart =
    let a = prefix_length p x h in
    let b = prefix_length p q k in
    apart (omega (arith, l, a)) (omega (arith, l, b))
    (ap (λ z. get_or z n 0) h.1 ∙ get_or_append_left p h.0 0 n l ∙ sym (ap (λ z. get_or z n 0) k.1 ∙ get_or_append_left p k.0 0 n l))

-- a code that begins q begins each later one that comes before q
pub begins_later : (cs : List (List ℕ)) (q : List ℕ) (j k : ℕ) → IsRising cs → k < j → j < length cs → IsBefore (code_at cs j) q
    → IsPrefix (code_at cs k) q → IsPrefix (code_at cs k) (code_at cs j)
begins_later cs q j k rises l m b p = between_begins (code_at cs k) (code_at cs j) q p (rising_at cs rises k j l m) b

-- the cut before q: a code that is q stands right at it
pub equal_stands_at : (cs : List (List ℕ)) (q : List ℕ) (n : ℕ) → IsRising cs → IsCut (λ c. is_before c q) cs n
    → (k : ℕ) → k < length cs → code_at cs k ≡ q → k ≡ n
equal_stands_at cs q n rises cut k l e = elim (three_ways k n) [
  | inl lt ↦ absurd (before_not_itself q (subst (λ x. IsBefore x q) e (before_by_test _ q (cut.before k lt))))
  | inr (inl same) ↦ same
  | inr (inr gt) ↦ absurd (let no : true ≡ false = sym (before_passes _ q (subst (IsBefore (code_at cs n)) e (rising_at cs rises n k gt l))) ∙ cut.after n (omega arith) (omega (arith, gt, l)) in cc no)
]

-- no code from the cut on is a prefix of q, unless it is q
pub prefixes_below_cut : (cs : List (List ℕ)) (q : List ℕ) (n : ℕ) → IsRising cs → IsCut (λ c. is_before c q) cs n
    → (k : ℕ) → n ≤ k → k < length cs → IsPrefix (code_at cs k) q → (k ≡ n) × (code_at cs k ≡ q)
prefixes_below_cut cs q n rises cut k l m p = elim (prefix_before (code_at cs k) q p) [
  | inl e ↦ (equal_stands_at cs q n rises cut k m e, e)
  | inr b ↦ absurd (let no : true ≡ false = sym (before_passes _ q b) ∙ cut.after k l m in cc no)
]

-- where q is a code, it is the last prefix of itself
pub last_is_itself : (cs : List (List ℕ)) (q : List ℕ) (n : ℕ) → IsRising cs → IsCut (λ c. is_before c q) cs n
    → n < length cs → code_at cs n ≡ q → IsLastPrefix cs (length cs) q (n + 1)
last_is_itself cs q n rises cut l e =
    let back : n ≡ n + 1 - 1 = omega arith in
    record {
      within = omega (arith, l);
      holds = λ some. subst (λ i. IsPrefix (code_at cs i) q) back (subst (λ x. IsPrefix x q) (sym e) (prefix_itself q));
      none = λ k a b p. let r = (prefixes_below_cut cs q n rises cut k (omega (arith, a)) b p).0 in absurd (omega (arith, a, r));
    }

-- where q is no code, its last prefix is the last among those before it
pub last_before : (cs : List (List ℕ)) (q : List ℕ) (n r : ℕ) → IsRising cs → IsCut (λ c. is_before c q) cs n
    → (n < length cs → code_at cs n ≡ q → ⊥) → IsLastPrefix cs n q r → IsLastPrefix cs (length cs) q r
last_before cs q n r rises cut apart last = last_of_more (λ k. IsPrefix (code_at cs k) q) n (length cs) r cut.within (λ k l m p.
    let here = prefixes_below_cut cs q n rises cut k l m p in
    apart (subst (λ i. i < length cs) here.0 m) (subst (λ i. code_at cs i ≡ q) here.0 here.1)) last

-- what comes before q or is q doesn't come after q
up_to : (c q : List ℕ) → IsBefore c q ⊎ (c ≡ q) → not (is_before q c) ≡ true
up_to c q h = by _ refl
  where
    by : (b : Bool) → is_before q c ≡ b → not (is_before q c) ≡ true
    by false e = ap not e
    by true e = absurd (elim h [
      | inl l ↦ before_not_itself q (before_through q c q (before_by_test q c e) l)
      | inr s ↦ before_not_itself q (subst (IsBefore q) s (before_by_test q c e))
    ])

-- the cut behind q, where q is a code
pub behind_itself : (cs : List (List ℕ)) (q : List ℕ) (n : ℕ) → IsRising cs → IsCut (λ c. is_before c q) cs n → n < length cs → code_at cs n ≡ q
    → IsCut (λ c. not (is_before q c)) cs (n + 1)
behind_itself cs q n rises cut l e = record {
  within = omega (arith, l);
  before = λ k m. elim (three_ways k n) [
    | inl lt ↦ up_to (code_at cs k) q (inl (before_by_test _ q (cut.before k lt)))
    | inr (inl same) ↦ up_to (code_at cs k) q (inr (ap (code_at cs) same ∙ e))
    | inr (inr g) ↦ absurd (omega (arith, m, g))
  ];
  after = λ k m within. ap not (before_passes q _ (subst (λ x. IsBefore x (code_at cs k)) e (rising_at cs rises n k (omega (arith, m)) within)));
}

-- and where it is none
pub behind_none : (cs : List (List ℕ)) (q : List ℕ) (n : ℕ) → IsRising cs → IsCut (λ c. is_before c q) cs n → (n < length cs → code_at cs n ≡ q → ⊥)
    → IsCut (λ c. not (is_before q c)) cs n
behind_none cs q n rises cut apart = record {
  within = cut.within;
  before = λ k m. up_to (code_at cs k) q (inl (before_by_test _ q (cut.before k m)));
  after = λ k m within. elim (which_before (code_at cs k) q) [
    | inl b ↦ absurd (let no : true ≡ false = sym (before_passes _ q b) ∙ cut.after k m within in cc no)
    | inr (inl e) ↦ absurd (let same = equal_stands_at cs q n rises cut k within e in apart (subst (λ i. i < length cs) same within) (subst (λ i. code_at cs i ≡ q) same e))
    | inr (inr g) ↦ ap not (before_passes q _ g)
  ];
}
