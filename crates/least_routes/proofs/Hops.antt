-- Sets of hops, and what a tree costs under a hop from above.
use Rattle.std.proofs.Common.{◌≡◌, ◌≢◌, ℕ, zero, suc, ◌+◌, ◌<◌, ◌≤◌, ◌∙◌, Bool, true, false, cond, ◌&&◌, ◌||◌, eqb, List, [], ◌∷◌, ◌++◌, length, get_or, Option, Some, None, Result, Ok, Err, is_ok, inl, inr, sym, ap, refl, subst, length-append, arith, lit≤}
use Rattle.std.proofs.lemmas.List.{nil_from_length}
use Rattle.std.proofs.lemmas.Bool.{cases_lt, eqb-true, false≢true, or_left, or_right, or_from, eq-eqb, ne_eqb}
use Rattle.std.specs.List.Sorted.{IsNonDecreasing, IsPermutation, IsBinarySearchResult}
use Rattle.std.proofs.lemmas.List.Sorted.{length_permutation, list_any-IsPermutation, searched}
use Rattle.std.specs.Ordering.{nat_cmp}
use Rattle.std.proofs.lemmas.List.Kept.{IsNonDecreasingBy-filter}
use Rattle.least_routes.specs.Trees.{PlanTree, one, open_at, closed_at, has, shared, IsBest, is_open, hops_of}

-- 1 where the hop from above is none of the best
abbrev pub miss : PlanTree → Option ℕ → ℕ
miss t None = cond (is_open t) 0 1
miss t (Some hop) = cond (has (hops_of t) hop) 0 1

-- how many routes a block takes under one of its best hops
abbrev pub weight : PlanTree → ℕ
weight (one o) = 0
weight (open_at low high) = weight low + miss low None + (weight high + miss high None)
weight (closed_at hops low high) =
    weight low + weight high + cond (eqb (length (shared (hops_of low) (hops_of high))) 0) 1 0

-- what two lists have together
pub has-append : (xs ys : List ℕ) (h : ℕ) → has (xs ++ ys) h ≡ (has xs h || has ys h)
has-append [] ys h = refl
has-append (x ∷ xs) ys h =
    elim (eqb x h) as (λ b. (b || has (xs ++ ys) h) ≡ ((b || has xs h) || has ys h)) [
      | true ↦ refl
      | false ↦ has-append xs ys h
    ]

-- a list that may begin with one more
has-cond : (b : Bool) (x : ℕ) (xs : List ℕ) (h : ℕ)
    → has (cond b (x ∷ xs) xs) h ≡ ((b && eqb x h) || has xs h)
has-cond true x xs h = refl
has-cond false x xs h = refl

-- either of two, and a third
both-or : (e p r s : Bool) → (e ≡ true → s ≡ r) → ((s && e) || (p && r)) ≡ ((e || p) && r)
both-or true p r true f = f refl
both-or false p r true f = refl
both-or e p r false f = grind arith

-- what two lists share is in both
pub has-shared : (xs ys : List ℕ) (h : ℕ) → has (shared xs ys) h ≡ (has xs h && has ys h)
has-shared [] ys h = refl
has-shared (x ∷ xs) ys h =
    has-cond (has ys x) x (shared xs ys) h
    ∙ ap (λ b. (has ys x && eqb x h) || b) (has-shared xs ys h)
    ∙ both-or (eqb x h) (has xs h) (has ys h) (has ys x) (λ e. ap (has ys) (eqb-true x h e))

-- misses at two halves and at their block, as tests tell them
miss-tests : (t x y : Bool) → (t ≡ true → (x && y) ≡ false)
    → cond t 1 0 + cond (cond t (x || y) (x && y)) 0 1 ≤ cond x 0 1 + cond y 0 1
miss-tests true true true f = absurd (false≢true (sym (f refl)))
miss-tests true true false f = lit≤ tt
miss-tests true false true f = lit≤ tt
miss-tests true false false f = lit≤ tt
miss-tests false true true f = lit≤ tt
miss-tests false true false f = lit≤ tt
miss-tests false false true f = lit≤ tt
miss-tests false false false f = lit≤ tt

-- a hop that is best for the block
best-tests : (t x y : Bool) → (t ≡ true → (x && y) ≡ false) → cond t (x || y) (x && y) ≡ true
    → cond x 0 1 + cond y 0 1 ≡ cond t 1 0
best-tests true true true f e = absurd (false≢true (sym (f refl)))
best-tests true true false f e = refl
best-tests true false true f e = refl
best-tests true false false f e = cc
best-tests false true true f e = refl
best-tests false true false f e = cc
best-tests false false true f e = cc
best-tests false false false f e = cc

-- where two lists share none, no hop is in both
none-shared : (xs ys : List ℕ) (h : ℕ) → eqb (length (shared xs ys)) 0 ≡ true
    → (has xs h && has ys h) ≡ false
none-shared xs ys h e =
    sym (has-shared xs ys h) ∙ ap (λ l. has l h) (nil_from_length (shared xs ys) (eqb-true _ 0 e))

-- the best hops of the block are those of its halves
pub record IsJoined (hops : List ℕ) (low high : PlanTree) : Type 0 where
  pub low_closed : is_open low ≡ false
  pub high_closed : is_open high ≡ false
  pub best : IsBest (hops_of low) (hops_of high) hops

-- a test counts for 1 at most
pub one_at_most : (b : Bool) → cond b 1 0 ≤ 1
one_at_most true = lit≤ tt
one_at_most false = lit≤ tt

-- the other way
zero_or_one : (b : Bool) → cond b 0 1 ≤ 1
zero_or_one true = lit≤ tt
zero_or_one false = lit≤ tt

-- a closed block costs no more than its halves under the same hop
pub miss_at_most : (hops : List ℕ) (low high : PlanTree) (o : Option ℕ) → IsJoined hops low high
    → weight (closed_at hops low high) + miss (closed_at hops low high) o
    ≤ weight low + miss low o + (weight high + miss high o)
miss_at_most hops low high None j =
    omega (
      arith,
      ap {B = ℕ} (λ b. cond b 0 1) j.low_closed,
      ap {B = ℕ} (λ b. cond b 0 1) j.high_closed,
      one_at_most (eqb (length (shared (hops_of low) (hops_of high))) 0),
    )
miss_at_most hops low high (Some h) j =
    let xs = hops_of low in
    let ys = hops_of high in
    omega (
      arith,
      ap {B = ℕ} (λ b. cond b 0 1) (j.best.members h),
      miss-tests (eqb (length (shared xs ys)) 0) (has xs h) (has ys h) (none-shared xs ys h),
    )

-- under one of its best hops it costs as much
pub best-miss : (hops : List ℕ) (low high : PlanTree) (h : ℕ) → IsJoined hops low high
    → has hops h ≡ true
    → weight low + miss low (Some h) + (weight high + miss high (Some h)) ≡ weight
    (closed_at hops low high)
best-miss hops low high h j e =
    let xs = hops_of low in
    let ys = hops_of high in
    omega (
      arith,
      best-tests (eqb (length (shared xs ys)) 0) (has xs h) (has ys h) (none-shared xs ys h)
          (sym (j.best.members h) ∙ e),
    )

-- a hop from above costs 1 at most
pub miss_le_one : (t : PlanTree) (o : Option ℕ) → miss t o ≤ 1
miss_le_one t None = zero_or_one (is_open t)
miss_le_one t (Some h) = zero_or_one (has (hops_of t) h)

-- a hop that stands at a place is among them
pub has_at : (hops : List ℕ) (h i : ℕ) → i < length hops → get_or hops i 0 ≡ h → has hops h ≡ true
has_at [] h i lt e = absurd (omega arith)
has_at (x ∷ xs) h zero lt e = or_left (eqb x h) (has xs h) (eq-eqb x h e)
has_at (x ∷ xs) h (suc i) lt e = or_right (eqb x h) (has xs h) (has_at xs h i (omega arith) e)

-- a hop that stands at no place is none of them
pub has_nowhere : (hops : List ℕ) (h : ℕ) → ((i : ℕ) → i < length hops → get_or hops i 0 ≢ h)
    → has hops h ≡ false
has_nowhere [] h out = refl
has_nowhere (x ∷ xs) h out =
    or_from (eqb x h) (has xs h) (ne_eqb x h (out 0 (omega arith)))
    (has_nowhere xs h (λ i lt. out (suc i) (omega arith)))

-- what is kept of the best hops of the lower half is best for both, if it is anything
pub best_shared : (low high hops : List ℕ) → IsNonDecreasing low → hops ≡ shared low high
    → 0 < length hops → IsBest low high hops
best_shared low high hops rise e some =
    record {
      some = some;
      rise = subst IsNonDecreasing (sym e) (IsNonDecreasingBy-filter (λ x. x) (has high) low rise);
      members = λ h.
          ap (λ l. has l h) e ∙ has-shared low high h
          ∙ sym (ap (λ b. cond b (has low h || has high h) (has low h && has high h))
          (ne_eqb (length (shared low high)) 0 (λ z. absurd (omega (arith, ap length e)))));
    }

-- where none is, those of either are
pub best_either : (low high hops : List ℕ) → IsNonDecreasing hops → IsPermutation (low ++ high) hops
    → length (shared low high) ≡ 0 → 0 < length low → IsBest low high hops
best_either low high hops rise moved none some =
    record {
      some = omega (arith, length_permutation (low ++ high) hops moved, length-append low high);
      rise = rise;
      members = λ h.
          sym (list_any-IsPermutation (λ x. eqb x h) (low ++ high) hops moved)
          ∙ has-append low high h
          ∙ sym (ap (λ b. cond b (has low h || has high h) (has low h && has high h))
          (eq-eqb (length (shared low high)) 0 none));
    }

-- a search among hops that rise finds one just where it is
pub has-searched : (hops : List ℕ) (h : ℕ) (r : Result ℕ ℕ)
    → IsBinarySearchResult (λ y. nat_cmp y h) hops r → IsNonDecreasing hops → is_ok r ≡ has hops h
has-searched hops h (Ok i) found rise =
    let at = searched hops h (Ok i) found (λ i j. rise i j 0) in sym (has_at hops h i at.0 at.1)
has-searched hops h (Err i) found rise =
    let at = searched hops h (Err i) found (λ i j. rise i j 0) in
    sym (has_nowhere hops h (λ k lt e. elim
    (cases_lt k i) [
      | inl below ↦ absurd (omega (arith, at.1 k below))
      | inr above ↦ absurd
          (omega (arith, at.2 k above lt))
    ]))
