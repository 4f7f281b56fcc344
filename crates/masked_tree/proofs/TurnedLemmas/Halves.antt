-- The two halves of children, their first nibbles turned over and joined again: their places, fullness, entries and sizes.
use Rattle.std.proofs.Common.{◌≡◌, ◌≢◌, ◌⊎◌, inl, inr, ℕ, suc, ◌+◌, ◌-◌, ◌*◌, ◌/◌, ◌%◌, ◌<◌, ◌≤◌, Bool, true, false, cond, List, [], ◌∷◌, ◌++◌, ltb, refl, ap, sym, subst, ◌∙◌, append_assoc, arith}
use Rattle.std.proofs.lemmas.Bool.{lt-ltb, le-ltb}
use Rattle.std.proofs.lemmas.Bool.Decides.{leb_tells}
use Rattle.std.proofs.lemmas.Nat.Bits.{and_pow}
use Rattle.std.specs.Int.Bits.{bit_xor, bit_and, xor_add_and}
use Rattle.masked_tree.specs.Tree.{Children, none, more, plain, firsts, IsPlaced, entries_in, nodes_in, nibbles_in}
use Rattle.masked_tree.specs.Sizes.{pair_count}
use Rattle.nibble_map.specs.Lists.{Each}
use Rattle.nibble_map.specs.Swaps.{entry}
use Rattle.nibble_map.specs.Trees.{IsFull, first}
use Rattle.nibble_map.specs.Turned.{turned}
use Rattle.masked_tree.specs.Turned.{in_half, turned_half, append}
use Rattle.masked_tree.proofs.EditLemmas.Removal.{placed_from}
use Rattle.nibble_map.proofs.ListLemmas.Turned.{length-turned}

-- a list that isn't empty isn't empty turned over
turned_some : (f : List ℕ) → f ≢ [] → turned f ≢ []
turned_some [] h e = h e
turned_some (a ∷ f) h e = cc

-- the first nibble of a turned list is the list's first nibble with its highest bit turned
pub first-turned : (f : List ℕ) → f ≢ [] → first (turned f) ≡ bit_xor (first f) 8
first-turned [] h = absurd (h refl)
first-turned (a ∷ f) h = refl

-- a nibble below 8 is 8 more with its highest bit turned
pub low_turned : (x : ℕ) → x < 8 → bit_xor x 8 ≡ x + 8
low_turned x lt = let a : bit_and x 8 ≡ x / 8 % 2 * 8 = and_pow x 3 in let b = xor_add_and x 8 in omega (arith, a, b, lt)

-- a nibble from 8 on is 8 less with its highest bit turned
pub high_turned : (x : ℕ) → 8 ≤ x → x < 16 → bit_xor x 8 ≡ x - 8
high_turned x ge lt = let a : bit_and x 8 ≡ x / 8 % 2 * 8 = and_pow x 3 in let b = xor_add_and x 8 in omega (arith, a, b, ge, lt)

-- which half a nibble is in
-- a nibble is 8 or more, and what the tests of halves say of it
pub record IsHigh (x : ℕ) : Type 0 where
  pub from : 8 ≤ x
  pub high : ltb 7 x ≡ true
  pub low : ltb x 8 ≡ false

-- a nibble is below 8, and what the tests of halves say of it
pub record IsLow (x : ℕ) : Type 0 where
  pub below : x < 8
  pub high : ltb 7 x ≡ false
  pub low : ltb x 8 ≡ true

-- each nibble is in the high half or in the low one
pub half_of : (x : ℕ) → IsHigh x ⊎ IsLow x
half_of x = elim (leb_tells 8 x) [
  | inl t ↦ inl (record { from = t.1; high = lt-ltb 7 x (omega (arith, t.1)); low = le-ltb x 8 t.1 })
  | inr t ↦ let l : x < 8 = omega (arith, t.1) in inr (record { below = l; high = le-ltb 7 x (omega (arith, l)); low = lt-ltb x 8 l })
]

module _ {P : Type 0} where
  -- the two halves, one after the other
  -- children placed below a bound, and then others placed from it on, are placed
  pub placed-append : (low upper : ℕ) (k l : Children P) → low ≤ upper → Each (λ x. x < upper) (firsts k) → IsPlaced low k → IsPlaced upper l → IsPlaced low (append k l)
  placed-append low upper none l le small h g = placed_from upper low l le g
  placed-append low upper (more f o m children others) l le small h g =
      (h.0, h.1, h.2, h.3, placed-append (suc (first f)) upper others l (omega (arith, small.0)) small.1 h.4 g)

  -- full children joined are full
  pub full-append : (k l : Children P) → IsFull (plain k) → IsFull (plain l) → IsFull (plain (append k l))
  full-append none l h g = g
  full-append (more f o m children others) l h g = (h.0, h.1, full-append others l h.2 g)

  -- the first nibbles of joined children are those of both
  pub firsts-append : (k l : Children P) → firsts (append k l) ≡ firsts k ++ firsts l
  firsts-append none l = refl
  firsts-append (more f o m children others) l = ap (λ xs. first f ∷ xs) (firsts-append others l)

  -- the entries of joined children are those of both
  pub entries_in-append : (k l : Children P) → entries_in [] (append k l) ≡ entries_in [] k ++ entries_in [] l
  entries_in-append none l = refl
  entries_in-append (more f o m children others) l =
      ap (λ es. (entry f o ++ entries_in f children) ++ es) (entries_in-append others l) ∙ sym (append_assoc (entry f o ++ entries_in f children) (entries_in [] others) (entries_in [] l))

  -- joined children have the nodes, nibbles and pairs of both
  pub sizes-append : (k l : Children P) → (nodes_in (append k l) ≡ nodes_in k + nodes_in l) × (nibbles_in (append k l) ≡ nibbles_in k + nibbles_in l)
      × (pair_count (append k l) ≡ pair_count k + pair_count l)
  sizes-append none l = (omega arith, omega arith, omega arith)
  sizes-append (more f o m children others) l = let r = sizes-append others l in (omega (arith, r.0), omega (arith, r.1), omega (arith, r.2))

  -- the two turned halves have the nodes, nibbles and pairs of the children
  pub sizes-halves : (k : Children P) → (nodes_in (turned_half true k) + nodes_in (turned_half false k) ≡ nodes_in k)
      × (nibbles_in (turned_half true k) + nibbles_in (turned_half false k) ≡ nibbles_in k)
      × (pair_count (turned_half true k) + pair_count (turned_half false k) ≡ pair_count k)
  sizes-halves none = (omega arith, omega arith, omega arith)
  sizes-halves (more f o m children others) = let r = sizes-halves others in elim (half_of (first f)) [
    | inl t ↦ rw (t.high, t.low) (omega (arith, r.0), omega (arith, r.1, length-turned f), omega (arith, r.2))
    | inr t ↦ rw (t.high, t.low) (omega (arith, r.0), omega (arith, r.1, length-turned f), omega (arith, r.2))
  ]

  -- a turned half of full children is full
  pub full-half : (high : Bool) (k : Children P) → IsFull (plain k) → IsFull (plain (turned_half high k))
  full-half high none h = h
  full-half high (more f o m children others) h = by (in_half high (first f)) (full-half high others h.2)
    where
      by : (b : Bool) → IsFull (plain (turned_half high others)) → IsFull (plain (cond b (more (turned f) o m children (turned_half high others)) (turned_half high others)))
      by true r = (h.0, h.1, r)
      by false r = r

  -- the high half of placed children, turned, is placed from 8 lower on
  pub high_placed : (low : ℕ) (k : Children P) → Each (λ x. x < 16) (firsts k) → IsPlaced low k → IsPlaced (low - 8) (turned_half true k)
  high_placed low none small h = tt
  high_placed low (more f o m children others) small h = let r = high_placed (suc (first f)) others small.1 h.4 in elim (half_of (first f)) [
    | inl t ↦ rw t.high (let e = first-turned f h.0 ∙ high_turned (first f) t.from small.0 in
        (turned_some f h.0, omega (arith, e, h.1), h.2, h.3, subst (λ n. IsPlaced n (turned_half true others)) (omega (arith, e, t.from)) r))
    | inr t ↦ rw t.high (subst (λ n. IsPlaced n (turned_half true others)) (omega (arith, t.below, h.1)) r)
  ]

  -- the low half of placed children, turned, is placed from 8 higher on
  pub low_placed : (low : ℕ) (k : Children P) → IsPlaced low k → IsPlaced (low + 8) (turned_half false k)
  low_placed low none h = tt
  low_placed low (more f o m children others) h = let r = low_placed (suc (first f)) others h.4 in elim (half_of (first f)) [
    | inl t ↦ rw t.low (placed_from (suc (first f) + 8) (low + 8) (turned_half false others) (omega (arith, h.1)) r)
    | inr t ↦ rw t.low (let e = first-turned f h.0 ∙ low_turned (first f) t.below in
        (turned_some f h.0, omega (arith, e, h.1), h.2, h.3, subst (λ n. IsPlaced n (turned_half false others)) (omega (arith, e)) r))
  ]

  -- the high half, turned, begins with nibbles below 8
  pub high_firsts : (low : ℕ) (k : Children P) → Each (λ x. x < 16) (firsts k) → IsPlaced low k → Each (λ x. x < 8) (firsts (turned_half true k))
  high_firsts low none small h = tt
  high_firsts low (more f o m children others) small h = let r = high_firsts (suc (first f)) others small.1 h.4 in elim (half_of (first f)) [
    | inl t ↦ rw t.high (let e = first-turned f h.0 ∙ high_turned (first f) t.from small.0 in (omega (arith, e, small.0), r))
    | inr t ↦ rw t.high r
  ]

  -- the low half, turned, begins with nibbles below 16
  pub low_firsts : (low : ℕ) (k : Children P) → IsPlaced low k → Each (λ x. x < 16) (firsts (turned_half false k))
  low_firsts low none h = tt
  low_firsts low (more f o m children others) h = let r = low_firsts (suc (first f)) others h.4 in elim (half_of (first f)) [
    | inl t ↦ rw t.low r
    | inr t ↦ rw t.low (let e = first-turned f h.0 ∙ low_turned (first f) t.below in (omega (arith, e, t.below), r))
  ]
