-- A root whose children's first nibbles are turned over stands at its places, is as large, and holds the turned lists.
use Rattle.std.proofs.Common.{◌≡◌, inl, inr, ℕ, suc, ◌+◌, ◌-◌, ◌*◌, ◌/◌, ◌%◌, ◌^◌, ◌<◌, ◌≤◌, Bool, true, false, cond, ◌==◌, List, [], ◌∷◌, ◌++◌, length, max, refl, ap, sym, subst, ◌∙◌, arith}
use Rattle.std.proofs.lemmas.Bool.Decides.{eqb_tells, leb_tells}
use Rattle.std.proofs.lemmas.Nat.{or_lt}
use Rattle.std.proofs.lemmas.Nat.Bits.{bit_at_above, bit_at_or, bit_at_cat_low, bit_at_cat_high}
use Rattle.std.specs.Int.{bit_at, rotate_left, w16}
use Rattle.masked_tree.specs.Tree.{Tree, Children, none, more, plain, firsts, IsPlaced, IsTreePlaced, entries_at, nodes_in, nibbles_in}
use Rattle.masked_tree.specs.Sizes.{own_count, pair_count}
use Rattle.nibble_map.specs.Lists.{Each}
use Rattle.masked_tree.specs.Mask.{bit_of}
use Rattle.nibble_map.specs.Trees.{IsFull, first}
use Rattle.masked_tree.specs.Turned.{turned_half, turned_children, turned_root}
use Rattle.masked_tree.proofs.TreeLemmas.Sizes.{length-entries_at}
use Rattle.masked_tree.proofs.MaskLemmas.{bit_of-before, mask_small}
use Rattle.masked_tree.proofs.TreeLemmas.Children.{placed_rises}
use Rattle.masked_tree.proofs.TurnedLemmas.Halves.{first-turned, low_turned, high_turned, half_of, placed-append, full-append, firsts-append, sizes-append, sizes-halves, full-half, high_placed, low_placed, high_firsts, low_firsts}

-- bits of lists
-- a number that isn't in the first list is in both joined where it is in the second
bit_of-append : (n : ℕ) (xs ys : List ℕ) → bit_of n xs ≡ 0 → bit_of n (xs ++ ys) ≡ bit_of n ys
bit_of-append n [] ys h = refl
bit_of-append n (x ∷ xs) ys h = by (x == n) h (bit_of-append n xs ys)
  where
    by : (b : Bool) → cond b 1 (bit_of n xs) ≡ 0 → (bit_of n xs ≡ 0 → bit_of n (xs ++ ys) ≡ bit_of n ys) → cond b 1 (bit_of n (xs ++ ys)) ≡ bit_of n ys
    by true i r = absurd (omega (arith, i))
    by false i r = r i

-- a number that isn't in the second list is in both joined where it is in the first
bit_of-append_first : (n : ℕ) (xs ys : List ℕ) → bit_of n ys ≡ 0 → bit_of n (xs ++ ys) ≡ bit_of n xs
bit_of-append_first n [] ys h = h
bit_of-append_first n (x ∷ xs) ys h = ap (cond (x == n) 1) (bit_of-append_first n xs ys h)

-- a number at or above a bound on the list isn't in it
bit_above : (c n : ℕ) (xs : List ℕ) → c ≤ n → Each (λ x. x < c) xs → bit_of n xs ≡ 0
bit_above c n [] le h = refl
bit_above c n (x ∷ xs) le h = elim (eqb_tells x n) [
  | inl t ↦ absurd (let e = t.1 in omega (arith, e, le, h.0))
  | inr t ↦ rw t.0 (bit_above c n xs le h.1)
]

-- the bits for two numbers are the same where the tests and the later bits agree
same_bit : (x y n k : ℕ) (a b : ℕ) → (x ≡ n → y ≡ k) → (y ≡ k → x ≡ n) → a ≡ b → cond (x == n) 1 a ≡ cond (y == k) 1 b
same_bit x y n k a b to from e = elim (eqb_tells x n) [
  | inl t ↦ elim (eqb_tells y k) [ inl u ↦ rw (t.0, u.0) refl | inr u ↦ absurd (u.1 (to t.1)) ]
  | inr t ↦ elim (eqb_tells y k) [ inl u ↦ absurd (t.1 (from u.1)) | inr u ↦ rw (t.0, u.0) e ]
]

module _ {P : Type 0} where
  -- the turned high half has a child at n where the children have one at n + 8
  high_bit : (n low : ℕ) (k : Children P) → n < 8 → Each (λ x. x < 16) (firsts k) → IsPlaced low k → bit_of n (firsts (turned_half true k)) ≡ bit_of (n + 8) (firsts k)
  high_bit n low none lt small h = refl
  high_bit n low (more f o m children others) lt small h = let r = high_bit n (suc (first f)) others lt small.1 h.4 in elim (half_of (first f)) [
    | inl t ↦ rw t.high (let e = first-turned f h.0 ∙ high_turned (first f) t.from small.0 in
        same_bit _ _ n (n + 8) _ _ (λ i. omega (arith, e, i, t.from)) (λ i. omega (arith, e, i)) r)
    | inr t ↦ rw t.high (elim (eqb_tells (first f) (n + 8)) [ inl u ↦ absurd (let i = u.1 in omega (arith, i, t.below)) | inr u ↦ rw u.0 r ])
  ]

  -- the turned low half has a child at n + 8 where the children have one at n
  low_bit : (n low : ℕ) (k : Children P) → n < 8 → IsPlaced low k → bit_of (n + 8) (firsts (turned_half false k)) ≡ bit_of n (firsts k)
  low_bit n low none lt h = refl
  low_bit n low (more f o m children others) lt h = let r = low_bit n (suc (first f)) others lt h.4 in elim (half_of (first f)) [
    | inl t ↦ rw t.low (elim (eqb_tells (first f) n) [ inl u ↦ absurd (let i = u.1 in omega (arith, i, lt, t.from)) | inr u ↦ rw u.0 r ])
    | inr t ↦ rw t.low (let e = first-turned f h.0 ∙ low_turned (first f) t.below in
        same_bit _ _ (n + 8) n _ _ (λ i. omega (arith, e, i)) (λ i. omega (arith, e, i)) r)
  ]

-- the mask's halves change places
module _ (m : ℕ) (fits : m < 2 ^ 16) where
  -- a mask moved up by 8 bits is its low half in the high place
  shifted_mask : m * 2 ^ 8 % 2 ^ 16 ≡ m % 2 ^ 8 * 2 ^ 8 + 0
  shifted_mask = omega (arith, fits)

  -- a mask is its high half and its low half
  mask_halves : m ≡ m / 2 ^ 8 * 2 ^ 8 + m % 2 ^ 8
  mask_halves = omega arith

  -- a rotated mask has sixteen bits
  rotated_fits : rotate_left w16 m 8 < 2 ^ 16
  rotated_fits = or_lt 16 (m * 2 ^ 8 % 2 ^ 16) (m / 2 ^ 8) (omega arith) (omega (arith, fits))

  -- a rotated mask has a bit where either of the moved halves has it
  bit_of_or : (n : ℕ) → bit_at (rotate_left w16 m 8) n ≡ max (bit_at (m % 2 ^ 8 * 2 ^ 8 + 0) n) (bit_at (m / 2 ^ 8) n)
  bit_of_or n = bit_at_or (m * 2 ^ 8 % 2 ^ 16) (m / 2 ^ 8) n ∙ ap (λ k. max (bit_at k n) (bit_at (m / 2 ^ 8) n)) shifted_mask

  -- the low half of a rotated mask is the mask's high half
  low_rotated : (n : ℕ) → n < 8 → bit_at (rotate_left w16 m 8) n ≡ bit_at m (n + 8)
  low_rotated n lt =
      let a = bit_at_cat_low (m % 2 ^ 8) 8 0 n lt in
      let z : bit_at 0 n ≡ 0 = bit_at_above 0 0 n (omega arith) (omega arith) in
      let b = ap (λ k. bit_at k (n + 8)) mask_halves ∙ bit_at_cat_high (m / 2 ^ 8) 8 (m % 2 ^ 8) (n + 8) (omega arith) (omega arith) in
      let c : n + 8 - 8 ≡ n = omega arith in
      bit_of_or n ∙ ap (λ k. max k (bit_at (m / 2 ^ 8) n)) (a ∙ z) ∙ (let d = ap (bit_at (m / 2 ^ 8)) c in omega (arith, b, d))

  -- the high half of a rotated mask is the mask's low half
  high_rotated : (n : ℕ) → n < 8 → bit_at (rotate_left w16 m 8) (n + 8) ≡ bit_at m n
  high_rotated n lt =
      let a = bit_at_cat_high (m % 2 ^ 8) 8 0 (n + 8) (omega arith) (omega arith) in
      let z : bit_at (m / 2 ^ 8) (n + 8) ≡ 0 = bit_at_above (m / 2 ^ 8) 8 (n + 8) (omega (arith, fits)) (omega arith) in
      let b = ap (λ k. bit_at k n) mask_halves ∙ bit_at_cat_low (m / 2 ^ 8) 8 (m % 2 ^ 8) n lt in
      let c : n + 8 - 8 ≡ n = omega arith in
      let d = ap (bit_at (m % 2 ^ 8)) c in
      bit_of_or (n + 8) ∙ ap (max (bit_at (m % 2 ^ 8 * 2 ^ 8 + 0) (n + 8))) z ∙ omega (arith, a, b, d)

module _ {P : Type 0} (t : Tree P) (placed : IsTreePlaced t) where
  -- the first nibbles of a placed tree's children are below 16
  firsts_small : Each (λ x. x < 16) (firsts t.children)
  firsts_small = mask_small t.mask (firsts t.children) placed.0

  -- the first nibbles of the turned high half are below 8
  upper_small : Each (λ x. x < 8) (firsts (turned_half true t.children))
  upper_small = high_firsts 0 t.children firsts_small placed.1

  -- the turned low half is placed from 8 on
  lower_placed : IsPlaced 8 (turned_half false t.children)
  lower_placed = subst (λ n. IsPlaced n (turned_half false t.children)) (omega arith) (low_placed 0 t.children placed.1)

  -- a rotated mask names the first nibbles of the two turned halves
  turned_bits : (n : ℕ) → bit_at (rotate_left w16 t.mask 8) n ≡ bit_of n (firsts (turned_half true t.children) ++ firsts (turned_half false t.children))
  turned_bits n = elim (half_of n) [
    | inr l ↦ low_rotated t.mask placed.0.0 n l.below ∙ placed.0.1 (n + 8) ∙ sym (high_bit n 0 t.children l.below firsts_small placed.1)
        ∙ sym (bit_of-append_first n _ _ (bit_of-before (firsts (turned_half false t.children)) 8 n (placed_rises 8 _ lower_placed) l.below))
    | inl h ↦ bit_at_upper n h.from ∙ sym (bit_of-append n (firsts (turned_half true t.children)) _ (bit_above 8 n _ h.from upper_small))
  ]
    where
      bit_at_upper : (n : ℕ) → 8 ≤ n → bit_at (rotate_left w16 t.mask 8) n ≡ bit_of n (firsts (turned_half false t.children))
      bit_at_upper n ge = elim (leb_tells 16 n) [
        | inl u ↦ bit_at_above _ 16 n (rotated_fits t.mask placed.0.0) u.1 ∙ sym (bit_above 16 n _ u.1 (low_firsts 0 t.children placed.1))
        | inr u ↦ (let e : n - 8 + 8 ≡ n = omega (arith, ge) in let l : n - 8 < 8 = omega (arith, u.1, ge) in
            subst (λ k. bit_at (rotate_left w16 t.mask 8) k ≡ bit_of k (firsts (turned_half false t.children))) e
            (high_rotated t.mask placed.0.0 (n - 8) l ∙ placed.0.1 (n - 8) ∙ sym (low_bit (n - 8) 0 t.children l placed.1)))
      ]

  -- where a tree is placed, its turned root is placed
  pub turned_placed : IsTreePlaced (turned_root t)
  turned_placed = (
    (rotated_fits t.mask placed.0.0, λ n. turned_bits n ∙ ap (bit_of n) (sym (firsts-append (turned_half true t.children) (turned_half false t.children)))),
    placed-append 0 8 _ _ (omega arith) upper_small (high_placed 0 t.children firsts_small placed.1) lower_placed,
  )

  -- full children are full when they are turned
  pub turned_full : IsFull (plain t.children) → IsFull (plain (turned_children t.children))
  turned_full h = full-append _ _ (full-half true t.children h) (full-half false t.children h)

module _ {P : Type 0} (k : Children P) where
  -- turned children have as many nodes
  pub nodes_in-turned : nodes_in (turned_children k) ≡ nodes_in k
  nodes_in-turned = (sizes-append (turned_half true k) (turned_half false k)).0 ∙ (sizes-halves k).0

  -- turned children have as many nibbles
  pub nibbles_in-turned : nibbles_in (turned_children k) ≡ nibbles_in k
  nibbles_in-turned = (sizes-append (turned_half true k) (turned_half false k)).1 ∙ (sizes-halves k).1

  -- turned children have as many pairs
  turned_pairs : pair_count (turned_children k) ≡ pair_count k
  turned_pairs = (sizes-append (turned_half true k) (turned_half false k)).2 ∙ (sizes-halves k).2

-- a turned root has as many entries
pub length-turned_entries : {P : Type 0} (t : Tree P) → length (entries_at [] (turned_root t)) ≡ length (entries_at [] t)
length-turned_entries t = length-entries_at [] (turned_root t) ∙ ap (λ n. own_count t.pair + n) (turned_pairs t.children) ∙ sym (length-entries_at [] t)
