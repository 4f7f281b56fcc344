-- How rows and changes become the rows of a new image.
use Rattle.std.proofs.Common.{◌≡◌, ℕ, zero, suc, ◌+◌, ◌-◌, ◌*◌, ◌^◌, ◌<◌, ◌≤◌, ◌⊎◌, inl, inr, Bool, true, false, List, [], ◌∷◌, Some, if◌then◌else◌, nat_lt, length, get_or, slice_index, drop, take, map as each, refl, ap, sym, subst, ◌∙◌, arith}
use Rattle.std.specs.List.{Contains}
use Rattle.std.specs.Int.{w64, leading_zeros}
use Rattle.std.proofs.Math.Pow.{pow_mono}
use Rattle.std.proofs.lemmas.Bool.{cases_lt}
use Rattle.std.proofs.lemmas.Bool.Decides.{nat_tests}
use Rattle.std.proofs.lemmas.List.{get_or-drop, get_or-map, get_or-take, length-drop, length-map, length-take-le}
use Rattle.std.proofs.lemmas.Nat.{leading_length, mul-le}
use Rattle.std.proofs.lemmas.Option.{get_or_from_slice_get}
use Rattle.radix_keys.specs.Networks.{IsBase, Net}
use Rattle.radix_keys.proofs.KeyLemmas.Order.{three_ways}
use Rattle.image_parts.specs.Parts.{listed, row_count, u32_in, u64_in}
use Rattle.image_parts.proofs.ByteLemmas.{length-listed, listed_at, listed_same, u32_kept, u64_kept}
use Rattle.frozen_routes.specs.Routes.{AreRowsInOrder, IsEarlier}
use Rattle.frozen_routes.proofs.RouteLemmas.Growing.{earlier_through}
use Rattle.flat_routes.specs.declared.head.RowPlan.{RowPlan}
use Rattle.flat_routes.specs.Images.{IsNext, IsRowPlan, bases, image_rows, link_in, network, row_in, row_size, sizes, width}
use Rattle.flat_routes.specs.RowLaws.{ordered}
use Rattle.flat_routes.specs.Merged.{AreMerged, AreRowsAfter, IsAmong, IsRowBefore, IsOfChange, IsOfOld, IsUnnamed, gone_at, link_place, merged_size, no_row, put_place, put_row_at, row_at}
use Rattle.flat_routes.specs.Written.{ChangesWithin, cell_bits, image_size, link_from, most_cells, most_span, row_from}
use Rattle.flat_routes.proofs.ImageLemmas.{first_stored, size_stored}
use Rattle.flat_routes.proofs.WriteLemmas.{link_from_kept, link_placed, next_by, plan_kept, row_from_kept, row_placed, row_room}

-- a row doesn't come before one of the same network
not_same : (r s : Net ℕ × ℕ) → IsRowBefore r s → s.0 ≡ r.0 → ⊥
not_same r s before same =
    let first = ap (λ (n : Net ℕ). n.base) same in
    let bits = ap (λ (n : Net ℕ). n.bits) same in
    elim before [ inl l ↦ omega (arith, l, first) | inr e ↦ let less = e.1 in omega (arith, less, bits) ]

-- networks with the same first address and as many bits are one
same_net : (x y : Net ℕ) → x.base ≡ y.base → x.bits ≡ y.bits → x ≡ y
same_net x y base bits = ap (λ n. network n x.bits) base ∙ ap (λ n. network y.base n) bits

-- what is known of n old rows and m changes when the first a and c of these have become so many new rows
pub record IsSoFar (old changed : ℕ → Net ℕ × ℕ) (gone : ℕ → Bool) (new : ℕ → Net ℕ × ℕ) (n m a c count : ℕ) : Type 0 where
  pub merged : AreMerged old changed gone new a c count
  pub passed : (i j : ℕ) → i < a → c ≤ j → j < m → IsRowBefore (old i) (changed j)
  pub ahead : (i j : ℕ) → a ≤ i → i < n → j < c → IsRowBefore (changed j) (old i)

module _ (old changed : ℕ → Net ℕ × ℕ) (gone : ℕ → Bool) (n m : ℕ) (old_rise : (i k : ℕ) → i < k → k < n → IsRowBefore (old i) (old k))
    (changes_rise : (j k : ℕ) → j < k → k < m → IsRowBefore (changed j) (changed k)) where
  module _ (new next : ℕ → Net ℕ × ℕ) (a c count : ℕ) (so_far : IsSoFar old changed gone new n m a c count) (same : (k : ℕ) → k < count → next k ≡ new k) where
    -- what was among the new rows is among more
    among_more : (more : ℕ) → count ≤ more → (r : Net ℕ × ℕ) → IsAmong new count r → IsAmong next more r
    among_more more le r among = let l = among.1 in (among.0, omega (arith, l, le), same among.0 l ∙ among.2)

    -- the old rows from a up to b follow, which come before all changes that are left
    module _ (b : ℕ) (order : a ≤ b) (within : b ≤ n) (upto : c ≤ m) (before : (i j : ℕ) → a ≤ i → i < b → c ≤ j → j < m → IsRowBefore (old i) (changed j))
        (run : (i : ℕ) → a ≤ i → i < b → next (count + (i - a)) ≡ old i) where
      -- none of the changes so far names one of them
      run_unnamed : (i : ℕ) → a ≤ i → i < n → IsUnnamed changed c (old i)
      run_unnamed i l w j lt e = not_same (changed j) (old i) (so_far.ahead i j l w lt) (sym e)

      -- each row is one of the old ones or of the changes
      run_from : (k : ℕ) → k < count + (b - a) → IsOfChange changed gone c (next k) ⊎ IsOfOld old changed b c (next k)
      run_from k l = elim (cases_lt k count) [
        | inl lt ↦ elim (so_far.merged.from k lt) [
          | inl of ↦ inl (of.0, of.1, of.2, same k lt ∙ of.3)
          | inr of ↦ let w = of.1 in inr (of.0, omega (arith, w, order), same k lt ∙ of.2, of.3)
        ]
        | inr ge ↦
            let i = a + (k - count) in
            let is : count + (i - a) ≡ k = omega (arith, ge) in
            let inside : i < b = omega (arith, ge, l) in
            inr (i, inside, subst (λ x. next x ≡ old i) is (run i (omega arith) inside), run_unnamed i (omega arith) (omega (arith, inside, within)))
      ]

      -- the rows so far come before them
      run_after : (j i : ℕ) → j < count → a ≤ i → i < b → IsRowBefore (next j) (old i)
      run_after j i l least most = elim (so_far.merged.from j l) [
        | inl of ↦ subst (λ r. IsRowBefore r (old i)) (sym (same j l ∙ of.3)) (so_far.ahead i of.0 least (omega (arith, most, within)) of.1)
        | inr of ↦ let w = of.1 in subst (λ r. IsRowBefore r (old i)) (sym (same j l ∙ of.2)) (old_rise of.0 i (omega (arith, w, least)) (omega (arith, most, within)))
      ]

      run_rising : (j k : ℕ) → j < k → k < count + (b - a) → IsRowBefore (next j) (next k)
      run_rising j k l most = elim (cases_lt k count) [
        | inl lt ↦ subst (λ r. IsRowBefore r (next k)) (sym (same j (omega (arith, l, lt)))) (subst (IsRowBefore (new j)) (sym (same k lt)) (so_far.merged.rising j k l lt))
        | inr ge ↦
            let i = a + (k - count) in
            let is : count + (i - a) ≡ k = omega (arith, ge) in
            let inside : i < b = omega (arith, ge, most) in
            let here = subst (λ x. next x ≡ old i) is (run i (omega arith) inside) in
            elim (cases_lt j count) [
              | inl lt ↦ subst (IsRowBefore (next j)) (sym here) (run_after j i lt (omega arith) inside)
              | inr from ↦
                  let h = a + (j - count) in
                  let at : count + (h - a) ≡ j = omega (arith, from) in
                  let there = subst (λ x. next x ≡ old h) at (run h (omega arith) (omega (arith, l, inside, from, ge))) in
                  subst (IsRowBefore (next j)) (sym here) (subst (λ r. IsRowBefore r (old i)) (sym there) (old_rise h i (omega (arith, l, from, ge)) (omega (arith, inside, within))))
            ]
      ]

      pub run_more : IsSoFar old changed gone next n m b c (count + (b - a))
      run_more = record {
        merged = record {
          from = run_from;
          given = λ j l g. among_more (count + (b - a)) (omega arith) (changed j) (so_far.merged.given j l g);
          kept = λ i l free. elim (cases_lt i a) [
            | inl lt ↦ among_more (count + (b - a)) (omega arith) (old i) (so_far.merged.kept i lt free)
            | inr ge ↦ (count + (i - a), omega (arith, ge, l), run i ge l)
          ];
          rising = run_rising;
        };
        passed = λ i j l from to. elim (cases_lt i a) [
          | inl lt ↦ so_far.passed i j lt from to
          | inr ge ↦ before i j ge l from to
        ];
        ahead = λ i j l w lt. so_far.ahead i j (omega (arith, l, order)) w lt;
      }

    -- one more change follows, behind whose network are the old rows from b on
    module _ (b : ℕ) (order : a ≤ b) (inside : c < m) (behind : (i : ℕ) → b ≤ i → i < n → IsRowBefore (changed c) (old i))
        (own : (i : ℕ) → a ≤ i → i < b → (old i).0 ≡ (changed c).0) where
      -- the rows so far come before it
      change_after : (k : ℕ) → k < count → IsRowBefore (next k) (changed c)
      change_after k l = elim (so_far.merged.from k l) [
        | inl of ↦ subst (λ r. IsRowBefore r (changed c)) (sym (same k l ∙ of.3)) (changes_rise of.0 c of.1 inside)
        | inr of ↦ subst (λ r. IsRowBefore r (changed c)) (sym (same k l ∙ of.2)) (so_far.passed of.0 c of.1 (omega arith) inside)
      ]

      -- each of them is what it was
      change_from : (k : ℕ) → k < count → IsOfChange changed gone (c + 1) (next k) ⊎ IsOfOld old changed b (c + 1) (next k)
      change_from k l = elim (so_far.merged.from k l) [
        | inl of ↦ let w = of.1 in inl (of.0, omega (arith, w), of.2, same k l ∙ of.3)
        | inr of ↦ let w = of.1 in inr (
          of.0,
          omega (arith, w, order),
          same k l ∙ of.2,
          λ j lt e. elim (cases_lt j c) [
            | inl less ↦ of.3 j less e
            | inr ge ↦
                let is : j ≡ c = omega (arith, lt, ge) in
                not_same (old of.0) (changed c) (so_far.passed of.0 c w (omega arith) inside) (subst (λ x. (changed x).0 ≡ (old of.0).0) is e)
          ],
        )
      ]

      change_kept : (more : ℕ) → count ≤ more → (i : ℕ) → i < b → IsUnnamed changed (c + 1) (old i) → IsAmong next more (old i)
      change_kept more le i l free = elim (cases_lt i a) [
        | inl lt ↦ among_more more le (old i) (so_far.merged.kept i lt (λ j less e. free j (omega (arith, less)) e))
        | inr ge ↦ absurd (free c (omega arith) (sym (own i ge l)))
      ]

      change_rising : (j k : ℕ) → j < k → k < count → IsRowBefore (next j) (next k)
      change_rising j k l lt = subst (λ r. IsRowBefore r (next k)) (sym (same j (omega (arith, l, lt)))) (subst (IsRowBefore (new j)) (sym (same k lt)) (so_far.merged.rising j k l lt))

      change_passed : (i j : ℕ) → i < b → c + 1 ≤ j → j < m → IsRowBefore (old i) (changed j)
      change_passed i j l from to = elim (cases_lt i a) [
        | inl lt ↦ so_far.passed i j lt (omega (arith, from)) to
        | inr ge ↦ subst (λ (x : Net ℕ). IsEarlier x.base x.bits (changed j).0.base (changed j).0.bits) (sym (own i ge l)) (changes_rise c j (omega (arith, from)) to)
      ]

      change_ahead : (i j : ℕ) → b ≤ i → i < n → j < c + 1 → IsRowBefore (changed j) (old i)
      change_ahead i j l w lt = elim (cases_lt j c) [
        | inl less ↦ so_far.ahead i j (omega (arith, l, order)) w less
        | inr ge ↦ let is : c ≡ j = omega (arith, lt, ge) in subst (λ x. IsRowBefore (changed x) (old i)) is (behind i l w)
      ]

      -- where it removes
      pub removed_more : gone c ≡ true → IsSoFar old changed gone next n m b (c + 1) count
      removed_more goes = record {
        merged = record {
          from = change_from;
          given = λ j l g. elim (cases_lt j c) [
            | inl lt ↦ among_more count (omega arith) (changed j) (so_far.merged.given j lt g)
            | inr ge ↦ let is : j ≡ c = omega (arith, l, ge) in absurd (let h = subst (λ x. gone x ≡ false) is g in cc (h, goes))
          ];
          kept = change_kept count (omega arith);
          rising = change_rising;
        };
        passed = change_passed;
        ahead = change_ahead;
      }

      -- where its row is given
      pub given_more : gone c ≡ false → next count ≡ changed c → IsSoFar old changed gone next n m b (c + 1) (count + 1)
      given_more stays put = record {
        merged = record {
          from = λ k l. elim (cases_lt k count) [
            | inl lt ↦ change_from k lt
            | inr ge ↦ let is : count ≡ k = omega (arith, l, ge) in inl (c, omega arith, stays, subst (λ x. next x ≡ changed c) is put)
          ];
          given = λ j l g. elim (cases_lt j c) [
            | inl lt ↦ among_more (count + 1) (omega arith) (changed j) (so_far.merged.given j lt g)
            | inr ge ↦ let is : c ≡ j = omega (arith, l, ge) in subst (λ x. IsAmong next (count + 1) (changed x)) is (count, omega arith, put)
          ];
          kept = change_kept (count + 1) (omega arith);
          rising = λ j k l most. elim (cases_lt k count) [
            | inl lt ↦ change_rising j k l lt
            | inr ge ↦ let is : count ≡ k = omega (arith, most, ge) in subst (λ x. IsRowBefore (next j) (next x)) is (subst (IsRowBefore (next j)) (sym put) (change_after j (omega (arith, l, is))))
          ];
        };
        passed = change_passed;
        ahead = change_ahead;
      }

      -- so it is whether it removes or not
      pub one_more : (g : Bool) (more : ℕ) → gone c ≡ g → (g ≡ true → more ≡ count) → (g ≡ false → more ≡ count + 1) → (g ≡ false → next count ≡ changed c)
          → IsSoFar old changed gone next n m b (c + 1) more
      one_more true more is removed given put = subst (IsSoFar old changed gone next n m b (c + 1)) (sym (removed refl)) (removed_more is)
      one_more false more is removed given put = subst (IsSoFar old changed gone next n m b (c + 1)) (sym (given refl)) (given_more is (put refl))

  -- what comes before one change comes before the later ones
  pub before_all : (c i : ℕ) → c < m → IsRowBefore (old i) (changed c) → (j : ℕ) → c ≤ j → j < m → IsRowBefore (old i) (changed j)
  before_all c i inside before j from to = elim (cases_lt c j) [
    | inl lt ↦ earlier_through _ _ _ _ _ _ before (changes_rise c j lt to)
    | inr ge ↦ let is : c ≡ j = omega (arith, from, ge) in subst (λ x. IsRowBefore (old i) (changed x)) is before
  ]

  -- a change comes before the old rows behind those of its network
  module _ (c e b : ℕ) (own : (b ≡ e) ⊎ ((b ≡ e + 1) × ((old e).0.base ≡ (changed c).0.base) × ((old e).0.bits ≡ (changed c).0.bits)))
      (end : e < n → IsRowBefore (old e) (changed c) → ⊥)
      (other : b ≡ e → e < n → (old e).0.base ≡ (changed c).0.base → (old e).0.bits ≡ (changed c).0.bits → ⊥) where
    -- the first of these, where it isn't of that network
    next_behind : b ≡ e → e < n → IsRowBefore (changed c) (old e)
    next_behind is inside = elim (three_ways (changed c).0.base (old e).0.base) [
      | inl lt ↦ inl lt
      | inr (inl same) ↦ elim (three_ways (changed c).0.bits (old e).0.bits) [
        | inl less ↦ inr (same, less)
        | inr (inl too) ↦ absurd (other is inside (sym same) (sym too))
        | inr (inr more) ↦ absurd (end inside (inr (sym same, more)))
      ]
      | inr (inr gt) ↦ absurd (end inside (inl gt))
    ]

    pub behind_all : (i : ℕ) → b ≤ i → i < n → IsRowBefore (changed c) (old i)
    behind_all i from to = elim own [
      | inl is ↦ elim (cases_lt e i) [
        | inl lt ↦ earlier_through _ _ _ _ _ _ (next_behind is (omega (arith, lt, to))) (old_rise e i lt to)
        | inr ge ↦ let at : e ≡ i = omega (arith, ge, from, is) in subst (λ x. IsRowBefore (changed c) (old x)) at (next_behind is (omega (arith, at, to)))
      ]
      | inr of ↦
          let is = of.0 in
          let base = of.1 in
          let bits = of.2 in
          subst (λ x. IsEarlier x (changed c).0.bits (old i).0.base (old i).0.bits) base
          (subst (λ x. IsEarlier (old e).0.base x (old i).0.base (old i).0.bits) bits (old_rise e i (omega (arith, from, is)) to))
    ]

    pub own_all : (i : ℕ) → e ≤ i → i < b → (old i).0 ≡ (changed c).0
    own_all i from to = elim own [
      | inl is ↦ absurd (omega (arith, from, to, is))
      | inr of ↦
          let is = of.0 in
          let base = of.1 in
          let bits = of.2 in
          let at : e ≡ i = omega (arith, from, to, is) in
          subst (λ x. (old x).0 ≡ (changed c).0) at (same_net (old e).0 (changed c).0 base bits)
    ]

-- a row comes before another one by their numbers
pub before_by : (f b g a : ℕ) (r s : Net ℕ × ℕ) → f ≡ r.0.base → b ≡ r.0.bits → g ≡ s.0.base → a ≡ s.0.bits → IsEarlier f b g a → IsRowBefore r s
before_by f b g a r s e1 e2 e3 e4 p = rw (← e1, ← e2, ← e3, ← e4) p

-- and back
pub before_from : (f b g a : ℕ) (r s : Net ℕ × ℕ) → f ≡ r.0.base → b ≡ r.0.bits → g ≡ s.0.base → a ≡ s.0.bits → IsRowBefore r s → IsEarlier f b g a
before_from f b g a r s e1 e2 e3 e4 p = rw (e1, e2, e3, e4) p

-- with one change there is one more row at most
pub more_at_most : (g : Bool) (count more : ℕ) → (g ≡ true → more ≡ count) → (g ≡ false → more ≡ count + 1) → (count ≤ more) × (more ≤ count + 1)
more_at_most true count more removed given = let is = removed refl in (omega (arith, is), omega (arith, is))
more_at_most false count more removed given = let is = given refl in (omega (arith, is), omega (arith, is))

-- the number of the row at an index
row_number : (f : Net ℕ × ℕ → ℕ) (rows : List (Net ℕ × ℕ)) (k : ℕ) → f no_row ≡ 0 → get_or (each f rows) k 0 ≡ f (row_at rows k)
row_number f [] k none = sym none
row_number f (r ∷ rows) zero none = refl
row_number f (r ∷ rows) (suc k) none = row_number f rows k none

-- changes in order rise
pub changes_in_order : (w : ℕ) (rows : List (Net ℕ × ℕ)) → AreRowsInOrder w (λ n. n) rows → (j k : ℕ) → j < k → k < length rows → IsRowBefore (row_at rows j) (row_at rows k)
changes_in_order w rows rising j k l inside =
    let e = rising.order j k l (omega (arith, inside, length-map rows (λ r. r.0.base))) in
    let e1 = row_number (λ r. r.0.base) rows j refl in
    let e2 = row_number (λ r. r.0.bits) rows j refl in
    let e3 = row_number (λ r. r.0.base) rows k refl in
    let e4 = row_number (λ r. r.0.bits) rows k refl in
    rw (← e1, ← e2, ← e3, ← e4) e

-- the rows of bytes that are in order rise
pub rows_in_order : (wide : Bool) (bs : List ℕ) (n : ℕ) → n ≤ row_count bs → ((k : ℕ) → k < n → IsNext (width wide) (bases wide bs) (sizes wide bs) k)
    → (i k : ℕ) → i < k → k < n → IsRowBefore (row_in wide bs i) (row_in wide bs k)
rows_in_order wide bs n within next i k l inside =
    let e = ordered (width wide) (bases wide bs) (sizes wide bs) n next i k l inside in
    let e1 = first_stored wide bs i (omega (arith, l, inside, within)) in
    let e2 = size_stored wide bs i (omega (arith, l, inside, within)) in
    let e3 = first_stored wide bs k (omega (arith, inside, within)) in
    let e4 = size_stored wide bs k (omega (arith, inside, within)) in
    rw (← e1, ← e2, ← e3, ← e4) e

-- rows that were put stay where only bytes behind them change
pub put_kept : (wide : Bool) (xs ys : List ℕ) (count : ℕ) → ((k : ℕ) → k < put_place wide count → slice_index ys k ≡ slice_index xs k)
    → (k : ℕ) → k < count → put_row_at wide ys k ≡ put_row_at wide xs k
put_kept wide xs ys count same k l =
    row_from_kept wide xs ys 0 (put_place wide count) (put_place wide k) (λ j _ m. same j m) (omega arith) (omega (arith, row_room wide k count l))

-- an item as a function shows it
pub item_shown : {X Y : Type 0} (f : X → Y) (xs : List X) (i : ℕ) (x : X) (d : Y) → i < length xs → x ≡ get_or xs i x → get_or (each f xs) i d ≡ f x
item_shown f xs i x d l is = get_or-map f xs i x d l ∙ ap f (sym is)

-- numbers of bytes that stand elsewhere
module _ (xs ys : List ℕ) (a b s : ℕ) (moved : (k m : ℕ) → a ≤ k → k < a + s → m + a ≡ k + b → slice_index ys m ≡ slice_index xs k) where
  -- one of 4 bytes
  u32_moved : (i p q : ℕ) → p ≡ a + i → q ≡ b + i → i + 4 ≤ s → u32_in ys q ≡ u32_in xs p
  unfolding u32_in
  u32_moved i p q at to le =
      let s0 = moved p q (omega arith) (omega (arith, le)) (omega arith) in
      let s1 = moved (p + 1) (q + 1) (omega arith) (omega (arith, le)) (omega arith) in
      let s2 = moved (p + 2) (q + 2) (omega arith) (omega (arith, le)) (omega arith) in
      let s3 = moved (p + 3) (q + 3) (omega arith) (omega (arith, le)) (omega arith) in
      cc (s0, s1, s2, s3)

  -- and one of 8
  u64_moved : (i p q : ℕ) → p ≡ a + i → q ≡ b + i → i + 8 ≤ s → u64_in ys q ≡ u64_in xs p
  unfolding u64_in
  u64_moved i p q at to le =
      let s0 = moved p q (omega arith) (omega (arith, le)) (omega arith) in
      let s1 = moved (p + 1) (q + 1) (omega arith) (omega (arith, le)) (omega arith) in
      let s2 = moved (p + 2) (q + 2) (omega arith) (omega (arith, le)) (omega arith) in
      let s3 = moved (p + 3) (q + 3) (omega arith) (omega (arith, le)) (omega arith) in
      let s4 = moved (p + 4) (q + 4) (omega arith) (omega (arith, le)) (omega arith) in
      let s5 = moved (p + 5) (q + 5) (omega arith) (omega (arith, le)) (omega arith) in
      let s6 = moved (p + 6) (q + 6) (omega arith) (omega (arith, le)) (omega arith) in
      let s7 = moved (p + 7) (q + 7) (omega arith) (omega (arith, le)) (omega arith) in
      cc (s0, s1, s2, s3, s4, s5, s6, s7)

-- a row whose bytes stand elsewhere is the same
pub row_moved : (wide : Bool) (xs ys : List ℕ) (a b : ℕ) → ((k m : ℕ) → a ≤ k → k < a + row_size wide → m + a ≡ k + b → slice_index ys m ≡ slice_index xs k)
    → row_from wide ys b ≡ row_from wide xs a
row_moved false xs ys a b moved =
    let first = u32_moved xs ys a b 16 moved 0 a b (omega arith) (omega arith) (omega arith) in
    let bits = u32_moved xs ys a b 16 moved 4 (a + 4) (b + 4) refl refl (omega arith) in
    let value = u32_moved xs ys a b 16 moved 12 (a + 12) (b + 12) refl refl (omega arith) in
    cc (first, bits, value)
row_moved true xs ys a b moved =
    let low = u64_moved xs ys a b 32 moved 0 a b (omega arith) (omega arith) (omega arith) in
    let high = u64_moved xs ys a b 32 moved 8 (a + 8) (b + 8) refl refl (omega arith) in
    let bits = u32_moved xs ys a b 32 moved 16 (a + 16) (b + 16) refl refl (omega arith) in
    let value = u64_moved xs ys a b 32 moved 24 (a + 24) (b + 24) refl refl (omega arith) in
    cc (low, high, bits, value)

-- bytes that are put in from a place on are those that they are of
pub copied : (xs ys : List ℕ) (a b len : ℕ) → a + len ≤ length xs → take (length (take len (drop a xs))) (drop b ys) ≡ take len (drop a xs)
    → (k m : ℕ) → a ≤ k → k < a + len → m + a ≡ k + b → slice_index ys m ≡ slice_index xs k
copied xs ys a b len room put k m least most is =
    let all = length-take-le len (drop a xs) (omega (arith, length-drop a xs, room)) in
    let j = k - a in
    let here : b + j ≡ m = omega (arith, is, least) in
    let there : a + j ≡ k = omega (arith, least) in
    ap (λ i. slice_index ys i) (sym here) ∙ sym (get_or-drop b ys j 0) ∙ sym (get_or-take (length (take len (drop a xs))) (drop b ys) j 0 (omega (arith, all, most, least)))
    ∙ ap (λ zs. get_or zs j 0) put ∙ get_or-take len (drop a xs) j 0 (omega (arith, most, least)) ∙ get_or-drop a xs j 0 ∙ ap (λ i. slice_index xs i) there

-- a row stays where another number of its four bytes for a link stands
row_beside : (wide : Bool) (xs ys : List ℕ) (a : ℕ) → ((k : ℕ) → k < a + link_place wide → slice_index ys k ≡ slice_index xs k)
    → ((k : ℕ) → a + link_place wide + 4 ≤ k → slice_index ys k ≡ slice_index xs k) → row_from wide ys a ≡ row_from wide xs a
row_beside false xs ys a before behind =
    let first = u32_kept xs ys a (λ k l m. before k (omega (arith, m))) in
    let bits = u32_kept xs ys (a + 4) (λ k l m. before k (omega (arith, m))) in
    let value = u32_kept xs ys (a + 12) (λ k l m. behind k (omega (arith, l))) in
    cc (first, bits, value)
row_beside true xs ys a before behind =
    let low = u64_kept xs ys a (λ k l m. before k (omega (arith, m))) in
    let high = u64_kept xs ys (a + 8) (λ k l m. before k (omega (arith, m))) in
    let bits = u32_kept xs ys (a + 16) (λ k l m. before k (omega (arith, m))) in
    let value = u64_kept xs ys (a + 24) (λ k l m. behind k (omega (arith, l))) in
    cc (low, high, bits, value)

-- a link lies in its row
link_inside : (wide : Bool) → link_place wide + 4 ≤ row_size wide
link_inside false = omega arith
link_inside true = omega arith

-- what a link's place holds
link_there : (wide : Bool) (bs : List ℕ) (a : ℕ) → link_from wide bs a ≡ u32_in bs (a + link_place wide)
link_there false bs a = refl
link_there true bs a = refl

-- the link of the row at an index is put in
module _ (wide : Bool) (xs ys : List ℕ) (plan : RowPlan) (at p : ℕ) (px : IsRowPlan wide xs plan) (place : plan.rows_at ≡ 112) (inside : at < plan.rows)
    (is : p ≡ plan.rows_at + row_size wide * at + link_place wide) (before : (k : ℕ) → k < p → slice_index ys k ≡ slice_index xs k)
    (behind : (k : ℕ) → p + 4 ≤ k → slice_index ys k ≡ slice_index xs k) (same_length : length ys ≡ length xs) where
  -- the head stays
  pub link_plan : IsRowPlan wide ys plan
  link_plan = plan_kept wide xs ys plan (λ k l. before k (omega (arith, l, is, place))) (let room = px.inside in omega (arith, room, same_length)) px

  -- bytes change in the rows alone
  pub link_change : ChangesWithin 112 (112 + row_size wide * plan.rows) xs ys
  link_change = record {
    before = λ k l. before k (omega (arith, l, is, place));
    behind = λ k l. behind k (omega (arith, l, is, place, link_inside wide, row_room wide at plan.rows inside));
    same_length = same_length;
  }

  -- each row stays
  row_stays : (k : ℕ) → row_in wide ys k ≡ row_in wide xs k
  row_stays k = row_placed wide ys plan k link_plan ∙ elim (three_ways k at) [
    | inl lt ↦ row_from_kept wide xs ys 0 p (plan.rows_at + row_size wide * k) (λ j _ l. before j l) (omega arith) (omega (arith, is, row_room wide k at lt))
    | inr (inl e) ↦ row_beside wide xs ys (plan.rows_at + row_size wide * k) (λ j l. before j (let same = ap (λ n. row_size wide * n) e in omega (arith, l, is, same)))
        (λ j l. behind j (let same = ap (λ n. row_size wide * n) e in omega (arith, l, is, same)))
    | inr (inr gt) ↦ row_from_kept wide xs ys (p + 4) (plan.rows_at + row_size wide * k + row_size wide) (plan.rows_at + row_size wide * k) (λ j l _. behind j l)
        (omega (arith, is, link_inside wide, row_room wide at k gt)) (omega arith)
  ] ∙ sym (row_placed wide xs plan k px)

  -- so all rows are the same
  pub link_rows : image_rows wide ys ≡ image_rows wide xs
  link_rows =
      let py = link_plan in
      ap (λ n. listed (row_in wide ys) n) (sym py.rows) ∙ listed_same (row_in wide ys) (row_in wide xs) plan.rows (λ k l. row_stays k) ∙ ap (λ n. listed (row_in wide xs) n) px.rows

  -- and the links before it
  pub link_others : (k : ℕ) → k < at → link_in wide ys k ≡ link_in wide xs k
  link_others k lt = link_placed wide ys plan k link_plan
      ∙ link_from_kept wide xs ys 0 p (plan.rows_at + row_size wide * k) (λ j _ l. before j l) (omega arith) (omega (arith, is, row_room wide k at lt)) ∙ sym (link_placed wide xs plan k px)

  -- and its own is what was put
  pub link_own : (link : ℕ) → u32_in ys p ≡ link → link_in wide ys at ≡ link
  link_own link put = link_placed wide ys plan at link_plan ∙ link_there wide ys (plan.rows_at + row_size wide * at) ∙ ap (λ n. u32_in ys n) (sym is) ∙ put

-- more rows have as many digits or more
length_grows : (a b : ℕ) → a ≤ b → b < 2 ^ 64 → 64 - leading_zeros w64 a ≤ 64 - leading_zeros w64 b
length_grows a b le fits =
    let x = leading_length 64 a (omega (arith, le, fits)) in
    let y = leading_length 64 b fits in
    let xs = x.1 in
    let ys = y.1 in
    let from = x.3 in
    let to = y.2 in
    elim (cases_lt y.0 x.0) [
      | inl lt ↦ let up : 2 ^ suc y.0 ≤ 2 ^ x.0 = pow_mono (omega (arith, lt)) in absurd (omega (arith, up, from, to, le))
      | inr ge ↦ omega (arith, xs, ys, ge)
    ]

bits_grow : (a b : ℕ) → a ≤ b → b < 2 ^ 64 → cell_bits a ≤ cell_bits b
unfolding cell_bits
bits_grow a b le fits = omega (arith, length_grows a b le fits)

bits_most : (a : ℕ) → cell_bits a ≤ 21
unfolding cell_bits
bits_most a = omega arith

-- and as many cells or more, but from 2^31 on
cells_grow : (a b : ℕ) → a ≤ b → most_cells a ≤ most_cells b + (if nat_lt b (2 ^ 31) then 0 else 2 ^ 21)
cells_grow a b le = elim (cases_lt b (2 ^ 31)) [
  | inl lt ↦
      let up : 2 ^ cell_bits a ≤ 2 ^ cell_bits b = pow_mono (bits_grow a b le (omega (arith, lt))) in
      grind (arith, nat_tests)
  | inr ge ↦
      let up : 2 ^ cell_bits a ≤ 2 ^ 21 = pow_mono (bits_most a) in
      grind (arith, nat_tests)
]

-- so an image of no more rows fits
pub size_fits : (wide : Bool) (a b payload : ℕ) → a ≤ b → image_size wide a payload ≤ merged_size wide b payload
size_fits wide a b payload le =
    let cells = cells_grow a b le in
    let rows = mul-le (row_size wide) a (row_size wide) b (omega arith) le in
    let spans = mul-le (most_span wide) (2 * a + 1) (most_span wide) (2 * b + 1) (omega arith) (omega (arith, le)) in
    elim (cases_lt b (2 ^ 31)) [
      | inl lt ↦ grind (arith, nat_tests)
      | inr ge ↦ grind (arith, nat_tests)
    ]

-- a row whose network is one
base_of : (w : ℕ) (f b : ℕ) (r : Net ℕ × ℕ) → f ≡ r.0.base → b ≡ r.0.bits → IsBase w b f → IsBase w r.0.bits r.0.base
base_of w f b r first bits base = subst (λ x. IsBase w r.0.bits x) first (subst (λ y. IsBase w y f) bits base)

-- rows that were put stay where the head is put in
pub head_rows : (wide : Bool) (xs ys : List ℕ) (plan : RowPlan) → plan.rows_at ≡ 112 → IsRowPlan wide ys plan → ((k : ℕ) → 40 ≤ k → slice_index ys k ≡ slice_index xs k)
    → (k : ℕ) → k < plan.rows → row_in wide ys k ≡ put_row_at wide xs k
head_rows wide xs ys plan place of same k l =
    row_placed wide ys plan k of ∙ row_from_kept wide xs ys 40 (plan.rows_at + row_size wide * k + row_size wide) (plan.rows_at + row_size wide * k) (λ j m _. same j m)
    (omega (arith, place)) (omega arith) ∙ ap (λ p. row_from wide xs (p + row_size wide * k)) place

-- merged rows stand in bytes
module _ (wide : Bool) (image b1 b2 : List ℕ) (count : ℕ) (same : (k : ℕ) → k < count → row_in wide b2 k ≡ put_row_at wide b1 k) (counted : count ≡ row_count b2) where
  -- each is of a network, and comes after the one before it
  module _ (n c : ℕ) (rows : List (Net ℕ × ℕ)) (gone : ℕ → Bool) (within : n ≤ row_count image) (all : c ≡ length rows)
      (next : (k : ℕ) → k < n → IsNext (width wide) (bases wide image) (sizes wide image) k) (rising : AreRowsInOrder (width wide) (λ m. m) rows)
      (merged : AreMerged (row_in wide image) (row_at rows) gone (put_row_at wide b1) n c count) where
    merged_base : (k : ℕ) → k < count → IsBase (width wide) (put_row_at wide b1 k).0.bits (put_row_at wide b1 k).0.base
    merged_base k l = elim (merged.from k l) [
      | inl of ↦
          let inside = of.1 in
          base_of (width wide) _ _ (put_row_at wide b1 k) (row_number (λ r. r.0.base) rows of.0 refl ∙ ap (λ r. r.0.base) (sym of.3))
          (row_number (λ r. r.0.bits) rows of.0 refl ∙ ap (λ r. r.0.bits) (sym of.3)) (rising.bases of.0 (omega (arith, inside, all, length-map rows (λ r. r.0.base))))
      | inr of ↦
          let inside = of.1 in
          base_of (width wide) _ _ (put_row_at wide b1 k) (first_stored wide image of.0 (omega (arith, inside, within)) ∙ ap (λ r. r.0.base) (sym of.2))
          (size_stored wide image of.0 (omega (arith, inside, within)) ∙ ap (λ r. r.0.bits) (sym of.2)) (next of.0 inside).base
    ]

    pub merged_next : (k : ℕ) → k < count → IsNext (width wide) (bases wide b2) (sizes wide b2) k
    merged_next k l =
        let first = λ (j : ℕ) (m : j < count). first_stored wide b2 j (omega (arith, m, counted)) ∙ ap (λ r. r.0.base) (same j m) in
        let bits = λ (j : ℕ) (m : j < count). size_stored wide b2 j (omega (arith, m, counted)) ∙ ap (λ r. r.0.bits) (same j m) in
        next_by (width wide) (bases wide b2) (sizes wide b2) k _ _ (first k l) (bits k l) (merged_base k l)
        (λ some. let before : k - 1 < count = omega (arith, l) in
        before_from _ _ _ _ (put_row_at wide b1 (k - 1)) (put_row_at wide b1 k) (first (k - 1) before) (bits (k - 1) before) refl refl (merged.rising (k - 1) k (omega (arith, some)) l))

-- what is listed of a function has what it gives
listed_has : {X : Type 0} (f : ℕ → X) (n k : ℕ) (x : X) → k < n → f k ≡ x → Contains (listed f n) x
listed_has f n k x l is = (k, omega (arith, l, length-listed f n), get_or_from_slice_get (listed f n) k x x (listed_at f n k l ∙ ap (λ y. Some y) is))

-- and nothing else
has_listed : {X : Type 0} (f : ℕ → X) (n : ℕ) (x : X) → Contains (listed f n) x → (k : ℕ) × (k < n) × (f k ≡ x)
has_listed f n x has =
    let l = has.1 in
    let inside : has.0 < n = omega (arith, l, length-listed f n) in
    (has.0, inside, sym (get_or_from_slice_get (listed f n) has.0 (f has.0) x (listed_at f n has.0 inside)) ∙ has.2)

-- an item at an index
item_at : {X : Type 0} (xs : List X) (i : ℕ) → i < length xs → (x : X) × (get_or xs i x ≡ x)
item_at [] i l = absurd (omega (arith, l))
item_at (x ∷ xs) zero l = (x, refl)
item_at (x ∷ xs) (suc i) l = item_at xs i (omega (arith, l))

-- merged rows are what the changes make of the old ones
pub rows_after : {C : Type 0} (shown : C → Net ℕ × ℕ) (removes : C → Bool) (changes : List C) (wide : Bool) (image b1 b2 : List ℕ) (count : ℕ)
    → AreMerged (row_in wide image) (row_at (each shown changes)) (gone_at (each removes changes)) (put_row_at wide b1) (row_count image) (length changes) count
    → ((k : ℕ) → k < count → row_in wide b2 k ≡ put_row_at wide b1 k) → count ≡ row_count b2 → AreRowsAfter shown removes changes (image_rows wide image) (image_rows wide b2)
rows_after shown removes changes wide image b1 b2 count merged same counted = λ r. (
  λ has.
      let at = has_listed (row_in wide b2) (row_count b2) r has in
      let l = at.1 in
      let inside : at.0 < count = omega (arith, l, counted) in
      let is = sym (same at.0 inside) ∙ at.2 in
      elim (merged.from at.0 inside) [
        | inl of ↦
            let item = item_at changes of.0 of.1 in
            inl (
              item.0,
              (of.0, of.1, item.1),
              sym (item_shown removes changes of.0 item.0 false of.1 (sym item.1)) ∙ of.2,
              sym (item_shown shown changes of.0 item.0 no_row of.1 (sym item.1)) ∙ sym of.3 ∙ is,
            )
        | inr of ↦ inr (
          listed_has (row_in wide image) (row_count image) of.0 r of.1 (sym of.2 ∙ is),
          λ named. of.3 named.1.0 named.1.1 (ap (λ x. x.0) (item_shown shown changes named.1.0 named.0 no_row named.1.1 (sym named.1.2)) ∙ named.2 ∙ ap (λ x. x.0) (sym is ∙ of.2)),
        )
      ],
  λ of. elim of [
    | inl given ↦
        let j = given.1.0 in
        let inside = given.1.1 in
        let own = item_shown shown changes j given.0 no_row inside (sym given.1.2) in
        let among = merged.given j inside (item_shown removes changes j given.0 false inside (sym given.1.2) ∙ given.2) in
        let l = among.1 in
        listed_has (row_in wide b2) (row_count b2) among.0 r (omega (arith, l, counted)) (same among.0 l ∙ among.2 ∙ own ∙ given.3)
    | inr kept ↦
        let at = has_listed (row_in wide image) (row_count image) r kept.0 in
        let among = merged.kept at.0 at.1 (λ j inside e.
        let item = item_at changes j inside in
        kept.1 (item.0, (j, inside, item.1), ap (λ x. x.0) (sym (item_shown shown changes j item.0 no_row inside (sym item.1))) ∙ e ∙ ap (λ x. x.0) at.2)) in
        let l = among.1 in
        listed_has (row_in wide b2) (row_count b2) among.0 r (omega (arith, l, counted)) (same among.0 l ∙ among.2 ∙ at.2)
  ],
)

-- bytes that are none have no rows
pub no_rows : (wide : Bool) → IsRowPlan wide [] (record { rows = 0; rows_at = 0 })
unfolding u32_in u64_in
no_rows false = record { rows = refl; few = omega arith; rows_at = refl; inside = omega arith }
no_rows true = record { rows = refl; few = omega arith; rows_at = refl; inside = omega arith }

-- of more rows and changes there are as many bytes or more
pub merged_grows : (wide : Bool) (a b payload : ℕ) → a ≤ b → merged_size wide a payload ≤ merged_size wide b payload
merged_grows wide a b payload le = elim (cases_lt a (2 ^ 31)) [
  | inl lt ↦ let fits = size_fits wide a b payload le in grind (arith, nat_tests)
  | inr ge ↦
      let rows = mul-le (row_size wide) a (row_size wide) b (omega arith) le in
      let spans = mul-le (most_span wide) (2 * a + 1) (most_span wide) (2 * b + 1) (omega arith) (omega (arith, le)) in
      grind (arith, nat_tests)
]
