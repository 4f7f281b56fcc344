-- What is known at each value of the first bits.
use Rattle.std.proofs.Common.{◌≡◌, ℕ, zero, suc, ◌+◌, ◌-◌, ◌*◌, ◌/◌, ◌^◌, ◌<◌, ◌≤◌, ◌⊎◌, ◌++◌, [], ◌∷◌, inl, inr, Some, List, length, ap, refl, sym, subst, ◌∙◌, arith, get_or, slice_get, add-mul, one-mul}
use Rattle.std.proofs.lemmas.Bool.{cases_lt}
use Rattle.std.proofs.lemmas.List.{get_or_append_left, length-append}
use Rattle.std.proofs.lemmas.Nat.{mod_below, mul-le, pow-add, pow_pos, shr_split}
use Rattle.std.proofs.Math.Nat.{mul-div_cancel, mul-mod_left}
use Rattle.std.proofs.Math.Seq.{get_or-append_seam}
use Rattle.radix_keys.specs.Networks.{AgreeIn}
use Rattle.frozen_routes.specs.declared.directory.Cell.{Cell}
use Rattle.frozen_routes.specs.Routes.{AreRising, AreTopCells, AreUppers, IsFirstTop, IsHolderAt, IsLastHolder, IsTopCell}
use Rattle.sorted_tables.proofs.TableLemmas.Links.{last_of_same, parted_in_order}
use Rattle.frozen_routes.proofs.RouteLemmas.Blocks.{coarser, finer, sandwich, start_is_least}

-- the next block begins behind this one
pub next_block : (q e : ℕ) → (q + 1) * 2 ^ e ≡ q * 2 ^ e + 2 ^ e
next_block q e = omega (arith, add-mul q 1 (2 ^ e), one-mul (2 ^ e))

-- a number of an earlier block is below a block
pub quotient_less : (f t e : ℕ) → f / 2 ^ e < t → f < t * 2 ^ e
quotient_less f t e h =
    omega (arith, shr_split f e, mod_below f (2 ^ e) (pow_pos e), mul-le (f / 2 ^ e + 1) (2 ^ e) t (2 ^ e) (omega (arith, h)) (omega arith), next_block (f / 2 ^ e) e)

-- and one of another block isn't
pub quotient_most : (f t e : ℕ) → t ≤ f / 2 ^ e → t * 2 ^ e ≤ f
quotient_most f t e h = omega (arith, shr_split f e, mul-le t (2 ^ e) (f / 2 ^ e) (2 ^ e) h (omega arith))

-- so many numbers are the blocks of a power of two
pub whole_power : (w k : ℕ) → k ≤ w → 2 ^ k * 2 ^ (w - k) ≡ 2 ^ w
whole_power w k le = let whole : k + (w - k) ≡ w = omega (arith, le) in sym (pow-add 2 k (w - k)) ∙ ap (λ n. 2 ^ n) whole

-- those before the block of a number begin at or before it
pub top_below : (e : ℕ) (fs : List ℕ) (a t n k : ℕ) → IsFirstTop e fs t n → t ≡ a / 2 ^ e → k < n → get_or fs k 0 ≤ a
top_below e fs a t n k top is l =
    let below = top.before k l in
    let start = quotient_most a t e (omega (arith, is)) in
    omega (arith, below, start)

-- and those of the next block behind it
pub top_above : (e : ℕ) (fs : List ℕ) (a t n k : ℕ) → IsFirstTop e fs (t + 1) n → t ≡ a / 2 ^ e → n ≤ k → k < length fs → a < get_or fs k 0
top_above e fs a t n k top is l m =
    let after = top.after k l m in
    let end = quotient_less a (t + 1) e (omega (arith, is)) in
    omega (arith, after, end)

-- no fewer come before the next block
pub top_order : (e : ℕ) (fs : List ℕ) (t m n : ℕ) → IsFirstTop e fs t m → IsFirstTop e fs (t + 1) n → m ≤ n
top_order e fs t m n x y = parted_in_order _ _ _ _ (length fs) m n (λ k p q. omega (arith, p, q, next_block t e)) x y

-- those before a block come before the next one
pub before_next : (e : ℕ) (fs : List ℕ) (t n : ℕ) → IsFirstTop e fs t n → (k : ℕ) → k < n → get_or fs k 0 < (t + 1) * 2 ^ e
before_next e fs t n top k l = let below = top.before k l in omega (arith, below, next_block t e)

-- a network that begins before a block and holds the block's first number holds each of its numbers
whole_block : (w k m t e a : ℕ) → m < t * 2 ^ e → t ≡ a / 2 ^ e → AgreeIn w k m (t * 2 ^ e) → AgreeIn w k m a
whole_block w k m t e a before is holds = elim (cases_lt e (w - k)) [
  | inl lt ↦ holds ∙ coarser (t * 2 ^ e) a e (w - k) (omega (arith, lt)) (mul-div_cancel t (pow_pos e) ∙ is)
  | inr le ↦
      let none = finer (t * 2 ^ e) (w - k) e le (mul-mod_left t (2 ^ e)) in
      let same = start_is_least m (t * 2 ^ e) (w - k) (omega (arith, before)) none holds in
      absurd (omega (arith, before, same))
]

-- so the last holder of a block's first number is that of each of its numbers
pub top_around : (e w : ℕ) (fs bs : List ℕ) (t a : ℕ) (cell : Cell) → IsTopCell e w fs bs t cell → t ≡ a / 2 ^ e → IsLastHolder w fs bs cell.count a cell.around
top_around e w fs bs t a cell top is = last_of_same (IsHolderAt w fs bs (t * 2 ^ e)) (IsHolderAt w fs bs a) cell.count cell.around (λ k l.
    let below = top.count.before k l in (
      whole_block w _ _ t e a below is,
      sandwich (get_or fs k 0) (t * 2 ^ e) a (w - get_or bs k 0) (omega (arith, below)) (quotient_most a t e (omega (arith, is))),
    )) top.around

-- a number is of fewer blocks than its bits count
pub fewer_blocks : (w k m : ℕ) → k ≤ w → m < 2 ^ w → m / 2 ^ (w - k) < 2 ^ k
fewer_blocks w k m le few = elim (cases_lt (m / 2 ^ (w - k)) (2 ^ k)) [
  | inl lt ↦ lt
  | inr ge ↦
      let most = quotient_most m (2 ^ k) (w - k) ge in
      absurd (omega (arith, most, few, whole_power w k le))
]

-- no network holds a number behind the last address
pub none_behind : (w : ℕ) (fs bs : List ℕ) (n a : ℕ) → AreRising w fs bs → n ≤ length fs → 2 ^ w ≤ a → IsLastHolder w fs bs n a 0
none_behind w fs bs n a rising within behind = record {
  within = omega arith;
  holds = λ some. absurd (omega (arith, some));
  none = λ k l m p.
      let base = rising.bases k (omega (arith, m, within)) in
      let size = get_or bs k 0 in
      let few = fewer_blocks w size (get_or fs k 0) base.1 base.0 in
      let less = quotient_less a (2 ^ size) (w - size) (omega (arith, few, p)) in
      absurd (omega (arith, less, behind, whole_power w size base.1));
}

-- no table says anything
pub no_cells : (e w : ℕ) (fs bs : List ℕ) (cells : List Cell) → e < 128 → cells ≡ [] → AreTopCells e w fs bs cells
no_cells e w fs bs cells few none = record {
  shift = few;
  cells = λ t cell at. absurd (let no = subst (λ cs. slice_get cs t ≡ Some cell) none at in cc no);
}

-- what is stored in a list and one more
stored_more : {X : Type 0} (xs : List X) (x : X) (i : ℕ) (y : X) → slice_get (xs ++ x ∷ []) i ≡ Some y → (slice_get xs i ≡ Some y) ⊎ ((i ≡ length xs) × (x ≡ y))
stored_more [] x zero y at = inr (refl, cc at)
stored_more [] x (suc i) y at = absurd (cc at)
stored_more (z ∷ zs) x zero y at = inl at
stored_more (z ∷ zs) x (suc i) y at = elim (stored_more zs x i y at) [
  | inl h ↦ inl h
  | inr h ↦ let same = h.0 in inr (omega (arith, same), h.1)
]

-- one more of the table
pub cells_more : (e w : ℕ) (fs bs : List ℕ) (cells more : List Cell) (t : ℕ) (cell : Cell) → AreTopCells e w fs bs cells → length cells ≡ t
    → IsTopCell e w fs bs t cell → more ≡ cells ++ cell ∷ [] → (length more ≡ t + 1) × AreTopCells e w fs bs more
cells_more e w fs bs cells more t cell directory many top is =
    let long = ap length is in (
      omega (arith, long, length-append cells (cell ∷ []), many),
      record {
        shift = directory.shift;
        cells = λ s c at. elim (stored_more cells cell s c (subst (λ cs. slice_get cs s ≡ Some c) is at)) [
          | inl h ↦ directory.cells s c h
          | inr h ↦ subst (λ k. IsTopCell e w fs bs k c) (sym (h.0 ∙ many)) (subst (IsTopCell e w fs bs t) h.1 top)
        ];
      },
    )

-- one more of the upper halves
pub uppers_more : (fs us more : List ℕ) (i f : ℕ) → AreUppers fs us → length us ≡ i → f ≡ get_or fs i 0 → more ≡ us ++ (f / 2 ^ 64) ∷ [] → (length more ≡ i + 1) × AreUppers fs more
uppers_more fs us more i f kept many first is =
    let long = ap length is in
    let all : length more ≡ i + 1 = omega (arith, long, length-append us ((f / 2 ^ 64) ∷ []), many) in (
      all,
      λ k l. ap (λ vs. get_or vs k 0) is ∙ elim (cases_lt k i) [
        | inl lt ↦ get_or_append_left us ((f / 2 ^ 64) ∷ []) 0 k (omega (arith, lt, many)) ∙ kept k (omega (arith, lt, many))
        | inr ge ↦
            let same : i ≡ k = omega (arith, l, all, ge) in
            subst (λ j. get_or (us ++ (f / 2 ^ 64) ∷ []) j 0 ≡ get_or fs j 0 / 2 ^ 64) same
            (ap (λ j. get_or (us ++ (f / 2 ^ 64) ∷ []) j 0) (sym many) ∙ get_or-append_seam us (f / 2 ^ 64) [] 0 ∙ ap (λ n. n / 2 ^ 64) first)
      ],
    )
