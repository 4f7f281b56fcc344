-- Blocks of heads: what heads tell of a search, and parts of blocks.
use Rattle.std.proofs.Common.{◌≡◌, ℕ, suc, ◌+◌, ◌-◌, ◌*◌, ◌%◌, ◌<◌, ◌≤◌, Bool, true, false, List, ◌++◌, length, take, drop, get_or, refl, sym, ap, subst, ◌∙◌, arith}
use Rattle.std.proofs.Math.Nat.{add-mul, mul-le-mul_right, suc-mul}
use Rattle.std.proofs.Math.Seq.{take-add}
use Rattle.std.proofs.lemmas.List.{get_or-drop, get_or-take, length-drop, length-take}
use Rattle.nibble_map.specs.Lists.{IsBefore, IsRising}
use Rattle.encoded_keys.specs.Blocks.{IsBlock}
use Rattle.encoded_keys.specs.Codes.{code_at, is_in_front}
use Rattle.encoded_keys.specs.Heads.{AreNibbles, bound_of, head_behind, head_in}
use Rattle.encoded_keys.proofs.CodeLemmas.Behind.{front_behind, same_behind}
use Rattle.encoded_keys.proofs.CodeLemmas.Heads.{bound_of_long, same_by_head, taken_by_head}
use Rattle.encoded_keys.proofs.CodeLemmas.Parts.{fails_after, passes_before, rising_at}
use Rattle.encoded_keys.proofs.CodeLemmas.Sides.{behind_by_more, front_by_less, front_passes_down, plain_bound, side_of_short}

-- nibbles behind others are nibbles
pub nibbles_behind : (n : ℕ) (c : List ℕ) → ((k : ℕ) → get_or c k 0 < 16) → AreNibbles 15 (drop n c)
nibbles_behind n c h = λ k l. subst (λ x. x < 16) (sym (get_or-drop n c k 0)) (h (n + k))

-- what a search compares with counts 15 nibbles, where it doesn't tell which list is the searched one or which begin with it
long_bound : (t : Bool) (q : List ℕ) → (t ≡ true → 15 < length q) → (t ≡ false → 15 ≤ bound_of t q % 16) → (15 ≤ length q) × (bound_of t q ≡ head_in q)
long_bound true q long full = (let l = long refl in omega (arith, l), let l = long refl in sym (bound_of_long true q (omega (arith, l))) ∙ bound_of_long false q (omega (arith, l)))
long_bound false q long full = (let l = full refl in omega (arith, l), refl)

module _ (t : Bool) (n : ℕ) (c q : List ℕ) (same : take n c ≡ take n q) (long : n ≤ length q) where
  -- heads behind what two lists share that differ tell the side
  pub front_by_lower : AreNibbles 15 (drop n q) → head_in (drop n c) < bound_of t (drop n q) → is_in_front t q c ≡ true
  front_by_lower k lt = sym (front_behind t n c q same long) ∙ front_by_less t (drop n c) (drop n q) k lt

  pub behind_by_higher : AreNibbles 15 (drop n c) → bound_of t (drop n q) < head_in (drop n c) → is_in_front t q c ≡ false
  behind_by_higher h lt = sym (front_behind t n c q same long) ∙ behind_by_more t (drop n c) (drop n q) h lt

  -- of a search through a list, of which 15 nibbles at most are left, those with the same head are in front
  pub front_of_few : AreNibbles 15 (drop n q) → t ≡ true → length q - n ≤ 15 → head_in (drop n c) ≤ bound_of t (drop n q) → is_in_front t q c ≡ true
  front_of_few k through few le =
      sym (front_behind t n c q same long) ∙ sym (side_of_short t (drop n c) (drop n q) through (omega (arith, few, length-drop n q)) k le)

  module _ (h : AreNibbles 15 (drop n c)) (k : AreNibbles 15 (drop n q)) where
    -- a head that counts fewer than 15 nibbles tells the list
    pub same_of_told : t ≡ false → head_in (drop n c) ≡ bound_of t (drop n q) → head_in (drop n c) % 16 < 15 → c ≡ q
    same_of_told plain e few = same_behind n c q same (same_by_head (drop n c) (drop n q) h k (e ∙ plain_bound t (drop n q) plain) few)

    -- and one that counts 15 of them that they agree in so many more
    pub same_in_more : head_in (drop n c) ≡ bound_of t (drop n q) → (t ≡ true → 15 < length q - n) → (t ≡ false → 15 ≤ bound_of t (drop n q) % 16)
        → (n + 15 ≤ length q) × (take (n + 15) c ≡ take (n + 15) q)
    same_in_more e many full =
        let bound = long_bound t (drop n q) (λ s. let m = many s in omega (arith, m, length-drop n q)) full in (
          omega (arith, bound.0, length-drop n q),
          take-add n 15 c ∙ ap (λ l. l ++ take 15 (drop n c)) same ∙ ap (λ l. take n q ++ l) (taken_by_head (drop n c) (drop n q) h k (e ∙ bound.1)) ∙ sym (take-add n 15 q),
        )

-- how many items a part has
pub part_length : (xs : List ℕ) (c d : ℕ) → d ≤ length xs → length (take (d - c) (drop c xs)) ≡ d - c
part_length xs c d most = omega (arith, length-take (d - c) (drop c xs), length-drop c xs, most)

-- the j-th of the lists from the c-th on
pub shifted : (first step c j : ℕ) → first + c * step + j * step ≡ first + (c + j) * step
shifted first step c j = omega (arith, add-mul c j step)

-- the list at an index of a block
abbrev pub code_in : List (List ℕ) → (first step i : ℕ) → List ℕ
code_in cs first step i = code_at cs (first + i * step)

module _ (cs : List (List ℕ)) (rises : IsRising cs) (hs : List ℕ) (first step n : ℕ) (block : IsBlock cs hs first step n) where
  -- later ones stand later
  later : (i j : ℕ) → i < j → first + i * step < first + j * step
  later i j l = let more : suc i * step ≤ j * step = mul-le-mul_right step l in omega (arith, more, suc-mul i step, block.apart)

  later_or_there : (i j : ℕ) → i ≤ j → first + i * step ≤ first + j * step
  later_or_there i j l = let more : i * step ≤ j * step = mul-le-mul_right step l in omega (arith, more)

  -- so they rise
  pub block_rises : (i j : ℕ) → i < j → j < length hs → IsBefore (code_in cs first step i) (code_in cs first step j)
  block_rises i j l within = rising_at cs rises _ _ (later i j l) (block.within j within)

  -- where one comes in front each earlier one does
  pub front_up_to : (t : Bool) (q : List ℕ) (m : ℕ) → m < length hs → is_in_front t q (code_in cs first step m) ≡ true
      → (i : ℕ) → i < m + 1 → is_in_front t q (code_in cs first step i) ≡ true
  front_up_to t q m within h i l =
      let le = later_or_there i m (omega (arith, l)) in
      passes_before (is_in_front t q) (front_passes_down t q) cs rises (first + m * step) (block.within m within) h (first + i * step) (omega (arith, le))

  -- and where one doesn't no later one does
  pub behind_from : (t : Bool) (q : List ℕ) (m : ℕ) → is_in_front t q (code_in cs first step m) ≡ false
      → (i : ℕ) → m ≤ i → i < length hs → is_in_front t q (code_in cs first step i) ≡ false
  behind_from t q m h i l within =
      fails_after (is_in_front t q) (front_passes_down t q) cs rises (first + m * step) h (first + i * step) (later_or_there m i l) (block.within i within)

  -- a part of a block is a block
  pub block_part : (c d : ℕ) → c ≤ d → d ≤ length hs → IsBlock cs (take (d - c) (drop c hs)) (first + c * step) step n
  block_part c d order most =
      let count = part_length hs c d most in
      record {
        nibbles = block.nibbles;
        counted = block.counted;
        apart = block.apart;
        near = block.near;
        within = λ j l. subst (λ i. i < length cs) (sym (shifted first step c j)) (block.within (c + j) (omega (arith, l, count, order, most)));
        heads = λ j l.
            get_or-take (d - c) (drop c hs) j 0 (omega (arith, l, count)) ∙ get_or-drop c hs j 0 ∙ block.heads (c + j) (omega (arith, l, count, order, most))
            ∙ ap (λ i. head_behind n (code_at cs i)) (sym (shifted first step c j));
      }
