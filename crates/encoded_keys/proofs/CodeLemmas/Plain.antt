-- Heads that skip nothing.
use Rattle.std.proofs.Common.{◌≡◌, ℕ, ◌+◌, ◌-◌, ◌*◌, ◌^◌, ◌<◌, ◌≤◌, inl, inr, Bool, true, false, List, [], length, take, drop, get_or, refl, ap, subst, ◌∙◌, arith}
use Rattle.std.specs.List.Sorted.{IsNonDecreasing}
use Rattle.std.proofs.lemmas.Bool.{cases_lt}
use Rattle.std.proofs.lemmas.List.{get_or-drop, get_or-take, length-drop, length-take}
use Rattle.std.proofs.lemmas.List.Sorted.{IsNonDecreasingBy-from_default}
use Rattle.nibble_map.specs.Lists.{IsRising}
use Rattle.encoded_keys.specs.Blocks.{IsBlock, IsLevel, IsSharedBy}
use Rattle.encoded_keys.specs.Codes.{code_at, is_in_front, IsCut}
use Rattle.encoded_keys.specs.Heads.{AreNibbles, bound_of, head_behind, head_in}
use Rattle.encoded_keys.proofs.CodeLemmas.Heads.{heads_rise}
use Rattle.encoded_keys.proofs.CodeLemmas.Sides.{behind_by_more, front_by_less, plain_bound}

module _ (cs : List (List ℕ)) (hs : List ℕ) (level : IsLevel cs 1 hs []) where
  -- as many heads as lists
  pub plain_many : length hs ≡ length cs
  plain_many = omega (arith, level.many, level.rest)

  -- the head at an index is that of the list there
  pub plain_at : (k : ℕ) → k < length cs → get_or hs k 0 ≡ head_in (code_at cs k)
  plain_at k l = let back : 1 * (k + 1) - 1 ≡ k = omega arith in level.heads k (omega (arith, l, plain_many)) ∙ ap (λ i. head_in (code_at cs i)) back

  -- heads of rising lists don't fall
  pub plain_rise : IsRising cs → IsNonDecreasing hs
  plain_rise rises = IsNonDecreasingBy-from_default (λ n. n) hs 0 (heads_rise cs hs rises (λ i l k m. level.nibbles i k) plain_many plain_at)

  module _ (from to : ℕ) (order : from ≤ to) (within : to ≤ length hs) where
    abbrev heads_between : List ℕ
    heads_between = take (to - from) (drop from hs)

    pub between_length : length heads_between ≡ to - from
    between_length = omega (arith, length-take (to - from) (drop from hs), length-drop from hs, within, order)

    -- some of them are a block
    pub plain_block : length cs < 2 ^ 64 → IsBlock cs heads_between from 1 0
    plain_block counted = record {
      nibbles = level.nibbles;
      counted = counted;
      apart = omega arith;
      near = omega arith;
      within = λ j l. omega (arith, l, between_length, plain_many, within);
      heads = λ j l.
          let one : from + j ≡ from + j * 1 = omega arith in
          get_or-take (to - from) (drop from hs) j 0 (omega (arith, l, between_length)) ∙ get_or-drop from hs j 0
          ∙ plain_at (from + j) (omega (arith, l, between_length, plain_many, within)) ∙ ap (λ i. head_behind 0 (code_at cs i)) one;
    }

    -- which skips nothing
    pub plain_shared : (count : ℕ) (q : List ℕ) → IsSharedBy cs count from 1 0 q
    plain_shared count q = record { long = omega arith; same = λ j l. refl }

    module _ (t : Bool) (q : List ℕ) (nibbles : AreNibbles 15 q)
        (below : (k : ℕ) → k < from → get_or hs k 0 < bound_of t q)
        (above : (k : ℕ) → to ≤ k → k < length hs → bound_of t q < get_or hs k 0)
        (count : ℕ) (few : count ≤ length heads_between) where
      -- what a search in the block says of it, the heads say of all others
      pub plain_cut : ((i : ℕ) → i < count → is_in_front t q (code_at cs (from + i * 1)) ≡ true)
          → ((i : ℕ) → count ≤ i → i < length heads_between → is_in_front t q (code_at cs (from + i * 1)) ≡ false)
          → IsCut (is_in_front t q) cs (from + count)
      plain_cut front behind = record {
        within = omega (arith, few, between_length, within, order, plain_many);
        before = λ k l. elim (cases_lt k from) [
          | inl lt ↦ front_by_less t (code_at cs k) q nibbles (omega (arith, below k lt, plain_at k (omega (arith, lt, order, within, plain_many))))
          | inr ge ↦ let at : from + (k - from) * 1 ≡ k = omega (arith, ge) in subst (λ i. is_in_front t q (code_at cs i) ≡ true) at (front (k - from) (omega (arith, l, ge)))
        ];
        after = λ k l m. elim (cases_lt k to) [
          | inl lt ↦ let at : from + (k - from) * 1 ≡ k = omega (arith, l) in
              subst (λ i. is_in_front t q (code_at cs i) ≡ false) at (behind (k - from) (omega (arith, l)) (omega (arith, l, lt, between_length)))
          | inr ge ↦ behind_by_more t (code_at cs k) q (λ i n. level.nibbles k i) (omega (arith, above k ge (omega (arith, m, plain_many)), plain_at k m))
        ];
      }

      -- and that no list is the searched one
      pub plain_apart : t ≡ false → (count < length heads_between → code_at cs (from + count * 1) ≡ q → ⊥) → from + count < length cs → code_at cs (from + count) ≡ q → ⊥
      plain_apart plain apart inside e = elim (cases_lt count (length heads_between)) [
        | inl lt ↦ apart lt (let one : from + count * 1 ≡ from + count = omega arith in ap (code_at cs) one ∙ e)
        | inr ge ↦
            let more = above (from + count) (omega (arith, ge, few, between_length, order)) (omega (arith, inside, plain_many)) in
            omega (arith, more, plain_at (from + count) inside, ap head_in e, plain_bound t q plain)
      ]
