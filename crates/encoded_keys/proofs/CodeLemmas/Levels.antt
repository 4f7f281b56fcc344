-- One level down: from a block of which each head stands for S lists to the S lists of one head.
use Rattle.std.proofs.Common.{◌≡◌, ℕ, zero, suc, ◌+◌, ◌-◌, ◌*◌, ◌/◌, ◌^◌, ◌<◌, ◌≤◌, inl, inr, Bool, true, false, List, length, take, drop, get_or, min, refl, sym, ap, subst, ◌∙◌, arith}
use Rattle.std.proofs.Math.Nat.{mul-le-mul_left, mul-suc, mul_assoc, mul_comm}
use Rattle.std.proofs.lemmas.Bool.{cases_eq, cases_lt}
use Rattle.std.proofs.lemmas.List.{get_or-drop, get_or-take, length-drop, length-take, take-append-le, take_all}
use Rattle.nibble_map.specs.Lists.{IsBefore, IsPrefix, IsRising}
use Rattle.nibble_map.proofs.ListLemmas.Parted.{prefix_itself}
use Rattle.encoded_keys.specs.Blocks.{AreFurther, AreHeads, IsAround, IsBlock, IsCounted, IsEndOf, IsLevel, IsLocated, IsSharedBy, IsSoughtIn}
use Rattle.encoded_keys.specs.Codes.{code_at, is_in_front, IsCut}
use Rattle.encoded_keys.specs.Heads.{AreNibbles, bound_of, head_behind}
use Rattle.encoded_keys.proofs.CodeLemmas.Links.{prefix_is_taken}
use Rattle.encoded_keys.proofs.CodeLemmas.Order.{before_by_test, before_passes, until_by_before, until_by_prefix, until_by_test, which_before}
use Rattle.encoded_keys.proofs.CodeLemmas.Parts.{fails_after, passes_before, rising_at}
use Rattle.encoded_keys.proofs.CodeLemmas.Sides.{agree_less, begun, between_agrees, front_passes_down, side_of_begun}

-- so many times a sum
times_plus : (S m k : ℕ) → S * (m + k) ≡ S * m + S * k
times_plus S m zero = let none : m + 0 ≡ m = omega arith in let e = ap (λ x. S * x) none in omega (arith, e)
times_plus S m (suc k) =
    let next : m + suc k ≡ suc (m + k) = omega arith in
    omega (arith, ap (λ x. S * x) next, mul-suc S (m + k), mul-suc S k, times_plus S m k)

-- a list that agrees with another one in n nibbles, which that one has, has them too
pub long_as : (n : ℕ) (x q : List ℕ) → n ≤ length x → take n q ≡ take n x → n ≤ length q
long_as n x q l e = omega (arith, ap length e, length-take n q, length-take n x, l)

-- where x is in front of a search and z isn't, the searched list agrees with both in what they share
module _ (n : ℕ) (x z q : List ℕ) (order : IsBefore x z) (long : n ≤ length x) (same : take n x ≡ take n z) where
  by_before : IsBefore x q → IsBefore q z → take n q ≡ take n x
  by_before b d = between_agrees n x q z x long b d refl (sym same)

  by_prefix : IsPrefix q x → (IsPrefix q z → ⊥) → take n q ≡ take n x
  by_prefix p none = elim (cases_lt n (length q)) [
    | inl lt ↦ sym (ap (take n) p.1 ∙ take-append-le n q p.0 (omega (arith, lt)))
    | inr ge ↦
        let whole : take (length q) z ≡ take (length q) q =
        sym (agree_less (length q) n x z ge same) ∙ prefix_is_taken q x p ∙ sym (take_all (length q) q (omega arith)) in
        absurd (none (begun z q (length q) whole (omega arith)))
  ]

  pub shared_between : (t : Bool) → is_in_front t q x ≡ true → is_in_front t q z ≡ false → take n q ≡ take n x
  shared_between false front behind = elim (which_before z q) [
    | inl b ↦ absurd (let no : true ≡ false = sym (before_passes z q b) ∙ behind in cc no)
    | inr (inl e) ↦ ap (take n) (sym e) ∙ sym same
    | inr (inr g) ↦ by_before (before_by_test x q front) g
  ]
  shared_between true front behind =
      let none : IsPrefix q z → ⊥ = λ p. let no : true ≡ false = sym (until_by_prefix z q p) ∙ behind in cc no in
      elim (which_before z q) [
        | inl b ↦ absurd (let no : true ≡ false = sym (until_by_before z q b) ∙ behind in cc no)
        | inr (inl e) ↦ absurd (none (subst (IsPrefix q) (sym e) (prefix_itself q)))
        | inr (inr g) ↦ elim (until_by_test x q front) [
          | inl b ↦ by_before b g
          | inr p ↦ by_prefix p none
        ]
      ]

module _ (t : Bool) (q : List ℕ) (cs : List (List ℕ)) (rises : IsRising cs) (S : ℕ) (hs ks : List ℕ) (level : IsLevel cs S hs ks) (at : ℕ) (around : IsAround t q cs (S * 16) at) where
  -- the block's number as so many lists
  so_many : S * 16 * at ≡ S * (16 * at)
  so_many = mul_assoc S 16 at

  so_many_more : S * 16 * (at + 1) ≡ S * (16 * at + 16)
  so_many_more = mul_assoc S 16 (at + 1) ∙ ap (λ x. S * x) (omega arith)

  -- the block begins where there are heads, or right behind them
  pub block_within : 16 * at ≤ length hs
  block_within = elim (cases_lt (length hs) (16 * at)) [
    | inr ge ↦ ge
    | inl lt ↦
        let le : S * (length hs + 1) ≤ S * (16 * at) = mul-le-mul_left S (omega (arith, lt)) in
        absurd (omega (arith, le, so_many, around.within, level.rest))
  ]

  -- where the list of a head of the block stands
  pub place_in : (j : ℕ) → S * (16 * at + 1) - 1 + j * S ≡ S * (16 * at + j + 1) - 1
  place_in j =
      let sum : 16 * at + j + 1 ≡ 16 * at + 1 + j = omega arith in
      let some : S * 1 ≤ S * (16 * at + 1) = mul-le-mul_left S (omega arith) in
      omega (arith, ap (λ x. S * x) sum, times_plus S (16 * at + 1) j, mul_comm S j, some, level.apart)

  -- it is one of the lists
  pub place_within : (j : ℕ) → 16 * at + j < length hs → S * (16 * at + j + 1) ≤ length cs
  place_within j l =
      let le : S * (16 * at + j + 1) ≤ S * length hs = mul-le-mul_left S (omega (arith, l)) in
      omega (arith, le, level.many)

  -- and begins with what the block skips, as the searched one does
  pub skipped : (j : ℕ) → j < 16 → 16 * at + j < length hs → (2 * get_or ks at 0 ≤ length q) × (take (2 * get_or ks at 0) (code_at cs (S * (16 * at + j + 1) - 1)) ≡ take (2 * get_or ks at 0) q)
  skipped j few l = elim (cases_eq (get_or ks at 0) 0) [
    | inl none ↦ (
      omega (arith, none),
      (let z : 0 ≡ 2 * get_or ks at 0 = omega (arith, none) in subst (λ n. take n (code_at cs (S * (16 * at + j + 1) - 1)) ≡ take n q) z refl),
    )
    | inr some ↦
        let n = 2 * get_or ks at 0 in
        let a = S * (16 * at) in
        let b = S * (16 * at + 16) in
        let is = level.skips at in
        let first : 0 < a = elim (cases_eq a 0) [
          | inl e ↦ absurd (some (is.edge (inl e)))
          | inr e ↦ omega (arith, e)
        ] in
        let last : b ≤ length cs = elim (cases_lt (length cs) b) [
          | inl e ↦ absurd (some (is.edge (inr e)))
          | inr e ↦ e
        ] in
        let x = code_at cs (a - 1) in
        let z = code_at cs (b - 1) in
        let here = S * (16 * at + j + 1) - 1 in
        let more : S * (16 * at + 1) ≤ S * (16 * at + j + 1) = mul-le-mul_left S (omega arith) in
        let step : S * (16 * at + 1) ≡ a + S * 1 = times_plus S (16 * at) 1 in
        let most : S * (16 * at + j + 1) ≤ b = mul-le-mul_left S (omega (arith, few)) in
        let parents : a - 1 < here = omega (arith, first, more, step, level.apart) in
        let order : IsBefore x z = rising_at cs rises (a - 1) (b - 1) (omega (arith, parents, most)) (omega (arith, last, most, parents)) in
        let agree = shared_between n x z q order is.long is.same t (around.before (a - 1) (omega (arith, first, so_many)))
        (around.after (b - 1) (omega (arith, so_many_more)) (omega (arith, last, most, parents))) in
        let own : take n (code_at cs here) ≡ take n x = elim (cases_lt here (b - 1)) [
          | inl lt ↦ between_agrees n x (code_at cs here) z x is.long (rising_at cs rises (a - 1) here parents (omega (arith, lt, last)))
              (rising_at cs rises here (b - 1) lt (omega (arith, last, most, parents))) refl (sym is.same)
          | inr ge ↦ let same : here ≡ b - 1 = omega (arith, ge, most) in ap (λ i. take n (code_at cs i)) same ∙ sym is.same
        ] in
        (long_as n x q is.long agree, own ∙ sym agree)
  ]

  module _ (to : ℕ) (counted : length cs < 2 ^ 62) (to_is : to ≡ min (length hs) (16 * at + 16)) where
    -- what of a list of numbers belongs to the block
    abbrev of_block : List ℕ → List ℕ
    of_block xs = take (to - 16 * at) (drop (16 * at) xs)

    of_block_length : (xs : List ℕ) → length xs ≡ length hs → length (of_block xs) ≡ to - 16 * at
    of_block_length xs many = omega (arith, length-take (to - 16 * at) (drop (16 * at) xs), length-drop (16 * at) xs, to_is, many)

    -- the heads of the block
    abbrev block_heads : List ℕ
    block_heads = of_block hs

    block_length : length block_heads ≡ to - 16 * at
    block_length = of_block_length hs refl

    in_block : (j : ℕ) → j < length block_heads → (j < 16) × (16 * at + j < length hs)
    in_block j l = (omega (arith, l, block_length, to_is), omega (arith, l, block_length, to_is))

    -- heads of all its lists, behind so many bytes more than it skips, are a block
    block_of : (m : ℕ) (xs : List ℕ) → m < 2 ^ 32 → get_or ks at 0 < 2 ^ 32 → length xs ≡ length hs → AreHeads cs S m xs ks (length hs)
        → IsBlock cs (of_block xs) (S * (16 * at + 1) - 1) S (2 * (m + get_or ks at 0))
    block_of m xs few near many heads = record {
      nibbles = level.nibbles;
      counted = omega (arith, counted);
      apart = level.apart;
      near = omega (arith, few, near);
      within = λ j l.
          let some : S * 1 ≤ S * (16 * at + j + 1) = mul-le-mul_left S (omega arith) in
          omega (arith, place_in j, place_within j (in_block j (omega (arith, l, of_block_length xs many, block_length))).1, some, level.apart);
      heads = λ j l.
          let inside = in_block j (omega (arith, l, of_block_length xs many, block_length)) in
          let number : (16 * at + j) / 16 ≡ at = (let few = inside.0 in omega (arith, few)) in
          get_or-take (to - 16 * at) (drop (16 * at) xs) j 0 (omega (arith, l, of_block_length xs many)) ∙ get_or-drop (16 * at) xs j 0
          ∙ heads (16 * at + j) inside.1
          ∙ ap (λ k. head_behind (2 * (m + get_or ks k 0)) (code_at cs (S * (16 * at + j + 1) - 1))) number
          ∙ ap (λ i. head_behind (2 * (m + get_or ks at 0)) (code_at cs i)) (sym (place_in j));
    }

    -- the searched list shares what it skips
    shared_by_block : IsSharedBy cs (length block_heads) (S * (16 * at + 1) - 1) S (2 * get_or ks at 0) q
    shared_by_block = record {
      long = elim (cases_lt 0 (length block_heads)) [
        | inl some ↦ let b = in_block 0 some in (skipped 0 b.0 b.1).0
        | inr none ↦
            let all : S * (length hs + 1) ≤ S * (16 * at + 16) = mul-le-mul_left S (omega (arith, none, block_length, to_is)) in
            let nothing = (level.skips at).edge (inr (omega (arith, all, level.rest))) in
            omega (arith, nothing)
      ];
      same = λ j l. let b = in_block j l in subst (λ i. take (2 * get_or ks at 0) (code_at cs i) ≡ take (2 * get_or ks at 0) q) (sym (place_in j)) (skipped j b.0 b.1).1;
    }

    module _ (skip : ℕ) (is : skip ≡ get_or ks at 0) (near : skip < 2 ^ 32) where
      -- so the list is searched for in it by its head
      pub sought_in_block : (xs : List ℕ) (h : ℕ) → xs ≡ block_heads → h ≡ bound_of t (drop (2 * skip) q) → AreNibbles 15 (drop (2 * skip) q)
          → IsSoughtIn t q cs xs (S * (16 * at + 1) - 1) S (2 * skip) h
      sought_in_block xs h e head nibbles =
          let none : 0 + get_or ks at 0 ≡ skip = omega (arith, is) in
          let back : get_or ks at 0 ≡ skip = sym is in
          subst (λ ys. IsSoughtIn t q cs ys (S * (16 * at + 1) - 1) S (2 * skip) h) (sym e) (record {
            block = subst (λ n. IsBlock cs block_heads (S * (16 * at + 1) - 1) S (2 * n)) none (block_of 0 hs (omega arith) (omega (arith, near, is)) refl level.heads);
            shared = subst (λ n. IsSharedBy cs (length block_heads) (S * (16 * at + 1) - 1) S (2 * n) q) back shared_by_block;
            head = head;
            nibbles = nibbles;
          })

      -- and so are the heads behind seven bytes more
      pub further_in_block : (more xs : List ℕ) → AreFurther cs S (length hs) ks more → xs ≡ of_block more
          → IsBlock cs xs (S * (16 * at + 1) - 1) S (2 * (7 + skip)) × (length xs ≡ length block_heads)
      further_in_block more xs further e = (
        subst (λ ys. IsBlock cs ys (S * (16 * at + 1) - 1) S (2 * (7 + skip))) (sym e)
            (subst (λ n. IsBlock cs (of_block more) (S * (16 * at + 1) - 1) S (2 * (7 + n))) (sym is) (block_of 7 more (omega arith) (omega (arith, near, is)) further.many further.heads)),
        omega (arith, ap length e, of_block_length more further.many, block_length),
      )

    module _ (count : ℕ) (within : count ≤ length block_heads)
        (front : (i : ℕ) → i < count → is_in_front t q (code_at cs (S * (16 * at + 1) - 1 + i * S)) ≡ true)
        (behind : (i : ℕ) → count ≤ i → i < length block_heads → is_in_front t q (code_at cs (S * (16 * at + 1) - 1 + i * S)) ≡ false) where
      -- so many heads of the block tell how many lists come in front, up to the S lists of one head
      around_of : IsAround t q cs S (16 * at + count)
      around_of = record {
        within = let le : S * (16 * at + count) ≤ S * length hs = mul-le-mul_left S (omega (arith, within, block_length, to_is, block_within)) in omega (arith, le, level.many);
        before = λ i l. elim (cases_eq count 0) [
          | inl none ↦ around.before i (let e : 16 * at + count ≡ 16 * at = omega (arith, none) in omega (arith, l, ap (λ x. S * x) e, so_many))
          | inr some ↦
              let last = count - 1 in
              let inside : last < length block_heads = omega (arith, some, within) in
              let here = subst (λ p. is_in_front t q (code_at cs p) ≡ true) (place_in last) (front last (omega (arith, some))) in
              let e : 16 * at + last + 1 ≡ 16 * at + count = omega (arith, some) in
              let place = S * (16 * at + last + 1) - 1 in
              let some_lists : S * 1 ≤ S * (16 * at + last + 1) = mul-le-mul_left S (omega arith) in
              passes_before (is_in_front t q) (front_passes_down t q) cs rises place
              (omega (arith, place_within last (in_block last inside).1, some_lists, level.apart)) here i (omega (arith, l, ap (λ x. S * x) e, some_lists, level.apart))
        ];
        after = λ i l m. elim (cases_lt count (length block_heads)) [
          | inl lt ↦
              let here = subst (λ p. is_in_front t q (code_at cs p) ≡ false) (place_in count) (behind count (omega arith) lt) in
              fails_after (is_in_front t q) (front_passes_down t q) cs rises (S * (16 * at + count + 1) - 1) here i (omega (arith, l)) m
          | inr ge ↦ elim (cases_lt (length hs) (16 * at + 16)) [
            | inl few ↦
                let e : 16 * at + count ≡ length hs = omega (arith, ge, within, few, block_length, to_is, block_within) in
                absurd (omega (arith, l, m, level.rest, ap (λ x. S * (x + 1)) e))
            | inr all ↦
                let le : S * (16 * at + 16) ≤ S * (16 * at + count + 1) = mul-le-mul_left S (omega (arith, ge, within, all, block_length, to_is)) in
                around.after i (omega (arith, le, l, so_many_more)) m
          ]
        ];
      }

      -- where none of them is the searched list, neither does it end the S lists behind those in front
      of_end : (count < length block_heads → code_at cs (S * (16 * at + 1) - 1 + count * S) ≡ q → ⊥) → IsEndOf q cs S (16 * at + count) → ⊥
      of_end apart end = elim (cases_lt count (length block_heads)) [
        | inl lt ↦ apart lt (ap (code_at cs) (place_in count) ∙ end.same)
        | inr ge ↦ elim (cases_lt (length hs) (16 * at + 16)) [
          | inl few ↦
              let e : 16 * at + count ≡ length hs = omega (arith, ge, within, few, block_length, to_is, block_within) in
              absurd (let w = end.within in omega (arith, w, level.rest, ap (λ x. S * (x + 1)) e))
          | inr all ↦
              let here = subst (λ p. is_in_front t q (code_at cs p) ≡ true) (place_in 15) (front 15 (omega (arith, ge, within, all, block_length, to_is))) in
              let e : 16 * at + 15 + 1 ≡ 16 * at + 16 = omega arith in
              let some : S * 1 ≤ S * (16 * at + 15 + 1) = mul-le-mul_left S (omega arith) in
              let there = around.after (S * (16 * at + 15 + 1) - 1) (omega (arith, so_many_more, ap (λ x. S * x) e))
              (omega (arith, place_within 15 (omega (arith, all)), some, level.apart)) in
              absurd (let no : true ≡ false = sym here ∙ there in cc no)
        ]
      ]

    -- where the list of a head of the block is the searched one, it ends the S lists of its head
    end_of : (count : ℕ) → count < length block_heads → code_at cs (S * (16 * at + 1) - 1 + count * S) ≡ q → IsEndOf q cs S (16 * at + count)
    end_of count l e = record {
      within = place_within count (in_block count l).1;
      same = ap (code_at cs) (sym (place_in count)) ∙ e;
    }

    -- so what a search in the block says tells how many S lists come in front
    pub reached : (count : ℕ) (is_found : Bool) → IsCounted t q cs (S * (16 * at + 1) - 1) S (length block_heads) count is_found → IsLocated t q cs S (16 * at + count) is_found
    reached count is_found counted = record {
      around = around_of count counted.within counted.before counted.after;
      found = λ f. let got = counted.found f in (got.0, end_of count got.1 got.2);
      apart = λ f plain. of_end count counted.within counted.before counted.after (counted.apart f plain);
    }

-- where there are levels enough, no list stands behind the first block of the last level
pub around_all : (t : Bool) (q : List ℕ) (cs : List (List ℕ)) (S : ℕ) → length cs < S → IsAround t q cs S 0
around_all t q cs S few =
    let none : S * 0 ≡ 0 = omega arith in
    let one : S * (0 + 1) ≡ S = omega arith in
    record {
      within = omega (arith, none);
      before = λ i l. absurd (omega (arith, none, l));
      after = λ i l m. absurd (omega (arith, one, l, m, few));
    }

-- where S is one, that tells how many lists come in front
pub cut_of_around : (t : Bool) (q : List ℕ) (cs : List (List ℕ)) (n : ℕ) → IsAround t q cs 1 n → IsCut (is_in_front t q) cs n
cut_of_around t q cs n around = record {
  within = omega (arith, around.within);
  before = λ k l. around.before k (omega (arith, l));
  after = λ k l m. around.after k (omega (arith, l)) m;
}

-- before a list that is the searched one stand all those in front, of a search that isn't one through it
pub cut_at_itself : (t : Bool) (q : List ℕ) (cs : List (List ℕ)) (n : ℕ) → IsRising cs → t ≡ false → n < length cs → code_at cs n ≡ q → IsCut (is_in_front t q) cs n
cut_at_itself true q cs n rises plain l e = absurd (cc plain)
cut_at_itself false q cs n rises plain l e = record {
  within = omega (arith, l);
  before = λ k m. before_passes _ q (subst (IsBefore (code_at cs k)) e (rising_at cs rises k n m l));
  after = fails_after (is_in_front false q) (front_passes_down false q) cs rises n (sym (side_of_begun false (code_at cs n) q (subst (IsPrefix q) (sym e) (prefix_itself q))));
}
