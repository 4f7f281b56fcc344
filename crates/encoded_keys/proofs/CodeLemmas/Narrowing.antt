-- What the heads of a block tell of a search, and what is left to be compared.
use Rattle.std.proofs.Common.{◌≡◌, ◌≢◌, ℕ, ◌+◌, ◌-◌, ◌*◌, ◌%◌, ◌<◌, ◌≤◌, inl, inr, Bool, true, false, List, length, take, drop, get_or, sym, ap, subst, ◌∙◌, arith}
use Rattle.std.specs.List.Sorted.{IsNonDecreasing}
use Rattle.std.proofs.lemmas.Bool.{cases_lt}
use Rattle.std.proofs.lemmas.List.Sorted.{IsNonDecreasingBy-from_default}
use Rattle.radix_keys.proofs.KeyLemmas.Order.{three_ways}
use Rattle.nibble_map.specs.Lists.{IsPrefix, IsRising}
use Rattle.nibble_map.proofs.ListLemmas.Parted.{prefix_itself}
use Rattle.encoded_keys.specs.Blocks.{IsCounted, IsNarrowed, IsSharedBy, IsSoughtIn}
use Rattle.encoded_keys.specs.Codes.{code_at, is_in_front}
use Rattle.encoded_keys.specs.Heads.{AreNibbles, head_in}
use Rattle.encoded_keys.proofs.CodeLemmas.Behind.{before_behind}
use Rattle.encoded_keys.proofs.CodeLemmas.Blocks.{behind_by_higher, behind_from, block_rises, code_in, front_by_lower, front_of_few, nibbles_behind, same_in_more, same_of_told, shifted}
use Rattle.encoded_keys.proofs.CodeLemmas.Heads.{head_rises}
use Rattle.encoded_keys.proofs.CodeLemmas.Levels.{long_as}
use Rattle.encoded_keys.proofs.CodeLemmas.Order.{before_by_test, before_passes}
use Rattle.encoded_keys.proofs.CodeLemmas.Sides.{agree_less, plain_bound, side_of_begun}

-- what is shared in n nibbles is so in fewer
pub shared_in_fewer : (cs : List (List ℕ)) (count first step n m : ℕ) (q : List ℕ) → m ≤ n → IsSharedBy cs count first step n q → IsSharedBy cs count first step m q
shared_in_fewer cs count first step n m q l s = record {
  long = omega (arith, l, s.long);
  same = λ j k. agree_less m n (code_at cs (first + j * step)) q l (s.same j k);
}

module _ (t : Bool) (q : List ℕ) (cs : List (List ℕ)) (rises : IsRising cs) (hs : List ℕ) (first step n head : ℕ) (sought : IsSoughtIn t q cs hs first step n head) where
  abbrev code : ℕ → List ℕ
  code = code_in cs first step

  own : (i : ℕ) → i < length hs → get_or hs i 0 ≡ head_in (drop n (code i))
  own = sought.block.heads

  nibbles : (i : ℕ) → AreNibbles 15 (drop n (code i))
  nibbles i = nibbles_behind n (code i) (sought.block.nibbles (first + i * step))

  -- the heads of a block don't fall
  pub block_heads_rise : IsNonDecreasing hs
  block_heads_rise = IsNonDecreasingBy-from_default (λ n. n) hs 0 (λ i j l m. elim (three_ways i j) [
    | inl lt ↦
        let same = sought.shared.same i (omega (arith, lt, m)) ∙ sym (sought.shared.same j m) in
        let order = block_rises cs rises hs first step n sought.block i j lt m in
        let long = long_as n q (code j) sought.shared.long (sought.shared.same j m) in
        let le = head_rises (drop n (code i)) (drop n (code j)) (nibbles i) (before_by_test (drop n (code i)) (drop n (code j)) (before_behind n (code i) (code j) same long ∙ before_passes (code i) (code j) order)) in
        omega (arith, own i (omega (arith, lt, m)), own j m, le)
    | inr (inl e) ↦ (let same = ap (λ k. get_or hs k 0) e in omega (arith, same))
    | inr (inr gt) ↦ absurd (omega (arith, l, gt))
  ])

  lower_front : (i : ℕ) → i < length hs → get_or hs i 0 < head → is_in_front t q (code i) ≡ true
  lower_front i l lt = front_by_lower t n (code i) q (sought.shared.same i l) sought.shared.long sought.nibbles (omega (arith, lt, own i l, sought.head))

  higher_behind : (i : ℕ) → i < length hs → head < get_or hs i 0 → is_in_front t q (code i) ≡ false
  higher_behind i l lt = behind_by_higher t n (code i) q (sought.shared.same i l) sought.shared.long (nibbles i) (omega (arith, lt, own i l, sought.head))

  -- a list with a higher head isn't the searched one
  higher_apart : (i : ℕ) → i < length hs → head < get_or hs i 0 → t ≡ false → code i ≡ q → ⊥
  higher_apart i l lt plain e = omega (arith, lt, own i l, sought.head, ap (λ c. head_in (drop n c)) e, plain_bound t (drop n q) plain)

  module _ (c : ℕ) (most : c ≤ length hs) (below : (k : ℕ) → k < c → get_or hs k 0 < head) where
    fronts : (i : ℕ) → i < c → is_in_front t q (code i) ≡ true
    fronts i l = lower_front i (omega (arith, l, most)) (below i l)

    -- where all others are above it, no list is the searched one
    all_told : (d : ℕ) (mine : (i : ℕ) → i < d → is_in_front t q (code i) ≡ true) → d ≤ length hs → ((k : ℕ) → d ≤ k → k < length hs → head < get_or hs k 0)
        → IsNarrowed t q cs first step (length hs) (n + 15) d d false
    all_told d mine within above =
        let behind : (i : ℕ) → d ≤ i → i < length hs → is_in_front t q (code i) ≡ false = λ i l m. higher_behind i m (above i l m) in
        let other : t ≡ false → d < length hs → code d ≡ q → ⊥ = λ plain l. higher_apart d l (above d (omega arith) l) plain in
        record {
          order = omega arith;
          within = within;
          before = mine;
          after = behind;
          apart = λ _. other;
          shared = λ l. absurd (omega (arith, l));
          whole = λ _. record { within = within; before = mine; after = behind; found = λ f. absurd (cc f); apart = λ _. other };
        }

    module _ (others : (k : ℕ) → c ≤ k → k < length hs → head ≤ get_or hs k 0) where
      -- no head is the searched one's
      pub narrowed_to_none : (c < length hs → get_or hs c 0 ≢ head) → IsNarrowed t q cs first step (length hs) (n + 15) c c false
      narrowed_to_none apart = all_told c fronts most (λ k l m.
          let here = others c (omega arith) (omega (arith, l, m)) in
          let parents = block_heads_rise c k 0 l m in
          elim (three_ways head (get_or hs c 0)) [
            | inl lt ↦ omega (arith, lt, parents)
            | inr (inl e) ↦ absurd (apart (omega (arith, l, m)) (sym e))
            | inr (inr gt) ↦ absurd (omega (arith, gt, here))
          ])

      -- the searched one's head tells that this is its list
      pub narrowed_to_one : c < length hs → get_or hs c 0 ≡ head → t ≡ false → head % 16 < 15 → IsNarrowed t q cs first step (length hs) (n + 15) c c true
      narrowed_to_one l e plain few =
          let same : code c ≡ q = same_of_told t n (code c) q (sought.shared.same c l) sought.shared.long (nibbles c) sought.nibbles plain (sym (own c l) ∙ e ∙ sought.head)
          (subst (λ h. h % 16 < 15) (sym e ∙ own c l) few) in
          let behind = behind_from cs rises hs first step n sought.block t q c (sym (side_of_begun t (code c) q (subst (IsPrefix q) (sym same) (prefix_itself q))) ∙ plain) in
          record {
            order = omega arith;
            within = most;
            before = fronts;
            after = behind;
            apart = λ l. absurd (omega (arith, l));
            shared = λ l. absurd (omega (arith, l));
            whole = λ _. record { within = most; before = fronts; after = behind; found = λ _. (plain, l, same); apart = λ f. absurd (cc f) };
          }

    module _ (d : ℕ) (within : d ≤ length hs) (up_to : (k : ℕ) → k < d → get_or hs k 0 ≤ head) (above : (k : ℕ) → d ≤ k → k < length hs → head < get_or hs k 0) where
      -- those with the searched one's head all begin with the list
      pub narrowed_through : t ≡ true → length q - n ≤ 15 → IsNarrowed t q cs first step (length hs) (n + 15) d d false
      narrowed_through through few = all_told d (λ i l.
          front_of_few t n (code i) q (sought.shared.same i (omega (arith, l, within))) sought.shared.long sought.nibbles through few
          (omega (arith, up_to i l, own i (omega (arith, l, within)), sought.head))) within above

      -- and of a search that isn't told by heads those between agree in 15 nibbles more
      pub narrowed_to_some : ((k : ℕ) → c ≤ k → k < length hs → head ≤ get_or hs k 0) → c < length hs → get_or hs c 0 ≡ head
          → (t ≡ true → 15 < length q - n) → (t ≡ false → 15 ≤ head % 16) → IsNarrowed t q cs first step (length hs) (n + 15) c d false
      narrowed_to_some others inside e many full =
          let some : c < d = elim (cases_lt c d) [
            | inl lt ↦ lt
            | inr ge ↦ absurd (let more = above c ge inside in omega (arith, more, e))
          ] in
          let more : (i : ℕ) → c ≤ i → i < d → (n + 15 ≤ length q) × (take (n + 15) (code i) ≡ take (n + 15) q) = λ i l m.
          let here : i < length hs = omega (arith, m, within) in
          same_in_more t n (code i) q (sought.shared.same i here) sought.shared.long (nibbles i) sought.nibbles
          (let le = up_to i m in let ge = others i l here in omega (arith, le, ge, own i here, sought.head)) many (subst (λ h. t ≡ false → 15 ≤ h % 16) sought.head full) in
          record {
            order = omega (arith, some);
            within = within;
            before = fronts;
            after = λ i l m. higher_behind i m (above i l m);
            apart = λ _ plain l. higher_apart d l (above d (omega arith) l) plain;
            shared = λ _. record {
              long = (more c (omega arith) some).0;
              same = λ j l. subst (λ i. take (n + 15) (code_at cs i) ≡ take (n + 15) q) (sym (shifted first step c j)) (more (c + j) (omega arith) (omega (arith, l))).1;
            };
            whole = λ s. absurd (omega (arith, s, some));
          }

module _ (t : Bool) (q : List ℕ) (cs : List (List ℕ)) (first step count k c d : ℕ) (found : Bool) (narrowed : IsNarrowed t q cs first step count k c d found) (some : c < d)
    (e : ℕ) (left : Bool) (counted : IsCounted t q cs (first + c * step) step (d - c) e left) where
  -- what is told of the lists between says how many of all come in front
  pub counted_between : IsCounted t q cs first step count (c + e) left
  counted_between =
      let at : ℕ → List ℕ = λ j. code_at cs (first + j * step) in
      let moved : (j : ℕ) → code_at cs (first + c * step + j * step) ≡ at (c + j) = λ j. ap (code_at cs) (shifted first step c j) in
      let back : (i : ℕ) → c ≤ i → c + (i - c) ≡ i = λ i l. omega (arith, l) in
      record {
        within = omega (arith, counted.within, narrowed.within, some);
        before = λ i l. elim (cases_lt i c) [
          | inl lt ↦ narrowed.before i lt
          | inr ge ↦ subst (λ j. is_in_front t q (at j) ≡ true) (back i ge) (ap (is_in_front t q) (sym (moved (i - c))) ∙ counted.before (i - c) (omega (arith, l, ge)))
        ];
        after = λ i l m. elim (cases_lt i d) [
          | inl lt ↦
              subst (λ j. is_in_front t q (at j) ≡ false) (back i (omega (arith, l)))
              (ap (is_in_front t q) (sym (moved (i - c))) ∙ counted.after (i - c) (omega (arith, l)) (omega (arith, lt, l, some)))
          | inr ge ↦ narrowed.after i ge m
        ];
        found = λ f. let got = counted.found f in (got.0, omega (arith, got.1, narrowed.within), sym (moved e) ∙ got.2);
        apart = λ f plain l s. elim (cases_lt e (d - c)) [
          | inl lt ↦ counted.apart f plain lt (moved e ∙ s)
          | inr ge ↦
              let end : c + e ≡ d = omega (arith, ge, counted.within, some) in
              narrowed.apart some plain (omega (arith, l, end)) (subst (λ j. at j ≡ q) end s)
        ];
      }
