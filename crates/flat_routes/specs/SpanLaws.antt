-- Spans that rise are columns that a search takes.
use Rattle.std.proofs.Common.{◌≡◌, ℕ, zero, suc, ◌+◌, ◌^◌, ◌<◌, ◌≤◌, inl, inr, Bool, List, Option, Some, None, arith, subst}
use Rattle.std.specs.Prelude.{◌-◌, MatchOption, min, slice_index}
use Rattle.std.proofs.lemmas.Bool.{cases_lt}
use Rattle.flat_routes.specs.Images.{AreSpans, IsImage, answer_in, bases, end_of, sizes, span_count, start_in, width}

-- the spans of bytes that may be an image
pub record SpansOf : Type 0 where
  pub wide : Bool
  pub bytes : List ℕ

-- so many starts rise from 0
pub record AreStarts (starts : ℕ → ℕ) (m : ℕ) : Type 0 where
  pub some : 0 < m
  pub first : starts 0 ≡ 0
  pub rising : (i : ℕ) → i + 1 < m → starts i < starts (i + 1)

-- an earlier span begins at a smaller address
pub starts_rise : (w : ℕ) (fs bs : List ℕ) (starts answers : ℕ → ℕ) (m : ℕ) → AreSpans w fs bs starts answers m → (j k : ℕ) → j ≤ k → k < m → starts j ≤ starts k
starts_rise w fs bs starts answers m spans j zero l lt = let same : 0 ≡ j = omega (arith, l) in subst (λ i. starts i ≤ starts zero) same (omega arith)
starts_rise w fs bs starts answers m spans j (suc k) l lt = elim (cases_lt k j) [
  | inl gt ↦ let same : suc k ≡ j = omega (arith, l, gt) in subst (λ i. starts i ≤ starts (suc k)) same (omega arith)
  | inr le ↦
      let before = starts_rise w fs bs starts answers m spans j k le (omega (arith, lt)) in
      let next : k + 1 ≡ suc k = omega arith in
      let step = subst (λ i. starts k < starts i) next ((spans.each k (omega (arith, lt))).next (omega (arith, lt))) in
      omega (arith, before, step)
]

-- so where one begins by an address all up to it do
pub spans_rise : (s : SpansOf) (a j k : ℕ) → IsImage s.wide s.bytes → j ≤ k → k < span_count s.wide s.bytes → start_in s.wide s.bytes k ≤ a → start_in s.wide s.bytes j ≤ a
spans_rise s a j k image l lt le =
    let up = starts_rise (width s.wide) (bases s.wide s.bytes) (sizes s.wide s.bytes) (start_in s.wide s.bytes) (answer_in s.wide s.bytes) (span_count s.wide s.bytes) image.spans j k l lt in
    omega (arith, up, le)

-- of m spans so many begin by the number a, or up to `left` more; where `known` holds
pub record IsCountedBy (starts : ℕ → ℕ) (known : Type 0) (m a from left : ℕ) : Type 0 where
  pub within : from + left ≤ m
  pub below : known → (k : ℕ) → k < from → starts k ≤ a
  pub above : known → (k : ℕ) → from + left ≤ k → k < m → a < starts k

-- the address behind the network of the index and one more r; None where no address lies behind it, and at 0
abbrev pub IsEnd : ℕ → (fs bs : List ℕ) → (r : ℕ) → Option ℕ → Type 0
IsEnd w fs bs r end = MatchOption end (0 < r → 2 ^ w ≤ end_of w fs bs (r - 1))
    (λ e. (0 < r) × (e ≡ end_of w fs bs (r - 1)) × (e < 2 ^ w))

-- the smaller one of two numbers, or the one that there is
abbrev pub earlier : Option ℕ → Option ℕ → Option ℕ
earlier (Some a) (Some b) = Some (min a b)
earlier (Some a) None = Some a
earlier None b = b

-- of m spans, as many as `from` says at i begin by the i-th of eight numbers, or up to `left` more; where `known` holds
abbrev pub AreCounted : (starts : ℕ → ℕ) → (known : Type 0) → (m : ℕ) → (numbers from : List ℕ) → (left : ℕ) → Type 0
AreCounted starts known m numbers from left = (i : ℕ) → i < 8
    → IsCountedBy starts known m (slice_index numbers i) (slice_index from i) left
