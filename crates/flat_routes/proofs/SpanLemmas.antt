-- Where the last network that holds an address changes from address to address, and how often it does.
use Rattle.std.proofs.Common.{◌≡◌, ℕ, zero, suc, ◌+◌, ◌-◌, ◌*◌, ◌/◌, ◌%◌, ◌^◌, ◌<◌, ◌≤◌, inl, inr, Bool, true, false, cond, Fits, w8, List, Option, Some, None, length, get_or, slice_index, ap, sym, subst, ◌∙◌, arith, nat_lt}
use Rattle.std.specs.Prelude.{IfSome, MatchOption, min}
use Rattle.std.proofs.lemmas.Bool.{cases_lt}
use Rattle.std.proofs.lemmas.Bool.Decides.{nat_tests}
use Rattle.std.proofs.lemmas.Nat.{div-mul-add, mod_below, pow-add, pow_pos, shr_split}
use Rattle.std.proofs.Math.Nat.{mul-mod_left}
use Rattle.sorted_tables.specs.Tables.{IsPartedAt}
use Rattle.frozen_routes.specs.Routes.{AreRising, AreUpTo, IsLastHolder}
use Rattle.frozen_routes.proofs.RouteLemmas.Blocks.{base_first, finer, sandwich}
use Rattle.frozen_routes.proofs.RouteLemmas.Links.{among_all, firsts_to}
use Rattle.flat_routes.specs.declared.turns.Begun.{Begun}
use Rattle.flat_routes.specs.Images.{AreLinkedTo, HasNoTurn, IsKnownAt, IsEdge, IsSpanOf, IsSpanRight, IsTurn, end_of, start_from}
use Rattle.image_parts.proofs.ByteLemmas.{u32_fits, u64_fits}
use Rattle.flat_routes.specs.SpanLaws.{IsCountedBy, IsEnd, earlier}
use Rattle.flat_routes.proofs.ImageLemmas.{all_rise, one_last}

-- numbers from the first one of a block to before its end are of the block
held : (m b e : ℕ) → m % 2 ^ e ≡ 0 → m ≤ b → b < m + 2 ^ e → m / 2 ^ e ≡ b / 2 ^ e
held m b e none le lt =
    let same : b ≡ m / 2 ^ e * 2 ^ e + (b - m) = omega (arith, shr_split m e, none, le) in
    sym (ap (λ n. n / 2 ^ e) same ∙ div-mul-add (m / 2 ^ e) (2 ^ e) (b - m) (omega (arith, lt, le)))

-- those of it come before its end
before_end : (m a e : ℕ) → m % 2 ^ e ≡ 0 → m / 2 ^ e ≡ a / 2 ^ e → a < m + 2 ^ e
before_end m a e none same =
    omega (arith, shr_split m e, none, shr_split a e, mod_below a (2 ^ e) (pow_pos e), ap (λ q. q * 2 ^ e) same)

-- a count of networks that begin by an address, as the next one bears out
pub counted_by : (w : ℕ) (fs bs parents : List ℕ) (n a c : ℕ) → AreLinkedTo w fs bs parents n → length fs ≡ n → c ≤ n → ((k : ℕ) → k < c → get_or fs k 0 ≤ a)
    → (c < n → a < get_or fs c 0) → AreUpTo fs a c
counted_by w fs bs parents n a c linked all within before from =
    let rising = all_rise w fs bs n linked.next (omega (arith, all)) in
    record {
      within = omega (arith, all, within);
      before = before;
      after = λ k l m. let next = from (omega (arith, l, m, all)) in let least = firsts_to w fs bs c k rising l m in omega (arith, next, least);
    }

-- so many networks begin by the address a, and the last that holds it is that of r
module _ (w : ℕ) (fs bs : List ℕ) (rising : AreRising w fs bs) (a c r : ℕ) (count : AreUpTo fs a c) (last : IsLastHolder w fs bs c a r) where
  -- it is that of a later address, up to which no network begins nor that one ends
  one_holder : (b : ℕ) → a ≤ b → ((k : ℕ) → c ≤ k → k < length fs → b < get_or fs k 0) → (0 < r → b < end_of w fs bs (r - 1)) → IsLastHolder w fs bs (length fs) b r
  one_holder b le begun ended = record {
    within = (let x = last.within in let y = count.within in omega (arith, x, y));
    holds = λ some.
        let x = last.within in
        let y = count.within in
        let first = count.before (r - 1) (omega (arith, some, x)) in
        held (get_or fs (r - 1) 0) b (w - get_or bs (r - 1) 0) (rising.bases (r - 1) (omega (arith, some, x, y))).2 (omega (arith, first, le)) (ended some);
    none = λ k l m p. elim (cases_lt k c) [
      | inl lt ↦ last.none k l lt (sandwich (get_or fs k 0) a b (w - get_or bs k 0) (count.before k lt) le p)
      | inr ge ↦
          let first = base_first (get_or fs k 0) b (w - get_or bs k 0) (rising.bases k m).2 p in
          let more = begun k ge m in
          absurd (omega (arith, first, more))
    ];
  }

  -- where the next network begins another one is the last holder
  at_next : (f : ℕ) → (c < length fs) × (f ≡ get_or fs c 0) → ((b : ℕ) → b < f → 0 < r → b < end_of w fs bs (r - 1)) → IsTurn w fs bs a r f
  at_next f is ended =
      let most = last.within in
      let first = is.1 in
      let later = count.after c (omega arith) is.0 in
      let few = (rising.bases c is.0).0 in
      record {
        behind = omega (arith, later, first);
        inside = omega (arith, few, first);
        same = λ b le lt. one_holder b le (λ k l m. let up = firsts_to w fs bs c k rising l m in omega (arith, up, lt, first)) (ended b lt);
        other = λ h. h.none c most is.0 (ap (λ x. x / 2 ^ (w - get_or bs c 0)) (sym first));
        edge = (c, is.0, inl first);
      }

  -- and so it is where that one ends
  at_end : (e : ℕ) → (0 < r) × (e ≡ end_of w fs bs (r - 1)) × (e < 2 ^ w) → ((b : ℕ) → b < e → (k : ℕ) → c ≤ k → k < length fs → b < get_or fs k 0) → IsTurn w fs bs a r e
  at_end e is begun =
      let some = is.0 in
      let end = is.1 in
      let d = w - get_or bs (r - 1) 0 in
      let inside : r - 1 < length fs = (let x = last.within in let y = count.within in omega (arith, x, y, some)) in
      let zero = (rising.bases (r - 1) inside).2 in
      let before = before_end (get_or fs (r - 1) 0) a d zero (last.holds some) in
      record {
        behind = omega (arith, before, end);
        inside = is.2;
        same = λ b le lt. one_holder b le (begun b lt) (λ _. omega (arith, lt, end));
        other = λ h. let past = before_end (get_or fs (r - 1) 0) e d zero (h.holds some) in omega (arith, past, end);
        edge = (r - 1, inside, inr end);
      }

  -- it is the first of both, if there is one
  pub turned : (next end : Option ℕ) → MatchOption next (c ≡ length fs) (λ f. (c < length fs) × (f ≡ get_or fs c 0)) → IsEnd w fs bs r end
      → MatchOption (earlier next end) (HasNoTurn w fs bs a r) (IsTurn w fs bs a r)
  turned None None p q = λ b le lt. one_holder b le (λ k l m. absurd (omega (arith, p, l, m))) (λ some. let e = q some in omega (arith, lt, e))
  turned (Some f) None p q = at_next f p (λ b lt some. let e = q some in let first = p.1 in let few = (rising.bases c p.0).0 in omega (arith, lt, e, first, few))
  turned None (Some e) p q = at_end e q (λ b lt k l m. absurd (omega (arith, p, l, m)))
  turned (Some f) (Some e) p q = elim (cases_lt e f) [
    | inl lt ↦
        let is : e ≡ min f e = omega (arith, lt) in
        subst (IsTurn w fs bs a r) is (at_end e q (λ b before k l m. let up = firsts_to w fs bs c k rising l m in let first = p.1 in omega (arith, up, first, before, lt)))
    | inr ge ↦
        let is : f ≡ min f e = omega (arith, ge) in
        let end = q.1 in
        subst (IsTurn w fs bs a r) is (at_next f p (λ b before some. omega (arith, before, ge, end)))
  ]

-- the last of the spans that begin by an address is the one that it lies in
pub span_counted : (starts : ℕ → ℕ) (m a n : ℕ) → IsPartedAt (λ k. starts k ≤ a) (λ k. starts k ≤ a → ⊥) m n → 0 < n → IsSpanOf starts m a (n - 1)
span_counted starts m a n parted some =
    let within = parted.within in
    record {
      within = omega (arith, within, some);
      from = parted.before (n - 1) (omega (arith, some));
      to = λ more. elim (cases_lt a (starts (n - 1 + 1))) [
        | inl lt ↦ lt
        | inr ge ↦ absurd (parted.after (n - 1 + 1) (omega (arith, some)) more ge)
      ];
    }

-- so much is known at the start of a span
module _ (w : ℕ) (fs bs : List ℕ) (starts answers : ℕ → ℕ) (m i : ℕ) (rising : AreRising w fs bs) (begun : Begun) (known : IsKnownAt w fs bs (starts i) begun) where
  -- a right one has that answer
  pub right_answer : i < m → starts i < 2 ^ w → IsSpanRight w fs bs starts answers m i → begun.around ≡ answers i
  right_answer l fits right =
      let own = right.answer (starts i) fits (record { within = l; from = omega arith; to = right.next }) in
      one_last _ (length fs) _ _ (among_all w fs bs (starts i) begun.count begun.around rising known.count known.around) own

-- and where it has another one next
module _ (w : ℕ) (fs bs : List ℕ) (starts answers : ℕ → ℕ) (m i r : ℕ) (end : Option ℕ) (turn : MatchOption end (HasNoTurn w fs bs (starts i) r) (IsTurn w fs bs (starts i) r)) where
  -- it is right if it ends by then
  pub span_right : (i ≡ 0 → starts 0 ≡ 0) → (i + 1 < m → starts i < starts (i + 1)) → r ≡ answers i → IfSome end (λ t. (i + 1 < m) × (starts (i + 1) ≤ t))
      → IsSpanRight w fs bs starts answers m i
  span_right first next same ends = record {
    first = first;
    next = next;
    answer = λ a lt of. subst (IsLastHolder w fs bs (length fs) a) same (through end turn ends a lt of);
  } where
    through : (o : Option ℕ) → MatchOption o (HasNoTurn w fs bs (starts i) r) (IsTurn w fs bs (starts i) r)
        → IfSome o (λ t. (i + 1 < m) × (starts (i + 1) ≤ t)) → (a : ℕ) → a < 2 ^ w → IsSpanOf starts m a i → IsLastHolder w fs bs (length fs) a r
    through None t e a lt of = t a of.from lt
    through (Some x) t e a lt of = let to = of.to e.0 in let le = e.1 in t.same a of.from (omega (arith, to, le))

  -- and ends by then if it is
  pub right_end : i < m → r ≡ answers i → IsSpanRight w fs bs starts answers m i → IfSome end (λ t. (i + 1 < m) × (starts (i + 1) ≤ t))
  right_end l same right = by_turn end turn where
    inside : (t : ℕ) → IsTurn w fs bs (starts i) r t → (i + 1 < m → t < starts (i + 1)) → ⊥
    inside t x to =
        let behind = x.behind in
        x.other (subst (IsLastHolder w fs bs (length fs) t) (sym same) (right.answer t x.inside (record { within = l; from = omega (arith, behind); to = to })))

    by_turn : (o : Option ℕ) → MatchOption o (HasNoTurn w fs bs (starts i) r) (IsTurn w fs bs (starts i) r) → IfSome o (λ t. (i + 1 < m) × (starts (i + 1) ≤ t))
    by_turn None t = tt
    by_turn (Some x) t = elim (cases_lt (i + 1) m) [
      | inl lt ↦ elim (cases_lt x (starts (i + 1))) [
        | inl early ↦ absurd (inside x t (λ _. early))
        | inr ge ↦ (lt, ge)
      ]
      | inr ge ↦ absurd (inside x t (λ more. absurd (omega (arith, more, ge))))
    ]

-- how many of the first n values of a function are at most x
counted : (ℕ → ℕ) → (n x : ℕ) → ℕ
counted f zero x = 0
counted f (suc n) x = cond (nat_lt x (f n)) (counted f n x) (suc (counted f n x))

less_counted : (f : ℕ → ℕ) (n x : ℕ) → x < f n → counted f (suc n) x ≡ counted f n x
unfolding counted
less_counted f n x lt = grind (arith, nat_tests)

more_counted : (f : ℕ → ℕ) (n x : ℕ) → f n ≤ x → counted f (suc n) x ≡ suc (counted f n x)
unfolding counted
more_counted f n x le = grind (arith, nat_tests)

-- no more than there are
all_counted : (f : ℕ → ℕ) (n x : ℕ) → counted f n x ≤ n
unfolding counted
all_counted f zero x = omega arith
all_counted f (suc n) x = elim (cases_lt x (f n)) [
  | inl lt ↦ omega (arith, less_counted f n x lt, all_counted f n x)
  | inr ge ↦ omega (arith, more_counted f n x ge, all_counted f n x)
]

-- no fewer are at most a larger number
counted_up : (f : ℕ → ℕ) (n x y : ℕ) → x ≤ y → counted f n x ≤ counted f n y
unfolding counted
counted_up f zero x y le = omega arith
counted_up f (suc n) x y le = elim (cases_lt x (f n)) [
  | inl lt ↦ elim (cases_lt y (f n)) [
    | inl less ↦ omega (arith, less_counted f n x lt, less_counted f n y less, counted_up f n x y le)
    | inr ge ↦ omega (arith, less_counted f n x lt, more_counted f n y ge, counted_up f n x y le)
  ]
  | inr ge ↦ omega (arith, more_counted f n x ge, more_counted f n y (omega (arith, ge, le)), counted_up f n x y le)
]

-- and more where one of them lies between
counted_more : (f : ℕ → ℕ) (n k x y : ℕ) → k < n → x < f k → f k ≤ y → counted f n x + 1 ≤ counted f n y
counted_more f zero k x y l lt le = absurd (omega (arith, l))
counted_more f (suc n) k x y l lt le = elim (cases_lt k n) [
  | inl less ↦
      let before = counted_more f n k x y less lt le in
      elim (cases_lt x (f n)) [
        | inl under ↦ elim (cases_lt y (f n)) [
          | inl above ↦ omega (arith, less_counted f n x under, less_counted f n y above, before)
          | inr ge ↦ omega (arith, less_counted f n x under, more_counted f n y ge, before)
        ]
        | inr ge ↦ omega (arith, more_counted f n x ge, more_counted f n y (omega (arith, ge, lt, le)), before)
      ]
  | inr ge ↦
      let same : k ≡ n = omega (arith, l, ge) in
      let own = ap f same in
      omega (arith, less_counted f n x (omega (arith, lt, own)), more_counted f n y (omega (arith, le, own)), counted_up f n x y (omega (arith, lt, le)))
]

-- how many times a network begins, or ends, by the address x
pub edges : ℕ → (fs bs : List ℕ) → ℕ → ℕ
edges w fs bs x = counted (λ k. get_or fs k 0) (length fs) x + counted (end_of w fs bs) (length fs) x

-- twice for each at most
pub most_edges : (w : ℕ) (fs bs : List ℕ) (x : ℕ) → edges w fs bs x ≤ 2 * length fs
unfolding edges
most_edges w fs bs x = omega (arith, all_counted (λ k. get_or fs k 0) (length fs) x, all_counted (end_of w fs bs) (length fs) x)

-- and more by a later address where one does
pub edges_more : (w : ℕ) (fs bs : List ℕ) (x t : ℕ) → x < t → IsEdge w fs bs t → edges w fs bs x + 1 ≤ edges w fs bs t
unfolding edges
edges_more w fs bs x t lt at = elim at.2 [
  | inl begins ↦
      omega (
        arith,
        counted_more (λ k. get_or fs k 0) (length fs) at.0 x t at.1 (omega (arith, begins, lt)) (omega (arith, begins)),
        counted_up (end_of w fs bs) (length fs) x t (omega (arith, lt)),
      )
  | inr ends ↦
      omega (
        arith,
        counted_more (end_of w fs bs) (length fs) at.0 x t at.1 (omega (arith, ends, lt)) (omega (arith, ends)),
        counted_up (λ k. get_or fs k 0) (length fs) x t (omega (arith, lt)),
      )
]

-- a block of 64 bits or more is one of 64 bits times a power
wide_block : (d : ℕ) → 64 ≤ d → 2 ^ d % 2 ^ 64 ≡ 0
wide_block d le =
    let whole : (d - 64) + 64 ≡ d = omega (arith, le) in
    subst (λ n. 2 ^ n % 2 ^ 64 ≡ 0) whole (ap (λ n. n % 2 ^ 64) (pow-add 2 (d - 64) 64) ∙ mul-mod_left (2 ^ (d - 64)) (2 ^ 64))

-- where networks of 128 bits have no more than 64 shared ones they begin and end at whole upper halves
pub half_edge : (fs bs : List ℕ) (t : ℕ) → AreRising 128 fs bs → ((k : ℕ) → k < length fs → get_or bs k 0 ≤ 64) → IsEdge 128 fs bs t → t % 2 ^ 64 ≡ 0
half_edge fs bs t rising few at =
    let size = few at.0 at.1 in
    let first = finer (get_or fs at.0 0) 64 (128 - get_or bs at.0 0) (omega (arith, size)) (rising.bases at.0 at.1).2 in
    elim at.2 [
      | inl begins ↦ ap (λ n. n % 2 ^ 64) begins ∙ first
      | inr ends ↦ let block = wide_block (128 - get_or bs at.0 0) (omega (arith, size)) in omega (arith, ends, first, block)
    ]

-- no start lies behind all addresses
pub start_fits : (wide half : Bool) (bs : List ℕ) (a : ℕ) → ((i : ℕ) → Fits w8 (slice_index bs i)) → start_from wide half bs a < 2 ^ 128
start_fits false half bs a byte = omega (arith, u32_fits bs a byte)
start_fits true true bs a byte = omega (arith, u64_fits bs a byte)
start_fits true false bs a byte = omega (arith, u64_fits bs a byte, u64_fits bs (a + 8) byte)

-- of m spans the search of a number begins behind so many, and goes over `left` at most
pub record IsBounded (starts : ℕ → ℕ) (known : Type 0) (m a from left : ℕ) : Type 0 where
  pub within : from ≤ m
  pub below : known → (k : ℕ) → k < from → starts k ≤ a
  pub above : known → (k : ℕ) → from + left ≤ k → k < m → a < starts k

-- it goes over more
pub bounded_more : (starts : ℕ → ℕ) (known : Type 0) (m a from left more : ℕ) → left ≤ more → IsBounded starts known m a from left → IsBounded starts known m a from more
bounded_more starts known m a from left more le b = record { within = b.within; below = b.below; above = λ h k l. b.above h k (omega (arith, l, le)) }

-- it begins where so many are left
pub bounded_back : (starts : ℕ → ℕ) (known : Type 0) (m a from left : ℕ) → left ≤ m → IsBounded starts known m a from left → IsCountedBy starts known m a (min from (m - left)) left
bounded_back starts known m a from left le b = record {
  within = omega (arith, le);
  below = λ h k l. b.below h k (omega (arith, l));
  above = λ h k l lt. b.above h k (omega (arith, l, lt, le)) lt;
}

-- one step of it
pub counted_on : (starts : ℕ → ℕ) (known : Type 0) (m a from left : ℕ) → (known → (j k : ℕ) → j ≤ k → k < m → starts j ≤ starts k) → 0 < left
    → starts (from + (left - left / 2) - 1) ≤ a → IsCountedBy starts known m a from left → IsCountedBy starts known m a (from + (left - left / 2)) (left / 2)
counted_on starts known m a from left rise some le c = record {
  within = (let x = c.within in omega (arith, x));
  below = λ h k l. let x = c.within in let up = rise h k (from + (left - left / 2) - 1) (omega (arith, l)) (omega (arith, x, some)) in omega (arith, up, le);
  above = λ h k l lt. c.above h k (omega (arith, l)) lt;
}

pub counted_back : (starts : ℕ → ℕ) (known : Type 0) (m a from left : ℕ) → (known → (j k : ℕ) → j ≤ k → k < m → starts j ≤ starts k) → 0 < left
    → a < starts (from + (left - left / 2) - 1) → IsCountedBy starts known m a from left → IsCountedBy starts known m a from (left / 2)
counted_back starts known m a from left rise some lt c = record {
  within = (let x = c.within in omega (arith, x));
  below = c.below;
  above = λ h k l less. let up = rise h (from + (left - left / 2) - 1) k (omega (arith, l, some)) less in omega (arith, up, lt);
}

-- it ends where none are left
pub counted_parted : (starts : ℕ → ℕ) (known : Type 0) (m a n : ℕ) → known → IsCountedBy starts known m a n 0
    → IsPartedAt (λ k. starts k ≤ a) (λ k. starts k ≤ a → ⊥) m n
counted_parted starts known m a n h c = record {
  within = (let x = c.within in omega (arith, x));
  before = c.below h;
  after = λ k l lt le. let more = c.above h k (omega (arith, l)) lt in omega (arith, more, le);
}
