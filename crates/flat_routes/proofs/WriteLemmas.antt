-- What stays of an image while it is written, and what is known when all of it is.
use Rattle.std.proofs.Common.{◌≡◌, ℕ, zero, suc, ◌+◌, ◌-◌, ◌*◌, ◌^◌, ◌<◌, ◌≤◌, inl, inr, Bool, true, false, List, [], ◌∷◌, Some, length, get_or, slice_get, slice_index, take, map as each, refl, ap, sym, subst, ◌∙◌, arith}
use Rattle.std.proofs.lemmas.Bool.{cases_lt}
use Rattle.std.proofs.lemmas.List.{length-map, length-take-le}
use Rattle.radix_keys.specs.Networks.{IsBase, Net}
use Rattle.image_parts.specs.Parts.{listed, row_count, u32_in, u64_in}
use Rattle.image_parts.proofs.ByteLemmas.{entry_kept, listed_all, listed_same, u32_kept, u64_kept}
use Rattle.frozen_routes.specs.Routes.{AreRowsInOrder, IsEarlier, IsFirstOutOfOrder, IsLastHolder, base_numbers, bit_counts}
use Rattle.frozen_routes.proofs.RouteLemmas.Rows.{stored_at}
use Rattle.flat_routes.specs.declared.head.RowPlan.{RowPlan}
use Rattle.flat_routes.specs.Images.{AreLinkedTo, IsNext, IsRowPlan, bases, image_rows, link_in, links, row_in, row_size, sizes, width}
use Rattle.flat_routes.specs.Written.{ChangesWithin, HoldsRows, IsRowHead, link_from, row_from}
use Rattle.flat_routes.proofs.ImageLemmas.{all_rise, first_stored, front_number, link_stored, linked_there, next_there, rising_next, size_stored}

-- two changes are one of the bytes of both
pub change_through : (a b c d e f : ℕ) (xs ys zs : List ℕ) → ChangesWithin a b xs ys → ChangesWithin c d ys zs → e ≤ a → e ≤ c → b ≤ f → d ≤ f → ChangesWithin e f xs zs
change_through a b c d e f xs ys zs p q l m n o = record {
  before = λ k lt. q.before k (omega (arith, lt, m)) ∙ p.before k (omega (arith, lt, l));
  behind = λ k le. q.behind k (omega (arith, le, o)) ∙ p.behind k (omega (arith, le, n));
  same_length = q.same_length ∙ p.same_length;
}

-- the numbers of bytes that stay from a place up to another one
module _ (xs ys : List ℕ) (lo hi : ℕ) (same : (k : ℕ) → lo ≤ k → k < hi → slice_index ys k ≡ slice_index xs k) where
  -- a number of 4 bytes stays
  pub u32_stays : (a : ℕ) → lo ≤ a → a + 4 ≤ hi → u32_in ys a ≡ u32_in xs a
  u32_stays a least most = u32_kept xs ys a (λ k l m. same k (omega (arith, l, least)) (omega (arith, m, most)))

  -- and one of 8
  pub u64_stays : (a : ℕ) → lo ≤ a → a + 8 ≤ hi → u64_in ys a ≡ u64_in xs a
  u64_stays a least most = u64_kept xs ys a (λ k l m. same k (omega (arith, l, least)) (omega (arith, m, most)))

-- a head that stays up to the part of the rows says the same of them
pub plan_kept : (wide : Bool) (xs ys : List ℕ) (plan : RowPlan) → ((k : ℕ) → k < 40 → slice_index ys k ≡ slice_index xs k)
    → plan.rows_at + row_size wide * plan.rows ≤ length ys → IsRowPlan wide xs plan → IsRowPlan wide ys plan
plan_kept wide xs ys plan same room of = record {
  rows = of.rows ∙ sym (u32_stays xs ys 0 40 (λ k _ l. same k l) 8 (omega arith) (omega arith));
  few = of.few;
  rows_at = of.rows_at ∙ sym (u64_stays xs ys 0 40 (λ k _ l. same k l) 24 (omega arith) (omega arith));
  inside = room;
}

-- and one that is written says so of its plan
pub plan_written : (wide : Bool) (bs : List ℕ) (plan : RowPlan) → plan.rows < 2 ^ 32 → plan.rows_at + row_size wide * plan.rows ≤ length bs → IsRowHead wide bs plan
    → IsRowPlan wide bs plan
plan_written wide bs plan few room head = record { rows = sym head.count; few = few; rows_at = sym head.rows.place_is; inside = room }

-- it stays written
pub head_kept : (wide : Bool) (xs ys : List ℕ) (plan : RowPlan) → ((k : ℕ) → k < 40 → slice_index ys k ≡ slice_index xs k) → IsRowHead wide xs plan → IsRowHead wide ys plan
head_kept wide xs ys plan same head = record {
  marked = u64_stays xs ys 0 40 (λ k _ l. same k l) 0 (omega arith) (omega arith) ∙ head.marked;
  count = u32_stays xs ys 0 40 (λ k _ l. same k l) 8 (omega arith) (omega arith) ∙ head.count;
  parts = u32_stays xs ys 0 40 (λ k _ l. same k l) 12 (omega arith) (omega arith) ∙ head.parts;
  rows = entry_kept xs ys 16 _ _ _ _ (λ k l m. same k (omega (arith, m))) head.rows;
}

-- a row by its place
pub row_placed : (wide : Bool) (bs : List ℕ) (plan : RowPlan) (k : ℕ) → IsRowPlan wide bs plan → row_in wide bs k ≡ row_from wide bs (plan.rows_at + row_size wide * k)
row_placed false bs plan k of = ap (λ a. row_from false bs (a + 16 * k)) (sym of.rows_at)
row_placed true bs plan k of = ap (λ a. row_from true bs (a + 32 * k)) (sym of.rows_at)

-- a link by its row's
pub link_placed : (wide : Bool) (bs : List ℕ) (plan : RowPlan) (k : ℕ) → IsRowPlan wide bs plan → link_in wide bs k ≡ link_from wide bs (plan.rows_at + row_size wide * k)
link_placed false bs plan k of = ap (λ a. link_from false bs (a + 16 * k)) (sym of.rows_at)
link_placed true bs plan k of = ap (λ a. link_from true bs (a + 32 * k)) (sym of.rows_at)

-- they stay where their bytes do
pub row_from_kept : (wide : Bool) (xs ys : List ℕ) (lo hi a : ℕ) → ((k : ℕ) → lo ≤ k → k < hi → slice_index ys k ≡ slice_index xs k) → lo ≤ a → a + row_size wide ≤ hi
    → row_from wide ys a ≡ row_from wide xs a
row_from_kept false xs ys lo hi a same least le =
    let first = u32_stays xs ys lo hi same a least (omega (arith, le)) in
    let bits = u32_stays xs ys lo hi same (a + 4) (omega (arith, least)) (omega (arith, le)) in
    let value = u32_stays xs ys lo hi same (a + 12) (omega (arith, least)) (omega (arith, le)) in
    cc (first, bits, value)
row_from_kept true xs ys lo hi a same least le =
    let low = u64_stays xs ys lo hi same a least (omega (arith, le)) in
    let high = u64_stays xs ys lo hi same (a + 8) (omega (arith, least)) (omega (arith, le)) in
    let bits = u32_stays xs ys lo hi same (a + 16) (omega (arith, least)) (omega (arith, le)) in
    let value = u64_stays xs ys lo hi same (a + 24) (omega (arith, least)) (omega (arith, le)) in
    cc (low, high, bits, value)

-- and a link
pub link_from_kept : (wide : Bool) (xs ys : List ℕ) (lo hi a : ℕ) → ((k : ℕ) → lo ≤ k → k < hi → slice_index ys k ≡ slice_index xs k) → lo ≤ a → a + row_size wide ≤ hi
    → link_from wide ys a ≡ link_from wide xs a
link_from_kept false xs ys lo hi a same least le = u32_stays xs ys lo hi same (a + 8) (omega (arith, least)) (omega (arith, le))
link_from_kept true xs ys lo hi a same least le = u32_stays xs ys lo hi same (a + 20) (omega (arith, least)) (omega (arith, le))

-- a row before others lies before them
pub row_room : (wide : Bool) (k n : ℕ) → k < n → row_size wide * k + row_size wide ≤ row_size wide * n
row_room false k n l = omega (arith, l)
row_room true k n l = omega (arith, l)

-- the first n rows stay where their bytes do
module _ (wide : Bool) (xs ys : List ℕ) (plan : RowPlan) (px : IsRowPlan wide xs plan) (py : IsRowPlan wide ys plan) (n : ℕ)
    (same : (j : ℕ) → plan.rows_at ≤ j → j < plan.rows_at + row_size wide * n → slice_index ys j ≡ slice_index xs j) where
  -- each row stays
  pub row_kept : (k : ℕ) → k < n → row_in wide ys k ≡ row_in wide xs k
  row_kept k l =
      row_placed wide ys plan k py ∙ row_from_kept wide xs ys _ _ (plan.rows_at + row_size wide * k) same (omega arith) (omega (arith, row_room wide k n l)) ∙ sym (row_placed wide xs plan k px)

  -- and each link
  pub link_kept : (k : ℕ) → k < n → link_in wide ys k ≡ link_in wide xs k
  link_kept k l =
      link_placed wide ys plan k py ∙ link_from_kept wide xs ys _ _ (plan.rows_at + row_size wide * k) same (omega arith) (omega (arith, row_room wide k n l)) ∙ sym (link_placed wide xs plan k px)

  -- and that the rows are these
  pub holds_kept : (rows : List (Net ℕ × ℕ)) → HoldsRows wide xs rows n → HoldsRows wide ys rows n
  holds_kept rows holds = record {
    stored = λ k l. holds.stored k l ∙ ap (λ r. Some r) (sym (row_kept k l));
    links = λ k l. subst (IsLastHolder (width wide) (base_numbers (λ m. m) rows) (bit_counts rows) k (get_or (base_numbers (λ m. m) rows) k 0)) (sym (link_kept k l)) (holds.links k l);
  }

  -- and one more with its link stands behind them
  pub holds_more : (rows : List (Net ℕ × ℕ)) → HoldsRows wide xs rows n → slice_get rows n ≡ Some (row_from wide ys (plan.rows_at + row_size wide * n))
      → IsLastHolder (width wide) (base_numbers (λ m. m) rows) (bit_counts rows) n (get_or (base_numbers (λ m. m) rows) n 0) (link_from wide ys (plan.rows_at + row_size wide * n))
      → HoldsRows wide ys rows (n + 1)
  holds_more rows holds here link =
      let kept = holds_kept rows holds in
      record {
        stored = λ k l. elim (cases_lt k n) [
          | inl lt ↦ kept.stored k lt
          | inr ge ↦ let is : n ≡ k = omega (arith, l, ge) in subst (λ j. slice_get rows j ≡ Some (row_in wide ys j)) is (here ∙ ap (λ r. Some r) (sym (row_placed wide ys plan n py)))
        ];
        links = λ k l. elim (cases_lt k n) [
          | inl lt ↦ kept.links k lt
          | inr ge ↦
              let is : n ≡ k = omega (arith, l, ge) in
              subst (λ j. IsLastHolder (width wide) (base_numbers (λ m. m) rows) (bit_counts rows) j (get_or (base_numbers (λ m. m) rows) j 0) (link_in wide ys j)) is
              (subst (IsLastHolder (width wide) (base_numbers (λ m. m) rows) (bit_counts rows) n (get_or (base_numbers (λ m. m) rows) n 0)) (sym (link_placed wide ys plan n py)) link)
        ];
      }

-- all rows stay where their bytes do
module _ (wide : Bool) (xs ys : List ℕ) (plan : RowPlan) (px : IsRowPlan wide xs plan) (py : IsRowPlan wide ys plan)
    (same : (j : ℕ) → plan.rows_at ≤ j → j < plan.rows_at + row_size wide * plan.rows → slice_index ys j ≡ slice_index xs j) where
  -- the rows are the same
  pub rows_same : image_rows wide ys ≡ image_rows wide xs
  rows_same =
      ap (λ n. listed (row_in wide ys) n) (sym py.rows) ∙ listed_same (row_in wide ys) (row_in wide xs) plan.rows (row_kept wide xs ys plan px py plan.rows same)
      ∙ ap (λ n. listed (row_in wide xs) n) px.rows

  -- and their links
  pub links_same : links wide ys ≡ links wide xs
  links_same =
      ap (λ n. listed (link_in wide ys) n) (sym py.rows) ∙ listed_same (link_in wide ys) (link_in wide xs) plan.rows (link_kept wide xs ys plan px py plan.rows same)
      ∙ ap (λ n. listed (link_in wide xs) n) px.rows

  -- and so do their networks and links
  pub linked_kept : (n : ℕ) → AreLinkedTo (width wide) (bases wide xs) (sizes wide xs) (links wide xs) n → AreLinkedTo (width wide) (bases wide ys) (sizes wide ys) (links wide ys) n
  linked_kept n linked =
      subst (λ rs. AreLinkedTo (width wide) (base_numbers (λ m. m) rs) (bit_counts rs) (links wide ys) n) (sym rows_same)
      (subst (λ us. AreLinkedTo (width wide) (bases wide xs) (sizes wide xs) us n) (sym links_same) linked)

-- the first n of rising rows stand in the bytes
module _ (wide : Bool) (bs : List ℕ) (rows : List (Net ℕ × ℕ)) (n : ℕ) (holds : HoldsRows wide bs rows n) (within : n ≤ row_count bs) where
  -- their numbers are those of the bytes
  pub firsts_hold : (k : ℕ) → k < n → get_or (bases wide bs) k 0 ≡ get_or (base_numbers (λ m. m) rows) k 0
  firsts_hold k l = first_stored wide bs k (omega (arith, l, within)) ∙ sym (stored_at (λ r. r.0.base) rows k (row_in wide bs k) (holds.stored k l)).1

  -- and how many bits each shares
  pub sizes_hold : (k : ℕ) → k < n → get_or (sizes wide bs) k 0 ≡ get_or (bit_counts rows) k 0
  sizes_hold k l = size_stored wide bs k (omega (arith, l, within)) ∙ sym (stored_at (λ r. r.0.bits) rows k (row_in wide bs k) (holds.stored k l)).1

  -- and linked there
  pub rows_linked : AreRowsInOrder (width wide) (λ m. m) rows → n ≤ length rows → AreLinkedTo (width wide) (bases wide bs) (sizes wide bs) (links wide bs) n
  rows_linked rising all =
      let fs = base_numbers (λ m. m) rows in
      let many = length-map rows (λ r. r.0.base) in
      linked_there (width wide) fs (bit_counts rows) (bases wide bs) (sizes wide bs) n firsts_hold sizes_hold (links wide bs) (links wide bs) (λ k l. refl) (record {
        next = λ k l. rising_next (width wide) fs (bit_counts rows) rising k (omega (arith, l, all, many));
        links = λ k l. subst (IsLastHolder (width wide) fs (bit_counts rows) k (get_or fs k 0)) (sym (link_stored wide bs k (omega (arith, l, within)))) (holds.links k l);
      })

-- the rows of bytes in which all of some rows stand are these
pub rows_are : (wide : Bool) (bs : List ℕ) (rows : List (Net ℕ × ℕ)) (n : ℕ) → HoldsRows wide bs rows n → n ≡ row_count bs → n ≡ length rows → image_rows wide bs ≡ rows
rows_are wide bs rows n holds counted all = listed_all (row_in wide bs) rows (row_count bs) (omega (arith, counted, all)) (λ k l. holds.stored k (omega (arith, l, counted)))

-- a number of a row at an index
pub shown_at : {R X : Type 0} (shown : R → X) (f : X → ℕ) (rows : List R) (i : ℕ) (r : R) → i < length rows → r ≡ get_or rows i r
    → get_or (each f (each shown rows)) i 0 ≡ f (shown r)
shown_at shown f [] i r l is = absurd (omega (arith, l))
shown_at shown f (x ∷ xs) zero r l is = ap (λ y. f (shown y)) (sym is)
shown_at shown f (x ∷ xs) (suc i) r l is = shown_at shown f xs i r (omega (arith, l)) is

-- and the row
pub shown_stored : {R X : Type 0} (shown : R → X) (rows : List R) (i : ℕ) (r : R) → i < length rows → r ≡ get_or rows i r
    → slice_get (each shown rows) i ≡ Some (shown r)
shown_stored shown [] i r l is = absurd (omega (arith, l))
shown_stored shown (x ∷ xs) zero r l is = ap (λ y. Some (shown y)) (sym is)
shown_stored shown (x ∷ xs) (suc i) r l is = shown_stored shown xs i r (omega (arith, l)) is

-- a network at an index by its numbers
pub next_by : (w : ℕ) (fs bs : List ℕ) (i f b : ℕ) → get_or fs i 0 ≡ f → get_or bs i 0 ≡ b → IsBase w b f
    → (0 < i → IsEarlier (get_or fs (i - 1) 0) (get_or bs (i - 1) 0) f b) → IsNext w fs bs i
next_by w fs bs i f b first size base after = record {
  base = subst (λ x. IsBase w (get_or bs i 0) x) (sym first) (subst (λ y. IsBase w y f) (sym size) base);
  after = λ some. subst (λ x. IsEarlier (get_or fs (i - 1) 0) (get_or bs (i - 1) 0) x (get_or bs i 0)) (sym first)
      (subst (λ y. IsEarlier (get_or fs (i - 1) 0) (get_or bs (i - 1) 0) f y) (sym size) (after some));
}

-- and back
pub base_by : (w : ℕ) (fs bs : List ℕ) (i f b : ℕ) → get_or fs i 0 ≡ f → get_or bs i 0 ≡ b → IsNext w fs bs i → IsBase w b f
base_by w fs bs i f b first size next = subst (λ x. IsBase w b x) first (subst (λ y. IsBase w y (get_or fs i 0)) size next.base)

-- and that it comes after the one before it
pub after_by : (w : ℕ) (fs bs : List ℕ) (i f b g a : ℕ) → get_or fs i 0 ≡ f → get_or bs i 0 ≡ b → get_or fs (i - 1) 0 ≡ g → get_or bs (i - 1) 0 ≡ a
    → IsNext w fs bs i → 0 < i → IsEarlier g a f b
after_by w fs bs i f b g a first size last count next some =
    subst (λ x. IsEarlier x a f b) last (subst (λ x. IsEarlier (get_or fs (i - 1) 0) x f b) count
    (subst (λ x. IsEarlier (get_or fs (i - 1) 0) (get_or bs (i - 1) 0) x b) first
    (subst (λ x. IsEarlier (get_or fs (i - 1) 0) (get_or bs (i - 1) 0) (get_or fs i 0) x) size (next.after some))))

-- rows of which the first n come one after another
module _ (w : ℕ) (rows : List (Net ℕ × ℕ)) (n : ℕ) where
  -- are in order as far
  pub front_rises : n ≤ length rows → ((k : ℕ) → k < n → IsNext w (base_numbers (λ m. m) rows) (bit_counts rows) k) → AreRowsInOrder w (λ m. m) (take n rows)
  front_rises le next =
      let many = length-map (take n rows) (λ r. r.0.base) in
      all_rise w (base_numbers (λ m. m) (take n rows)) (bit_counts (take n rows)) n
      (λ k l. next_there w (base_numbers (λ m. m) rows) (bit_counts rows) (base_numbers (λ m. m) (take n rows)) (bit_counts (take n rows)) n
      (front_number (λ r. r.0.base) rows n) (front_number (λ r. r.0.bits) rows n) k l (next k l))
      (omega (arith, many, length-take-le n rows le))

  -- and the next one comes after them where one more is in order
  pub next_rises : n < length rows → AreRowsInOrder w (λ m. m) (take (n + 1) rows) → IsNext w (base_numbers (λ m. m) rows) (bit_counts rows) n
  next_rises l rising =
      let front = take (n + 1) rows in
      let many = length-map front (λ r. r.0.base) in
      let all = length-take-le (n + 1) rows (omega (arith, l)) in
      next_there w (base_numbers (λ m. m) front) (bit_counts front) (base_numbers (λ m. m) rows) (bit_counts rows) (n + 1)
      (λ k m. sym (front_number (λ r. r.0.base) rows (n + 1) k m)) (λ k m. sym (front_number (λ r. r.0.bits) rows (n + 1) k m)) n (omega arith)
      (rising_next w (base_numbers (λ m. m) front) (bit_counts front) rising n (omega (arith, many, all)))

-- so rows in order have none that is the first out of order
pub no_disorder : (w : ℕ) (rows : List (Net ℕ × ℕ)) (i : ℕ) → AreRowsInOrder w (λ m. m) rows → IsFirstOutOfOrder w (λ m. m) rows i → ⊥
no_disorder w rows i rising first =
    let inside = first.within in
    first.unsorted (front_rises w rows (i + 1) (omega (arith, inside))
    (λ k l. rising_next w (base_numbers (λ m. m) rows) (bit_counts rows) rising k (omega (arith, l, inside, length-map rows (λ r. r.0.base)))))

-- the number of an item at an index
pub numbered_at : {N : Type 0} (number : N → ℕ) (xs : List N) (i : ℕ) (x : N) → i < length xs → x ≡ get_or xs i x → get_or (each number xs) i 0 ≡ number x
numbered_at number [] i x l is = absurd (omega (arith, l))
numbered_at number (y ∷ ys) zero x l is = ap number (sym is)
numbered_at number (y ∷ ys) (suc i) x l is = numbered_at number ys i x (omega (arith, l)) is
