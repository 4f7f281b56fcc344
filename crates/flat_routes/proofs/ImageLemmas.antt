-- The numbers of an image, and what they say of its rows.
use Rattle.std.proofs.Common.{◌≡◌, ℕ, zero, suc, ◌+◌, ◌-◌, ◌*◌, ◌<◌, ◌≤◌, inl, inr, Bool, true, false, List, [], ◌∷◌, Option, Some, None, length, get_or, slice_get, take, map as each, option_map, refl, ap, sym, subst, ◌∙◌, arith}
use Rattle.std.specs.Option.{SomeIff}
use Rattle.std.proofs.lemmas.Bool.{cases_lt}
use Rattle.std.proofs.lemmas.List.{get_or-take, length-map, length-take-le, take-map}
use Rattle.radix_keys.specs.Networks.{AgreeIn, IsBase, Net}
use Rattle.image_parts.specs.Parts.{row_count, u128_in, u32_in}
use Rattle.image_parts.proofs.ByteLemmas.{length-listed, listed_at, none_past, take_listed}
use Rattle.frozen_routes.specs.Routes.{AreRising, AreRowsInOrder, IsHolderAt, IsLastAround, IsLastHolder, IsLongestAround, IsLongestRow, base_numbers, bit_counts}
use Rattle.frozen_routes.proofs.RouteLemmas.Blocks.{earlier_le}
use Rattle.frozen_routes.proofs.RouteLemmas.Rows.{last_around_is_longest, last_is_longest, none_around, none_holds, stored_at}
use Rattle.radix_keys.proofs.KeyLemmas.Order.{three_ways}
use Rattle.sorted_tables.specs.Tables.{IsLastOf}
use Rattle.image_parts.specs.declared.errors.ImageError.{ImageError}
use Rattle.image_parts.specs.declared.errors.ImageError.TheVariants.{Short, Mark, Version, Part, Row, Span, Cell}
use Rattle.flat_routes.specs.declared.head.RowPlan.{RowPlan}
use Rattle.flat_routes.specs.Faults.{IsRouteFault, IsRoutePart, family}
use Rattle.flat_routes.specs.RowLaws.{AreSorted, ordered}
use Rattle.flat_routes.specs.Images.{AreLinkedTo, IsImage, IsNext, IsRowPlan, bases, bits_in, first_in, found_row, image_rows, link_in, links, network, row_in, sizes, value_in, width}

-- as many rows as the head says
pub length-rows : (wide : Bool) (bs : List ℕ) → length (image_rows wide bs) ≡ row_count bs
length-rows wide bs = length-listed (row_in wide bs) (row_count bs)

-- as many first addresses, bits and links as rows
pub length-firsts : (wide : Bool) (bs : List ℕ) → length (bases wide bs) ≡ row_count bs
length-firsts wide bs = length-map (image_rows wide bs) (λ r. r.0.base) ∙ length-listed (row_in wide bs) (row_count bs)

pub length-links : (wide : Bool) (bs : List ℕ) → length (links wide bs) ≡ row_count bs
length-links wide bs = length-listed (link_in wide bs) (row_count bs)

-- the first address, the bits and the link at an index
pub first_stored : (wide : Bool) (bs : List ℕ) (i : ℕ) → i < row_count bs → get_or (bases wide bs) i 0 ≡ first_in wide bs i
first_stored wide bs i l = (stored_at (λ r. r.0.base) (image_rows wide bs) i (row_in wide bs i) (listed_at (row_in wide bs) (row_count bs) i l)).1

pub size_stored : (wide : Bool) (bs : List ℕ) (i : ℕ) → i < row_count bs → get_or (sizes wide bs) i 0 ≡ bits_in wide bs i
size_stored wide bs i l = (stored_at (λ r. r.0.bits) (image_rows wide bs) i (row_in wide bs i) (listed_at (row_in wide bs) (row_count bs) i l)).1

-- a number read at an index
read_at : (xs : List ℕ) (i x : ℕ) → slice_get xs i ≡ Some x → get_or xs i 0 ≡ x
read_at [] i x at = absurd (cc at)
read_at (y ∷ ys) zero x at = cc at
read_at (y ∷ ys) (suc i) x at = read_at ys i x at

pub link_stored : (wide : Bool) (bs : List ℕ) (i : ℕ) → i < row_count bs → get_or (links wide bs) i 0 ≡ link_in wide bs i
link_stored wide bs i l = read_at (links wide bs) i (link_in wide bs i) (listed_at (link_in wide bs) (row_count bs) i l)

-- what stands where a row of IPv6 has its first address, its bits and its link
pub wide_first : (wide : Bool) (bs : List ℕ) (plan : RowPlan) (i : ℕ) → wide ≡ true → IsRowPlan wide bs plan → i < plan.rows
    → u128_in bs (plan.rows_at + 32 * i) ≡ get_or (bases wide bs) i 0
wide_first false bs plan i is of l = absurd (cc is)
wide_first true bs plan i is of l =
    ap (λ a. u128_in bs (a + 32 * i)) of.rows_at ∙ sym (first_stored true bs i (omega (arith, l, of.rows)))

pub wide_size : (wide : Bool) (bs : List ℕ) (plan : RowPlan) (i : ℕ) → wide ≡ true → IsRowPlan wide bs plan → i < plan.rows
    → u32_in bs (plan.rows_at + 32 * i + 16) ≡ get_or (sizes wide bs) i 0
wide_size false bs plan i is of l = absurd (cc is)
wide_size true bs plan i is of l =
    ap (λ a. u32_in bs (a + 32 * i + 16)) of.rows_at ∙ sym (size_stored true bs i (omega (arith, l, of.rows)))

pub wide_link : (wide : Bool) (bs : List ℕ) (plan : RowPlan) (i : ℕ) → wide ≡ true → IsRowPlan wide bs plan → i < plan.rows
    → u32_in bs (plan.rows_at + 32 * i + 20) ≡ get_or (links wide bs) i 0
wide_link false bs plan i is of l = absurd (cc is)
wide_link true bs plan i is of l =
    ap (λ a. u32_in bs (a + 32 * i + 20)) of.rows_at ∙ sym (link_stored true bs i (omega (arith, l, of.rows)))

-- and of IPv4
pub narrow_first : (wide : Bool) (bs : List ℕ) (plan : RowPlan) (i : ℕ) → wide ≡ false → IsRowPlan wide bs plan → i < plan.rows
    → u32_in bs (plan.rows_at + 16 * i) ≡ get_or (bases wide bs) i 0
narrow_first true bs plan i is of l = absurd (cc is)
narrow_first false bs plan i is of l =
    ap (λ a. u32_in bs (a + 16 * i)) of.rows_at ∙ sym (first_stored false bs i (omega (arith, l, of.rows)))

pub narrow_size : (wide : Bool) (bs : List ℕ) (plan : RowPlan) (i : ℕ) → wide ≡ false → IsRowPlan wide bs plan → i < plan.rows
    → u32_in bs (plan.rows_at + 16 * i + 4) ≡ get_or (sizes wide bs) i 0
narrow_size true bs plan i is of l = absurd (cc is)
narrow_size false bs plan i is of l =
    ap (λ a. u32_in bs (a + 16 * i + 4)) of.rows_at ∙ sym (size_stored false bs i (omega (arith, l, of.rows)))

pub narrow_link : (wide : Bool) (bs : List ℕ) (plan : RowPlan) (i : ℕ) → wide ≡ false → IsRowPlan wide bs plan → i < plan.rows
    → u32_in bs (plan.rows_at + 16 * i + 8) ≡ get_or (links wide bs) i 0
narrow_link true bs plan i is of l = absurd (cc is)
narrow_link false bs plan i is of l =
    ap (λ a. u32_in bs (a + 16 * i + 8)) of.rows_at ∙ sym (link_stored false bs i (omega (arith, l, of.rows)))

-- the first n networks rise
module _ (w : ℕ) (fs bs : List ℕ) (n : ℕ) (next : (k : ℕ) → k < n → IsNext w fs bs k) where
  -- and so do all where there are no more
  pub all_rise : length fs ≤ n → AreRising w fs bs
  all_rise all = record {
    bases = λ k l. (next k (omega (arith, l, all))).base;
    order = λ j k l m. ordered w fs bs n next j k l (omega (arith, m, all));
  }

-- what the first n networks say is said of any lists with the same first n numbers
module _ (w : ℕ) (fs bs gs cs : List ℕ) (n : ℕ) (firsts : (k : ℕ) → k < n → get_or gs k 0 ≡ get_or fs k 0)
    (counts : (k : ℕ) → k < n → get_or cs k 0 ≡ get_or bs k 0) where
  -- which of them hold an address
  holder_there : (a k : ℕ) → k < n → IsHolderAt w fs bs a k → IsHolderAt w gs cs a k
  holder_there a k l p =
      subst (λ f. AgreeIn w (get_or cs k 0) f a) (sym (firsts k l)) (subst (λ b. AgreeIn w b (get_or fs k 0) a) (sym (counts k l)) p)

  -- and the other way round
  holder_here : (a k : ℕ) → k < n → IsHolderAt w gs cs a k → IsHolderAt w fs bs a k
  holder_here a k l p = subst (λ f. AgreeIn w (get_or bs k 0) f a) (firsts k l) (subst (λ b. AgreeIn w b (get_or gs k 0) a) (counts k l) p)

  -- which of them is the last that holds an address
  pub last_there : (m a r : ℕ) → m ≤ n → IsLastHolder w fs bs m a r → IsLastHolder w gs cs m a r
  last_there m a r le last = record {
    within = last.within;
    holds = λ some. let most = last.within in holder_there a (r - 1) (omega (arith, some, most, le)) (last.holds some);
    none = λ k l lt p. last.none k l lt (holder_here a k (omega (arith, lt, le)) p);
  }

  -- that one comes after the one before it
  pub next_there : (k : ℕ) → k < n → IsNext w fs bs k → IsNext w gs cs k
  next_there k l own = record {
    base = subst (λ f. IsBase w (get_or cs k 0) f) (sym (firsts k l)) (subst (λ b. IsBase w b (get_or fs k 0)) (sym (counts k l)) own.base);
    after = λ some.
        let before : k - 1 < n = omega (arith, l) in
        let e1 = firsts (k - 1) before in
        let e2 = counts (k - 1) before in
        let e3 = firsts k l in
        let e4 = counts k l in
        rw (e1, e2, e3, e4) (own.after some);
  }

  -- that they rise, and have their links
  pub linked_there : (parents vs : List ℕ) → ((k : ℕ) → k < n → get_or vs k 0 ≡ get_or parents k 0) → AreLinkedTo w fs bs parents n → AreLinkedTo w gs cs vs n
  linked_there parents vs ups linked = record {
    next = λ k l. next_there k l (linked.next k l);
    links = λ k l.
        subst (λ a. IsLastHolder w gs cs k a (get_or vs k 0)) (sym (firsts k l)) (subst (IsLastHolder w gs cs k (get_or fs k 0)) (sym (ups k l))
        (last_there k (get_or fs k 0) (get_or parents k 0) (omega (arith, l)) (linked.links k l)));
  }

-- of rising networks each comes after the one before it
pub rising_next : (w : ℕ) (fs bs : List ℕ) → AreRising w fs bs → (k : ℕ) → k < length fs → IsNext w fs bs k
rising_next w fs bs rising k l = record {
  base = rising.bases k l;
  after = λ some. rising.order (k - 1) k (omega (arith, some)) l;
}

-- those of an image rise, and have their links
pub image_linked : (wide : Bool) (bs : List ℕ) (n : ℕ) → IsImage wide bs → n ≤ row_count bs
    → AreLinkedTo (width wide) (bases wide bs) (sizes wide bs) (links wide bs) n
image_linked wide bs n image within = record {
  next = λ k l. rising_next (width wide) (bases wide bs) (sizes wide bs) image.rising k (omega (arith, l, within, length-firsts wide bs));
  links = λ k l. image.linked k (omega (arith, l, within, length-links wide bs));
}

-- all rows of an image are sorted columns
pub all_sorted : (wide : Bool) (bs : List ℕ) (n : ℕ) → IsImage wide bs → n ≡ row_count bs → AreSorted (record { wide = wide; bytes = bs; rows = n })
all_sorted wide bs n image is = image_linked wide bs n image (omega (arith, is))

-- the last of some rising networks that holds an address is the longest of these
found_longest : (wide : Bool) (bs : List ℕ) (rows : List (Net ℕ × ℕ)) (a r : ℕ) → AreRowsInOrder (width wide) (λ m. m) rows
    → ((i : ℕ) → i < length rows → slice_get rows i ≡ Some (row_in wide bs i))
    → IsLastHolder (width wide) (base_numbers (λ m. m) rows) (bit_counts rows) (length rows) a r
    → IsLongestRow (width wide) (λ m. m) rows a (found_row wide bs r)
found_longest wide bs rows a zero rising stored last = none_holds (width wide) (λ m. m) rows rising a 0 refl last
found_longest wide bs rows a (suc i) rising stored last =
    let back : i ≡ suc i - 1 = omega arith in
    last_is_longest (width wide) (λ m. m) rows rising a (suc i) (row_in wide bs i) (omega arith) last
    (subst (λ k. slice_get rows k ≡ Some (row_in wide bs i)) back (stored i (let le = last.within in omega (arith, le))))

-- the last of all networks that holds an address is the longest
pub longest : (wide : Bool) (bs : List ℕ) (a r : ℕ) → IsImage wide bs → IsLastHolder (width wide) (bases wide bs) (sizes wide bs) (length (bases wide bs)) a r
    → IsLongestRow (width wide) (λ m. m) (image_rows wide bs) a (found_row wide bs r)
longest wide bs a r image last =
    let rows = image_rows wide bs in
    found_longest wide bs rows a r image.rising (λ i l. listed_at (row_in wide bs) (row_count bs) i (omega (arith, l, length-rows wide bs)))
    (subst (λ k. IsLastHolder (width wide) (bases wide bs) (sizes wide bs) k a r) (length-map rows (λ s. s.0.base)) last)

-- the last of some rising networks that holds all of a network is the longest of these
found_longest_around : (wide : Bool) (bs : List ℕ) (rows : List (Net ℕ × ℕ)) (net : Net ℕ) (r : ℕ) → AreRowsInOrder (width wide) (λ m. m) rows
    → ((i : ℕ) → i < length rows → slice_get rows i ≡ Some (row_in wide bs i))
    → IsLastAround (width wide) (base_numbers (λ m. m) rows) (bit_counts rows) (length rows) net.base net.bits r
    → IsLongestAround (width wide) (λ m. m) rows net (found_row wide bs r)
found_longest_around wide bs rows net zero rising stored last = none_around (width wide) (λ m. m) rows rising net 0 refl last
found_longest_around wide bs rows net (suc i) rising stored last =
    let back : i ≡ suc i - 1 = omega arith in
    last_around_is_longest (width wide) (λ m. m) rows rising net (suc i) (row_in wide bs i) (omega arith) last
    (subst (λ k. slice_get rows k ≡ Some (row_in wide bs i)) back (stored i (let le = last.within in omega (arith, le))))

-- the last of all networks that holds all of a network is the longest
pub longest_around : (wide : Bool) (bs : List ℕ) (net : Net ℕ) (r : ℕ) → IsImage wide bs
    → IsLastAround (width wide) (bases wide bs) (sizes wide bs) (row_count bs) net.base net.bits r
    → IsLongestAround (width wide) (λ m. m) (image_rows wide bs) net (found_row wide bs r)
longest_around wide bs net r image last =
    let rows = image_rows wide bs in
    found_longest_around wide bs rows net r image.rising (λ i l. listed_at (row_in wide bs) (row_count bs) i (omega (arith, l, length-rows wide bs)))
    (subst (λ k. IsLastAround (width wide) (bases wide bs) (sizes wide bs) k net.base net.bits r) (sym (length-rows wide bs)) last)

-- the first n of some rows have their numbers
pub front_number : {X : Type 0} (f : X → ℕ) (xs : List X) (n k : ℕ) → k < n → get_or (each f (take n xs)) k 0 ≡ get_or (each f xs) k 0
front_number f xs n k l = ap (λ ys. get_or ys k 0) (sym (take-map f n xs)) ∙ get_or-take n (each f xs) k 0 l

-- of the rows before one the last that holds its first address is the longest
pub longest_before : (wide : Bool) (bs : List ℕ) (n r : ℕ) → IsImage wide bs → n < row_count bs → r ≡ get_or (links wide bs) n 0
    → IsLongestRow (width wide) (λ m. m) (take n (image_rows wide bs)) (first_in wide bs n) (found_row wide bs r)
longest_before wide bs n r image inside is =
    let w = width wide in
    let rows = image_rows wide bs in
    let fs = bases wide bs in
    let bits = sizes wide bs in
    let before = take n rows in
    let many : length before ≡ n = length-take-le n rows (omega (arith, inside, length-rows wide bs)) in
    let firsts = front_number (λ s. s.0.base) rows n in
    let counts = front_number (λ s. s.0.bits) rows n in
    let linked = linked_there w fs bits (base_numbers (λ m. m) before) (bit_counts before) n firsts counts (links wide bs) (links wide bs) (λ k l. refl)
    (image_linked wide bs n image (omega (arith, inside))) in
    let rising = all_rise w _ _ n linked.next (omega (arith, length-map before (λ s. s.0.base), many)) in
    let last = image.linked n (omega (arith, inside, length-links wide bs)) in
    found_longest wide bs before (first_in wide bs n) r rising
    (λ i l. let lt : i < n = omega (arith, l, many) in
    ap (λ xs. slice_get xs i) (take_listed (row_in wide bs) n (row_count bs) (omega (arith, inside))) ∙ listed_at (row_in wide bs) n i lt)
    (subst (λ k. IsLastHolder w (base_numbers (λ m. m) before) (bit_counts before) k (first_in wide bs n) r) (sym many)
    (last_there w fs bits (base_numbers (λ m. m) before) (bit_counts before) n firsts counts n _ r (omega arith)
    (subst (λ a. IsLastHolder w fs bits n a r) (first_stored wide bs n inside) (subst (IsLastHolder w fs bits n (get_or fs n 0)) (sym is) last))))

-- the first n networks rise with one more that comes after them, and with its link
pub linked_more : (w : ℕ) (fs bs parents : List ℕ) (n : ℕ) → AreLinkedTo w fs bs parents n → IsNext w fs bs n → IsLastHolder w fs bs n (get_or fs n 0) (get_or parents n 0)
    → AreLinkedTo w fs bs parents (n + 1)
linked_more w fs bs parents n linked next last = record {
  next = λ k l. elim (cases_lt k n) [
    | inl lt ↦ linked.next k lt
    | inr ge ↦ let same : n ≡ k = omega (arith, l, ge) in subst (IsNext w fs bs) same next
  ];
  links = λ k l. elim (cases_lt k n) [
    | inl lt ↦ linked.links k lt
    | inr ge ↦ let same : n ≡ k = omega (arith, l, ge) in subst (λ j. IsLastHolder w fs bs j (get_or fs j 0) (get_or parents j 0)) same last
  ];
}

-- those before it begin at or before it
pub at_most_next : (w : ℕ) (fs bs parents : List ℕ) (n : ℕ) → AreLinkedTo w fs bs parents n → IsNext w fs bs n → (k : ℕ) → k < n → get_or fs k 0 ≤ get_or fs n 0
at_most_next w fs bs parents n linked next k l =
    let last = earlier_le _ _ _ _ (next.after (omega (arith, l))) in
    elim (cases_lt k (n - 1)) [
      | inl lt ↦ let le = earlier_le _ _ _ _ (ordered w fs bs n linked.next k (n - 1) lt (omega (arith, l))) in omega (arith, le, last)
      | inr ge ↦ let same : k ≡ n - 1 = omega (arith, l, ge) in let e = ap (λ i. get_or fs i 0) same in omega (arith, e, last)
    ]

-- there is one last of those that are sought
pub one_last : (P : ℕ → Type 0) (n r s : ℕ) → IsLastOf P n r → IsLastOf P n s → r ≡ s
one_last P n r s x y = elim (three_ways r s) [
  | inl lt ↦ absurd (x.none (s - 1) (omega (arith, lt)) (let le = y.within in omega (arith, lt, le)) (y.holds (omega (arith, lt))))
  | inr (inl e) ↦ e
  | inr (inr gt) ↦ absurd (y.none (r - 1) (omega (arith, gt)) (let le = x.within in omega (arith, gt, le)) (x.holds (omega (arith, gt))))
]

-- the row whose index and one more is a number, and what the number less one makes of it
pub found_less : (wide : Bool) (bs : List ℕ) (r : ℕ) (o : Option ℕ) → SomeIff o (1 ≤ r) (r - 1) → found_row wide bs r ≡ option_map (row_in wide bs) o
found_less wide bs zero None one = refl
found_less wide bs zero (Some i) one = absurd (let some = one.0 in omega (arith, some))
found_less wide bs (suc r) None one = absurd (one (omega arith))
found_less wide bs (suc r) (Some i) one = let same : r ≡ i = (let is = one.1 in omega (arith, is)) in ap (λ j. Some (row_in wide bs j)) same

-- fewer that are linked
pub linked_less : (w : ℕ) (fs bs parents : List ℕ) (m n : ℕ) → AreLinkedTo w fs bs parents n → m ≤ n → AreLinkedTo w fs bs parents m
linked_less w fs bs parents m n linked le = record { next = λ k l. linked.next k (omega (arith, l, le)); links = λ k l. linked.links k (omega (arith, l, le)) }

-- no network of none is the last that holds an address
pub none_of_none : (w : ℕ) (fs bs : List ℕ) (a : ℕ) → IsLastHolder w fs bs 0 a 0
none_of_none w fs bs a = record {
  within = omega arith;
  holds = λ some. absurd (omega (arith, some));
  none = λ k l m. absurd (omega (arith, m));
}

-- no row stands behind the last
pub no_row : (wide : Bool) (bs : List ℕ) (i : ℕ) → row_count bs ≤ i → slice_get (image_rows wide bs) i ≡ None
no_row wide bs i l = none_past (image_rows wide bs) i (omega (arith, l, length-rows wide bs))

-- the row of numbers that are read at an index
pub row_read : (wide : Bool) (bs : List ℕ) (i f b v : ℕ) → i < row_count bs → f ≡ get_or (bases wide bs) i 0 → b ≡ get_or (sizes wide bs) i 0 → v ≡ value_in wide bs i
    → row_in wide bs i ≡ (network f b, v)
row_read wide bs i f b v l first size value =
    sym (ap (λ x. (network x b, v)) (first ∙ first_stored wide bs i l)
    ∙ ap (λ x. (network (first_in wide bs i) x, v)) (size ∙ size_stored wide bs i l)
    ∙ ap (λ x. (network (first_in wide bs i) (bits_in wide bs i), x)) value)

pub row_is : (wide : Bool) (bs : List ℕ) (i f b v : ℕ) → i < row_count bs → f ≡ get_or (bases wide bs) i 0 → b ≡ get_or (sizes wide bs) i 0 → v ≡ value_in wide bs i
    → slice_get (image_rows wide bs) i ≡ Some (network f b, v)
row_is wide bs i f b v l first size value =
    listed_at (row_in wide bs) (row_count bs) i l ∙ ap (λ r. Some r) (row_read wide bs i f b v l first size value)

-- each part is that of an image
pub route_parts : (wide : Bool) (bs : List ℕ) → IsImage wide bs → (j : ℕ) → j < 3 → IsRoutePart wide bs j
route_parts wide bs image zero l = record { listed = image.head.rows; plain = image.plain; size = image.head.rows_size }
route_parts wide bs image (suc zero) l = record { listed = image.head.spans; start = image.head.start; some = image.spans.some; whole = image.whole_spans }
route_parts wide bs image (suc (suc j)) l = record { listed = image.head.cells; shift = image.head.shift; whole = image.whole_cells }

-- an image has no fault
pub no_fault : (wide : Bool) (bs : List ℕ) (e : ImageError) → IsRouteFault wide bs e → IsImage wide bs → ⊥
no_fault wide bs Short f image =
    let some = image.head.some in
    let fits = image.head.fits in
    elim f [ inl l ↦ omega (arith, l, some, fits) | inr l ↦ let past = l.1 in omega (arith, past, fits) ]
no_fault wide bs Mark f image = f.1 (ap family image.head.marked)
no_fault wide bs Version f image = f.2 image.head.marked
no_fault wide bs (Part i) f image =
    let three = f.within in
    let some = image.head.some in
    f.wrong (omega (arith, three, some)) (route_parts wide bs image i three)
no_fault wide bs (Row i) f image = let inside = f.within in f.wrong (image_linked wide bs (i + 1) image (omega (arith, inside)))
no_fault wide bs (Span i) f image = f.wrong (image.spans.each i f.within)
no_fault wide bs (Cell t) f image = f.wrong (image.cells t f.within)
