-- One row more.
use Rattle.std.proofs.Common.{◌≡◌, ℕ, ◌+◌, ◌-◌, ◌^◌, ◌<◌, ◌≤◌, ◌↔◌, inl, inr, Bool, true, ltb, Option, Some, None, List, [], ◌∷◌, ◌++◌, length, subst, sym, ap, ◌∙◌, arith, get_or}
use Rattle.std.specs.Prelude.{MatchOption, is_some}
use Rattle.std.proofs.lemmas.Bool.{lt-ltb, ltb-true}
use Rattle.std.proofs.lemmas.List.{get_or_append_left, length-append, length-map, map_push}
use Rattle.std.proofs.Math.Seq.{get_or-append_seam}
use Rattle.radix_keys.proofs.KeyLemmas.Order.{three_ways}
use Rattle.radix_keys.specs.Networks.{AgreeIn, IsBase, Net}
use Rattle.frozen_routes.specs.declared.directory.Cell.{Cell}
use Rattle.frozen_routes.specs.Routes.{AreLinked, AreRising, AreTopCells, AreUplinks, AreUppers, IsEarlier, IsHolderAt, IsLastHolder, AreRowsInOrder, base_numbers, bit_counts}
use Rattle.frozen_routes.proofs.RouteLemmas.Blocks.{earlier_le}
use Rattle.frozen_routes.proofs.RouteLemmas.Directory.{no_cells}
use Rattle.sorted_tables.proofs.TableLemmas.Links.{last_of_same, links_more}

-- what comes before one that comes before a third comes before the third
pub earlier_through : (a b c d e f : ℕ) → IsEarlier a b c d → IsEarlier c d e f → IsEarlier a b e f
earlier_through a b c d e f p q = elim p [
  | inl l ↦ inl (omega (arith, l, earlier_le c d e f q))
  | inr s ↦ let same = s.0 in let less = s.1 in elim q [
    | inl m ↦ inl (omega (arith, same, m))
    | inr t ↦ let also = t.0 in let more = t.1 in inr (omega (arith, same, also), omega (arith, less, more))
  ]
]

-- what holds of each item of an option holds where there is one
pub if_some : {N : Type 0} (o : Option N) (P Q : Type 0) (R : N → Type 0) → ((n : N) → R n → Q) → MatchOption o P R → is_some o ≡ true → Q
if_some None P Q R f h e = absurd (cc)
if_some (Some n) P Q R f h e = f n h

-- the test of two networks with other first addresses
pub by_firsts : (m k n j : ℕ) (some : Type 0) → some → (m ≡ n → ⊥) → (ltb m n ≡ true) ↔ (some → IsEarlier m k n j)
by_firsts m k n j some s apart = (
  λ e x. inl (ltb-true m n e),
  λ h. elim (h s) [ inl l ↦ lt-ltb m n l | inr e ↦ absurd (apart (e.0)) ],
)

-- the test of two networks with one first address
pub by_sizes : (m k n j : ℕ) (some : Type 0) → some → m ≡ n → (ltb k j ≡ true) ↔ (some → IsEarlier m k n j)
by_sizes m k n j some s same = (
  λ e x. inr (same, ltb-true k j e),
  λ h. elim (h s) [ inl l ↦ absurd (omega (arith, l, same)) | inr e ↦ lt-ltb k j (e.1) ],
)

-- of equal numbers the same holds
earlier_same : (a b c d a' b' c' d' : ℕ) → a ≡ a' → b ≡ b' → c ≡ c' → d ≡ d' → IsEarlier a b c d → IsEarlier a' b' c' d'
earlier_same a b c d a' b' c' d' p q r s h = elim h [
  | inl l ↦ inl (omega (arith, p, r, l))
  | inr e ↦ let same = e.0 in let less = e.1 in inr (omega (arith, p, r, same), omega (arith, q, s, less))
]

-- a test of equal numbers tells the same
pub tested_as : (t : Bool) (some : Type 0) (m k n j m' k' n' j' : ℕ) → m ≡ m' → k ≡ k' → n ≡ n' → j ≡ j'
    → (t ≡ true) ↔ (some → IsEarlier m k n j) → (t ≡ true) ↔ (some → IsEarlier m' k' n' j')
tested_as t some m k n j m' k' n' j' p q r s h = (
  λ e x. earlier_same _ _ _ _ _ _ _ _ p q r s (h.0 e x),
  λ f. h.1 (λ x. earlier_same _ _ _ _ _ _ _ _ (sym p) (sym q) (sym r) (sym s) (f x)),
)

module _ (w : ℕ) (fs bs : List ℕ) (f b : ℕ) (even : length bs ≡ length fs) where
  -- a number of the longer list that the shorter one has
  first_kept : (k : ℕ) → k < length fs → get_or (fs ++ f ∷ []) k 0 ≡ get_or fs k 0
  first_kept k l = get_or_append_left fs (f ∷ []) 0 k l

  size_kept : (k : ℕ) → k < length fs → get_or (bs ++ b ∷ []) k 0 ≡ get_or bs k 0
  size_kept k l = get_or_append_left bs (b ∷ []) 0 k (omega (arith, even, l))

  -- the last one of the longer list
  first_added : get_or (fs ++ f ∷ []) (length fs) 0 ≡ f
  first_added = get_or-append_seam fs f [] 0

  size_added : get_or (bs ++ b ∷ []) (length fs) 0 ≡ b
  size_added = ap (λ n. get_or (bs ++ b ∷ []) n 0) (sym even) ∙ get_or-append_seam bs b [] 0

  -- rising networks and one that comes after the last rise
  pub rising_more : AreRising w fs bs → IsBase w b f
      → (0 < length fs → IsEarlier (get_or fs (length fs - 1) 0) (get_or bs (length fs - 1) 0) f b)
      → AreRising w (fs ++ f ∷ []) (bs ++ b ∷ [])
  rising_more rising base last =
      let n = length-append fs (f ∷ []) in
      record {
        bases = λ k l. elim (three_ways k (length fs)) [
          | inl lt ↦ subst (λ m. IsBase w (get_or (bs ++ b ∷ []) k 0) m) (sym (first_kept k lt))
              (subst (λ j. IsBase w j (get_or fs k 0)) (sym (size_kept k lt)) (rising.bases k lt))
          | inr (inl e) ↦ subst (λ i. IsBase w (get_or (bs ++ b ∷ []) i 0) (get_or (fs ++ f ∷ []) i 0)) (sym e)
              (subst (λ m. IsBase w (get_or (bs ++ b ∷ []) (length fs) 0) m) (sym first_added) (subst (λ j. IsBase w j f) (sym size_added) base))
          | inr (inr g) ↦ absurd (omega (arith, g, l, n))
        ];
        order = λ j k l m. elim (three_ways k (length fs)) [
          | inl lt ↦ let before : j < length fs = omega (arith, l, lt) in
              earlier_same _ _ _ _ _ _ _ _ (sym (first_kept j before)) (sym (size_kept j before)) (sym (first_kept k lt)) (sym (size_kept k lt)) (rising.order j k l lt)
          | inr (inl e) ↦ let before : j < length fs = omega (arith, l, e) in
              let some : 0 < length fs = omega (arith, before) in
              subst (λ i. IsEarlier (get_or (fs ++ f ∷ []) j 0) (get_or (bs ++ b ∷ []) j 0) (get_or (fs ++ f ∷ []) i 0) (get_or (bs ++ b ∷ []) i 0)) (sym e)
              (earlier_same _ _ _ _ _ _ _ _ (sym (first_kept j before)) (sym (size_kept j before)) (sym first_added) (sym size_added) (elim (three_ways j (length fs - 1)) [
                | inl lt ↦ earlier_through _ _ _ _ _ _ (rising.order j (length fs - 1) lt (omega (arith, some))) (last some)
                | inr (inl s) ↦ subst (λ i. IsEarlier (get_or fs i 0) (get_or bs i 0) f b) (sym s) (last some)
                | inr (inr g) ↦ absurd (omega (arith, g, before))
              ]))
          | inr (inr g) ↦ absurd (omega (arith, g, m, n))
        ];
      }

  -- where networks and one more rise it comes after the last
  pub last_earlier : AreRising w (fs ++ f ∷ []) (bs ++ b ∷ []) → 0 < length fs
      → IsEarlier (get_or fs (length fs - 1) 0) (get_or bs (length fs - 1) 0) f b
  last_earlier rising some =
      let n = length-append fs (f ∷ []) in
      let before : length fs - 1 < length fs = omega (arith, some) in
      earlier_same _ _ _ _ _ _ _ _ (first_kept (length fs - 1) before) (size_kept (length fs - 1) before) first_added size_added
      (rising.order (length fs - 1) (length fs) before (omega (arith, n)))

  -- so a test of these tells whether they rise
  pub follow_by : (t : Bool) → AreRising w fs bs → IsBase w b f
      → (t ≡ true) ↔ (0 < length fs → IsEarlier (get_or fs (length fs - 1) 0) (get_or bs (length fs - 1) 0) f b)
      → (t ≡ true) ↔ AreRising w (fs ++ f ∷ []) (bs ++ b ∷ [])
  follow_by t rising base h = (λ e. rising_more rising base (h.0 e), λ more. h.1 (last_earlier more))

  -- all begin at or before it
  pub all_at_most : AreRising w (fs ++ f ∷ []) (bs ++ b ∷ []) → (k : ℕ) → k < length fs → get_or fs k 0 ≤ f
  all_at_most rising k l =
      let n = length-append fs (f ∷ []) in
      let most = earlier_le _ _ _ _ (rising.order k (length fs) l (omega (arith, n))) in
      omega (arith, most, first_kept k l, first_added)

  -- a network of the shorter lists holds the same
  holder_kept : (a k : ℕ) → k < length fs → IsHolderAt w fs bs a k ↔ IsHolderAt w (fs ++ f ∷ []) (bs ++ b ∷ []) a k
  holder_kept a k l = (
    λ p. subst (λ m. AgreeIn w (get_or (bs ++ b ∷ []) k 0) m a) (sym (first_kept k l)) (subst (λ j. AgreeIn w j (get_or fs k 0) a) (sym (size_kept k l)) p),
    λ p. subst (λ j. AgreeIn w j (get_or fs k 0) a) (size_kept k l) (subst (λ m. AgreeIn w (get_or (bs ++ b ∷ []) k 0) m a) (first_kept k l) p),
  )

  -- one link more
  uplinks_more : (parents : List ℕ) (r : ℕ) → length parents ≡ length fs → AreUplinks w fs bs parents → IsLastHolder w fs bs (length fs) f r → AreUplinks w (fs ++ f ∷ []) (bs ++ b ∷ []) (parents ++ r ∷ [])
  uplinks_more parents r same links last =
      links_more (λ k i. IsHolderAt w fs bs (get_or fs i 0) k) (λ k i. IsHolderAt w (fs ++ f ∷ []) (bs ++ b ∷ []) (get_or (fs ++ f ∷ []) i 0) k) parents r
      (λ k i l m. subst (λ a. IsHolderAt w fs bs (get_or fs i 0) k ↔ IsHolderAt w (fs ++ f ∷ []) (bs ++ b ∷ []) a k) (sym (first_kept i (omega (arith, m, same))))
      (holder_kept (get_or fs i 0) k (omega (arith, l, m, same)))) links
      (subst (λ n. IsLastHolder w (fs ++ f ∷ []) (bs ++ b ∷ []) n (get_or (fs ++ f ∷ []) n 0) r) (sym same)
      (subst (λ a. IsLastHolder w (fs ++ f ∷ []) (bs ++ b ∷ []) (length fs) a r) (sym first_added)
      (last_of_same (IsHolderAt w fs bs f) (IsHolderAt w (fs ++ f ∷ []) (bs ++ b ∷ []) f) (length fs) r (holder_kept f) last)))

  -- one row more and its link, and no table
  pub linked_more : (parents us : List ℕ) (e d : ℕ) (ts none : List Cell) (hs nil : List ℕ) (r : ℕ) → AreLinked w fs bs parents e ts hs → length fs + 1 < 2 ^ 32 → AreRising w (fs ++ f ∷ []) (bs ++ b ∷ [])
      → IsLastHolder w fs bs (length fs) f r → us ≡ parents ++ r ∷ [] → d < 128 → none ≡ [] → nil ≡ [] → AreLinked w (fs ++ f ∷ []) (bs ++ b ∷ []) us d none nil
  linked_more parents us e d ts none hs nil r kept few rising last is shift empty bare =
      let n = length-append fs (f ∷ []) in
      let m = length-append parents (r ∷ []) in
      let same = kept.linked in
      subst (λ vs. AreLinked w (fs ++ f ∷ []) (bs ++ b ∷ []) vs d none nil) (sym is) (record {
        few = omega (arith, few, n);
        rising = rising;
        linked = omega (arith, n, m, same);
        links = uplinks_more parents r same kept.links last;
        directory = no_cells d w (fs ++ f ∷ []) (bs ++ b ∷ []) none shift empty;
        uppers = λ i l. absurd (let none = ap length bare in omega (arith, none, l));
      })

-- each row has both numbers
pub as_many : {A V : Type 0} (number : A → ℕ) (rows : List (Net A × V)) → length (bit_counts rows) ≡ length (base_numbers number rows)
as_many number rows = length-map rows (λ r. r.0.bits) ∙ sym (length-map rows (λ r. number r.0.base))

-- rows and one more
module _ {A V : Type 0} (w : ℕ) (number : A → ℕ) (rows : List (Net A × V)) (row : Net A × V) where
  -- the table of rows and one more, by their numbers
  pub table_more : AreRising w (base_numbers number rows ++ number row.0.base ∷ []) (bit_counts rows ++ row.0.bits ∷ []) → AreRowsInOrder w number (rows ++ row ∷ [])
  table_more rising =
      subst (λ bs. AreRising w (base_numbers number (rows ++ row ∷ [])) bs) (sym (map_push (λ (r : Net A × V). r.0.bits) rows row))
      (subst (λ fs. AreRising w fs (bit_counts rows ++ row.0.bits ∷ [])) (sym (map_push (λ (r : Net A × V). number r.0.base) rows row)) rising)

  -- and back
  pub table_less : AreRowsInOrder w number (rows ++ row ∷ []) → AreRising w (base_numbers number rows ++ number row.0.base ∷ []) (bit_counts rows ++ row.0.bits ∷ [])
  table_less rising =
      subst (λ fs. AreRising w fs (bit_counts rows ++ row.0.bits ∷ [])) (map_push (λ (r : Net A × V). number r.0.base) rows row)
      (subst (λ bs. AreRising w (base_numbers number (rows ++ row ∷ [])) bs) (map_push (λ (r : Net A × V). r.0.bits) rows row) rising)

  -- one row more and its link
  pub linked_row : (parents us : List ℕ) (e d : ℕ) (ts none : List Cell) (hs nil : List ℕ) (more : List (Net A × V)) (r : ℕ) → AreLinked w (base_numbers number rows) (bit_counts rows) parents e ts hs
      → length rows + 1 < 2 ^ 32
      → AreRising w (base_numbers number rows ++ number row.0.base ∷ []) (bit_counts rows ++ row.0.bits ∷ [])
      → IsLastHolder w (base_numbers number rows) (bit_counts rows) (length rows) (number row.0.base) r
      → more ≡ rows ++ row ∷ [] → us ≡ parents ++ r ∷ [] → d < 128 → none ≡ [] → nil ≡ [] → AreLinked w (base_numbers number more) (bit_counts more) us d none nil
  linked_row parents us e d ts none hs nil more r kept few rising last is ups shift empty bare =
      let all = length-map rows (λ s. number s.0.base) in
      let holder = subst (λ n. IsLastHolder w (base_numbers number rows) (bit_counts rows) n (number row.0.base) r) (sym all) last in
      let linked =
      linked_more w (base_numbers number rows) (bit_counts rows) (number row.0.base) row.0.bits (as_many number rows) parents us e d ts none hs nil r kept (omega (arith, few, all)) rising holder ups shift empty bare in
      subst (λ rs. AreLinked w (base_numbers number rs) (bit_counts rs) us d none nil) (sym is)
      (subst (λ bs. AreLinked w (base_numbers number (rows ++ row ∷ [])) bs us d none nil) (sym (map_push (λ (s : Net A × V). s.0.bits) rows row))
      (subst (λ fs. AreLinked w fs (bit_counts rows ++ row.0.bits ∷ []) us d none nil) (sym (map_push (λ (s : Net A × V). number s.0.base) rows row)) linked))

-- the same rows and links with another table
pub topped : {A V : Type 0} (w : ℕ) (number : A → ℕ) (rows again : List (Net A × V)) (parents us : List ℕ) (e : ℕ) (ts : List Cell) (hs : List ℕ) (d : ℕ) (vs : List Cell) (halves : List ℕ)
    → AreLinked w (base_numbers number rows) (bit_counts rows) parents e ts hs → again ≡ rows → us ≡ parents → AreTopCells d w (base_numbers number again) (bit_counts again) vs
    → AreUppers (base_numbers number again) halves → AreLinked w (base_numbers number again) (bit_counts again) us d vs halves
topped w number rows again parents us e ts hs d vs halves kept same links directory uppers =
    let moved = subst (λ rs. AreLinked w (base_numbers number rs) (bit_counts rs) us e ts hs) (sym same) (subst (λ ks. AreLinked w (base_numbers number rows) (bit_counts rows) ks e ts hs) (sym links) kept) in
    record { few = moved.few; rising = moved.rising; linked = moved.linked; links = moved.links; directory = directory; uppers = uppers }
