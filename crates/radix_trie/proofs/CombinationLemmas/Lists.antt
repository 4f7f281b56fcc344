-- The entries of two sides together, cut where all of both come before all others.
use Rattle.std.proofs.Common.{◌≡◌, ◌<◌, ◌≤◌, ℕ, suc, Bool, true, false, cond, not, List, [], ◌∷◌, ◌++◌, Some, is_some, is_eq, Less, Equal, Greater, nat_cmp, refl, ap, sym, ◌∙◌, arith, map as each}
use Rattle.std.proofs.lemmas.List.Elements.{filter-append}
use Rattle.std.specs.Cmp.{nat_cmp_is}
use Rattle.std.specs.Cmp.Lexicographic.{slice_cmp}
use Rattle.std.specs.FinMap.{find, put}
use Rattle.std.specs.FinMap.Entries.{by_order, where_key}
use Rattle.std.specs.Ordering.{ordering_then}
use Rattle.nibble_map.specs.Lists.{Each}
use Rattle.radix_trie.specs.declared.iter.combination.Operation.{Operation}
use Rattle.radix_trie.specs.declared.iter.combination.Operation.TheVariants as operation
use Rattle.radix_trie.specs.Combinations.{combined_entries, has_entry, merged_entries, picked}

-- lists rise with their first nibbles, and the empty one comes before all others
abbrev pub rank : List ℕ → ℕ
rank [] = 0
rank (a ∷ q) = suc a

rank_less : (p q : List ℕ) → rank p < rank q → slice_cmp nat_cmp p q ≡ Less
rank_less p [] lt = absurd (omega arith)
rank_less [] (b ∷ q) lt = refl
rank_less (a ∷ p) (b ∷ q) lt = ap (λ o. ordering_then o (slice_cmp nat_cmp p q)) (sym (nat_cmp_is a b Less (omega arith)))

rank_greater : (p q : List ℕ) → rank q < rank p → slice_cmp nat_cmp p q ≡ Greater
rank_greater [] q lt = absurd (omega arith)
rank_greater (a ∷ p) [] lt = refl
rank_greater (a ∷ p) (b ∷ q) lt = ap (λ o. ordering_then o (slice_cmp nat_cmp p q)) (sym (nat_cmp_is a b Greater (omega arith)))

abbrev kept : Bool → Bool → Bool
kept keeps has = cond keeps has (not has)

module _ {P : Type 0} where
  abbrev pub IsEarly : ℕ → List (List ℕ × P) → Type 0
  IsEarly n es = Each (λ e. rank e.0 ≤ n) es

  abbrev pub IsLate : ℕ → List (List ℕ × P) → Type 0
  IsLate n es = Each (λ e. n < rank e.0) es

  -- what holds of entries holds of those that pass a test
  each_where : (Q : List ℕ × P → Type 0) (t : List ℕ → Bool) (es : List (List ℕ × P)) → Each Q es → Each Q (where_key (slice_cmp nat_cmp) t es)
  each_where Q t [] h = tt
  each_where Q t (e ∷ es) h =
      let rest = each_where Q t es h.1 in
      let left = where_key (slice_cmp nat_cmp) t es in
      elim (t e.0) as (λ b. Each Q (cond b (e ∷ left) left)) [ true ↦ (h.0, rest) | false ↦ rest ]

  module _ (n : ℕ) where
    -- an early list is found among the early entries alone
    find-early : (q : List ℕ) (es fs : List (List ℕ × P)) → rank q ≤ n → IsLate n fs → find (slice_cmp nat_cmp) q (es ++ fs) ≡ find (slice_cmp nat_cmp) q es
    find-early q [] [] low late = refl
    find-early q [] (f ∷ fs) low late =
        ap (λ r. cond (is_eq r) (Some f.1) (find (slice_cmp nat_cmp) q fs)) (rank_less q f.0 (omega (arith, late.0))) ∙ find-early q [] fs low late.1
    find-early q (e ∷ es) fs low late = ap (λ o. cond (is_eq (slice_cmp nat_cmp q e.0)) (Some e.1) o) (find-early q es fs low late)

    -- a late one among the late ones
    find-late : (q : List ℕ) (es fs : List (List ℕ × P)) → n < rank q → IsEarly n es → find (slice_cmp nat_cmp) q (es ++ fs) ≡ find (slice_cmp nat_cmp) q fs
    find-late q [] fs high early = refl
    find-late q (e ∷ es) fs high early =
        ap (λ r. cond (is_eq r) (Some e.1) (find (slice_cmp nat_cmp) q (es ++ fs))) (rank_greater q e.0 (omega (arith, early.0))) ∙ find-late q es fs high early.1

    picked_early : (keeps : Bool) (es fs gs : List (List ℕ × P)) → IsEarly n es → IsLate n gs → picked keeps es (fs ++ gs) ≡ picked keeps es fs
    picked_early keeps [] fs gs early late = refl
    picked_early keeps (e ∷ es) fs gs early late =
        let rest = picked_early keeps es fs gs early.1 late in
        λ i. cond (kept keeps (is_some (find-early e.0 fs gs early.0 late i))) (e ∷ rest i) (rest i)

    picked_late : (keeps : Bool) (es fs gs : List (List ℕ × P)) → IsLate n es → IsEarly n fs → picked keeps es (fs ++ gs) ≡ picked keeps es gs
    picked_late keeps [] fs gs late early = refl
    picked_late keeps (e ∷ es) fs gs late early =
        let rest = picked_late keeps es fs gs late.1 early in
        λ i. cond (kept keeps (is_some (find-late e.0 fs gs late.0 early i))) (e ∷ rest i) (rest i)

    -- an early entry is put among the early ones
    put_early : (e : List ℕ × P) (es fs : List (List ℕ × P)) → rank e.0 ≤ n → IsLate n fs
        → put (slice_cmp nat_cmp) e.0 e.1 (es ++ fs) ≡ put (slice_cmp nat_cmp) e.0 e.1 es ++ fs
    put_early e [] [] low late = refl
    put_early e [] (f ∷ fs) low late =
        ap (λ r. by_order r (e ∷ f ∷ fs) ((f.0, e.1) ∷ fs) (f ∷ put (slice_cmp nat_cmp) e.0 e.1 fs)) (rank_less e.0 f.0 (omega (arith, late.0)))
    put_early e (x ∷ es) fs low late =
        elim (slice_cmp nat_cmp e.0 x.0) as (λ r. by_order r (e ∷ x ∷ (es ++ fs)) ((x.0, e.1) ∷ (es ++ fs)) (x ∷ put (slice_cmp nat_cmp) e.0 e.1 (es ++ fs))
        ≡ by_order r (e ∷ x ∷ es) ((x.0, e.1) ∷ es) (x ∷ put (slice_cmp nat_cmp) e.0 e.1 es) ++ fs) [
          | Less ↦ refl
          | Equal ↦ refl
          | Greater ↦ ap (λ ys. x ∷ ys) (put_early e es fs low late)
        ]

    -- a late one among the late ones
    put_late : (e : List ℕ × P) (es fs : List (List ℕ × P)) → n < rank e.0 → IsEarly n es
        → put (slice_cmp nat_cmp) e.0 e.1 (es ++ fs) ≡ es ++ put (slice_cmp nat_cmp) e.0 e.1 fs
    put_late e [] fs high early = refl
    put_late e (x ∷ es) fs high early =
        ap (λ r. by_order r (e ∷ x ∷ (es ++ fs)) ((x.0, e.1) ∷ (es ++ fs)) (x ∷ put (slice_cmp nat_cmp) e.0 e.1 (es ++ fs))) (rank_greater e.0 x.0 (omega (arith, early.0)))
        ∙ ap (λ ys. x ∷ ys) (put_late e es fs high early.1)

    late_put : (e : List ℕ × P) (es : List (List ℕ × P)) → n < rank e.0 → IsLate n es → IsLate n (put (slice_cmp nat_cmp) e.0 e.1 es)
    late_put e [] high late = (high, tt)
    late_put e (x ∷ es) high late =
        elim (slice_cmp nat_cmp e.0 x.0) as (λ r. IsLate n (by_order r (e ∷ x ∷ es) ((x.0, e.1) ∷ es) (x ∷ put (slice_cmp nat_cmp) e.0 e.1 es))) [
          | Less ↦ (high, late)
          | Equal ↦ late
          | Greater ↦ (late.0, late_put e es high late.1)
        ]

    late_merged : (es fs : List (List ℕ × P)) → IsLate n es → IsLate n fs → IsLate n (merged_entries es fs)
    late_merged [] fs late other = other
    late_merged (e ∷ es) fs late other = late_put e (merged_entries es fs) late.0 (late_merged es fs late.1 other)

    merged_late : (es fs gs : List (List ℕ × P)) → IsLate n es → IsEarly n fs → merged_entries es (fs ++ gs) ≡ fs ++ merged_entries es gs
    merged_late [] fs gs late early = refl
    merged_late (e ∷ es) fs gs late early =
        ap (put (slice_cmp nat_cmp) e.0 e.1) (merged_late es fs gs late.1 early) ∙ put_late e fs (merged_entries es gs) late.0 early

    picked_cut : (keeps : Bool) (es fs xs ys : List (List ℕ × P)) → IsEarly n es → IsLate n fs → IsEarly n xs → IsLate n ys
        → picked keeps (es ++ fs) (xs ++ ys) ≡ picked keeps es xs ++ picked keeps fs ys
    picked_cut keeps es fs xs ys early late first last =
        filter-append (λ (e : List ℕ × P). kept keeps (has_entry (xs ++ ys) e.0)) es fs
        ∙ (λ i. picked_early keeps es xs ys early last i ++ picked_late keeps fs xs ys late first i)

    merged_cut : (es fs xs ys : List (List ℕ × P)) → IsEarly n es → IsLate n fs → IsEarly n xs → IsLate n ys → merged_entries (es ++ fs) (xs ++ ys) ≡ merged_entries es xs ++ merged_entries fs ys
    merged_cut [] fs xs ys early late first last = merged_late fs xs ys late first
    merged_cut (e ∷ es) fs xs ys early late first last =
        ap (put (slice_cmp nat_cmp) e.0 e.1) (merged_cut es fs xs ys early.1 late first last)
        ∙ put_early e (merged_entries es xs) (merged_entries fs ys) early.0 (late_merged fs ys late last)

    -- the early entries of both give what comes first, and the late ones the rest
    pub combined_cut : (op : Operation) (es fs xs ys : List (List ℕ × P)) → IsEarly n es → IsLate n fs → IsEarly n xs → IsLate n ys
        → combined_entries op (es ++ fs) (xs ++ ys) ≡ combined_entries op es xs ++ combined_entries op fs ys
    combined_cut operation.Union es fs xs ys early late first last = merged_cut es fs xs ys early late first last
    combined_cut operation.Intersection es fs xs ys early late first last = picked_cut true es fs xs ys early late first last
    combined_cut operation.Difference es fs xs ys early late first last = picked_cut false es fs xs ys early late first last
    combined_cut operation.SymmetricDifference es fs xs ys early late first last =
        (λ i. merged_entries (picked_cut false es fs xs ys early late first last i) (picked_cut false xs ys es fs first last early late i))
        ∙ merged_cut (picked false es xs) (picked false fs ys) (picked false xs es) (picked false ys fs)
        (each_where _ (λ q. not (has_entry xs q)) es early) (each_where _ (λ q. not (has_entry ys q)) fs late)
        (each_where _ (λ q. not (has_entry es q)) xs first) (each_where _ (λ q. not (has_entry fs q)) ys last)

-- entries with other lists in the same order, and with other values
module _ {P Q : Type 0} (g : List ℕ → List ℕ) (same : (p q : List ℕ) → slice_cmp nat_cmp (g p) (g q) ≡ slice_cmp nat_cmp p q) (h : P → Q) where
  abbrev moved : List (List ℕ × P) → List (List ℕ × Q)
  moved es = each (λ e. (g e.0, h e.1)) es

  has-moved : (q : List ℕ) (es : List (List ℕ × P)) → has_entry (moved es) (g q) ≡ has_entry es q
  has-moved q [] = refl
  has-moved q (e ∷ es) =
      ap (λ r. is_some (cond (is_eq r) (Some (h e.1)) (find (slice_cmp nat_cmp) (g q) (moved es)))) (same q e.0) ∙ by (is_eq (slice_cmp nat_cmp q e.0)) (has-moved q es)
    where
      by : (b : Bool) → has_entry (moved es) (g q) ≡ has_entry es q
          → is_some (cond b (Some (h e.1)) (find (slice_cmp nat_cmp) (g q) (moved es))) ≡ is_some (cond b (Some e.1) (find (slice_cmp nat_cmp) q es))
      by true rest = refl
      by false rest = rest

  picked-moved : (keeps : Bool) (es fs : List (List ℕ × P)) → picked keeps (moved es) (moved fs) ≡ moved (picked keeps es fs)
  picked-moved keeps [] fs = refl
  picked-moved keeps (e ∷ es) fs =
      let rest = picked-moved keeps es fs in
      (λ i. cond (kept keeps (has-moved e.0 fs i)) ((g e.0, h e.1) ∷ rest i) (rest i)) ∙ by (kept keeps (has_entry fs e.0))
    where
      by : (b : Bool) → cond b ((g e.0, h e.1) ∷ moved (picked keeps es fs)) (moved (picked keeps es fs)) ≡ moved (cond b (e ∷ picked keeps es fs) (picked keeps es fs))
      by true = refl
      by false = refl

  put-moved : (e : List ℕ × P) (es : List (List ℕ × P)) → put (slice_cmp nat_cmp) (g e.0) (h e.1) (moved es) ≡ moved (put (slice_cmp nat_cmp) e.0 e.1 es)
  put-moved e [] = refl
  put-moved e (x ∷ es) =
      ap (λ r. by_order r ((g e.0, h e.1) ∷ moved (x ∷ es)) ((g x.0, h e.1) ∷ moved es) ((g x.0, h x.1) ∷ put (slice_cmp nat_cmp) (g e.0) (h e.1) (moved es))) (same e.0 x.0)
      ∙ (elim (slice_cmp nat_cmp e.0 x.0) as (λ r. by_order r ((g e.0, h e.1) ∷ moved (x ∷ es)) ((g x.0, h e.1) ∷ moved es) ((g x.0, h x.1) ∷ put (slice_cmp nat_cmp) (g e.0) (h e.1) (moved es))
      ≡ moved (by_order r (e ∷ x ∷ es) ((x.0, e.1) ∷ es) (x ∷ put (slice_cmp nat_cmp) e.0 e.1 es))) [
        | Less ↦ refl
        | Equal ↦ refl
        | Greater ↦ ap (λ ys. (g x.0, h x.1) ∷ ys) (put-moved e es)
      ])

  merged-moved : (es fs : List (List ℕ × P)) → merged_entries (moved es) (moved fs) ≡ moved (merged_entries es fs)
  merged-moved [] fs = refl
  merged-moved (e ∷ es) fs = ap (put (slice_cmp nat_cmp) (g e.0) (h e.1)) (merged-moved es fs) ∙ put-moved e (merged_entries es fs)

  -- an operation gives the same of them, so moved
  pub combined-moved : (op : Operation) (es fs : List (List ℕ × P)) → combined_entries op (moved es) (moved fs) ≡ moved (combined_entries op es fs)
  combined-moved operation.Union es fs = merged-moved es fs
  combined-moved operation.Intersection es fs = picked-moved true es fs
  combined-moved operation.Difference es fs = picked-moved false es fs
  combined-moved operation.SymmetricDifference es fs =
      (λ i. merged_entries (picked-moved false es fs i) (picked-moved false fs es i)) ∙ merged-moved (picked false es fs) (picked false fs es)
