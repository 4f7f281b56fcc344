-- Keys whose encodings rise, in an order that the encodings keep.
use Rattle.std.proofs.Common.{◌≡◌, ℕ, ℤ, ◌<◌, ◌^◌, ◌⊎◌, inl, inr, T, ◌&&◌, true, List, [], ◌∷◌, map as each, All, FitsSigned, Less, Equal, Greater, Ordering, nat_cmp, int_cmp, is_le, is_lt, refl, sym, ap, ◌∙◌, subst, arith}
use Rattle.std.proofs.lemmas.Cmp.{int_ranked, nat_list_cmp_total}
use Rattle.std.proofs.lemmas.List.Elements.{All-cons, All-nil}
use Rattle.std.proofs.lemmas.List.Kept.{AllPairs-cons}
use Rattle.std.specs.Cmp.{ranked, tied_itself}
use Rattle.std.specs.Cmp.Lexicographic.{slice_cmp, lists_total}
use Rattle.std.specs.FinMap.{slice_cmp-IsAntisymmetric}
use Rattle.std.specs.Int.{Width, byte_len}
use Rattle.std.specs.List.{AllPairs}
use Rattle.std.specs.Ordering.{ordering_reverse}
use Rattle.nibble_map.specs.Lists.{Each, IsBefore, IsRising}
use Rattle.nibble_map.specs.Nibbles.{nibbles}
use Rattle.nibble_map.proofs.ListLemmas.Sorted.{rising_of_sorted, sorted_of_rising, tied_lists_equal}
use Rattle.nibble_map.proofs.MapLemmas.Bridge.{both_hold, first_of_both, greater_by_less, less_by_test}
use Rattle.radix_keys.specs.AscendingKeys.{turned_bytes}
use Rattle.radix_keys.specs.Integers.{signed_bytes, unsigned_key}
use Rattle.radix_keys.specs.Order.{Precedes}
use Rattle.radix_keys.specs.Parts.{AreParts, part_bytes}
use Rattle.radix_keys.proofs.KeyLemmas.Ascending as ascending
use Rattle.radix_keys.proofs.KeyLemmas.Order.{byte_order, unsigned_order}
use Rattle.radix_keys.proofs.PartLemmas.{parts_order}
use Rattle.radix_trie.specs.Keys.{IsKeptOrder}

-- lists of nibbles compare as equal where they are equal
pub equal_lists : (p q : List ℕ) → p ≡ q → slice_cmp nat_cmp p q ≡ Equal
equal_lists p q e = sym (ap (slice_cmp nat_cmp p) e) ∙ tied_itself nat_list_cmp_total p

-- a list that compares as less comes before the other
pub before_by_test : (p q : List ℕ) → T (is_lt (slice_cmp nat_cmp p q)) → IsBefore p q
before_by_test p q h = (let less = is_lt (slice_cmp nat_cmp p q) in (rising_of_sorted {P = Unit {0}} ((p, tt) ∷ (q, tt) ∷ []) (both_hold (less && true) true (both_hold less true h tt) tt)).0.0)

-- and a list that comes before the other compares as less
pub test_by_before : (p q : List ℕ) → IsBefore p q → T (is_lt (slice_cmp nat_cmp p q))
test_by_before p q h = (let less = is_lt (slice_cmp nat_cmp p q) in first_of_both less true (first_of_both (less && true) true (sorted_of_rising {P = Unit {0}} ((p, tt) ∷ (q, tt) ∷ []) ((h, tt), (tt, tt)))))

-- a list that compares as less or equal is the other or comes before it
pub from_by_test : (q e : List ℕ) → T (is_le (slice_cmp nat_cmp q e)) → (e ≡ q) ⊎ IsBefore q e
from_by_test q e h = by (slice_cmp nat_cmp q e) refl h
  where
    by : (o : Ordering) → slice_cmp nat_cmp q e ≡ o → T (is_le o) → (e ≡ q) ⊎ IsBefore q e
    by Less same h = inr (before_by_test q e (subst (λ o. T (is_lt o)) (sym same) tt))
    by Equal same h = inl (sym (tied_lists_equal q e same))
    by Greater same h = absurd h

pub test_by_from : (q e : List ℕ) → (e ≡ q) ⊎ IsBefore q e → T (is_le (slice_cmp nat_cmp q e))
test_by_from q e (inl same) = subst (λ o. T (is_le o)) (sym (equal_lists q e (sym same))) tt
test_by_from q e (inr before) = subst (λ o. T (is_le o)) (sym (less_by_test (slice_cmp nat_cmp q e) (test_by_before q e before))) tt

module _ {K : Type 0} (enc : K → List ℕ) (is : K → Type 0) (cmp : K → K → Ordering) (kept : IsKeptOrder enc is cmp) where
  -- of two keys the one with the lesser encoding is less
  less_of_before : (x y : K) → is x → is y → IsBefore (enc x) (enc y) → cmp x y ≡ Less
  less_of_before x y p q h = sym (kept x y p q) ∙ less_by_test (slice_cmp nat_cmp (enc x) (enc y)) (test_by_before (enc x) (enc y) h)

  module _ {V : Type 0} where
    -- a key whose encoding comes before those of others is less than they
    less_of_each : (k : K) → is k → (ps : List (K × V)) → Each (λ p. is p.0) ps → Each (IsBefore (enc k)) (each (λ p. enc p.0) ps) → All (λ y. cmp k y ≡ Less) (each (λ p. p.0) ps)
    less_of_each k i [] is_each before = All-nil (λ y. cmp k y ≡ Less)
    less_of_each k i (p ∷ ps) is_each before =
        All-cons (λ y. cmp k y ≡ Less) p.0 (each (λ p. p.0) ps) (less_of_before k p.0 i is_each.0 before.0) (less_of_each k i ps is_each.1 before.1)

    -- where the encodings of keys rise, the keys do
    pub keys_rise : (ps : List (K × V)) → Each (λ p. is p.0) ps → IsRising (each (λ p. enc p.0) ps) → AllPairs (λ x y. cmp x y ≡ Less) (each (λ p. p.0) ps)
    keys_rise [] is_each rising = λ i j d lt within. absurd (omega (arith, lt, within))
    keys_rise (p ∷ ps) is_each rising =
        AllPairs-cons (λ x y. cmp x y ≡ Less) p.0 (each (λ p. p.0) ps) (less_of_each p.0 is_each.0 ps is_each.1 rising.0) (keys_rise ps is_each.1 rising.1)

-- what an order gives, by the three cases
by_three : (o r : Ordering) → (o ≡ Less → r ≡ Less) → (o ≡ Equal → r ≡ Equal) → (o ≡ Greater → r ≡ Greater) → r ≡ o
by_three Less r l e g = l refl
by_three Equal r l e g = e refl
by_three Greater r l e g = g refl

-- and a list that another precedes comes after it
pub after_list : (p q : List ℕ) → Precedes q p → slice_cmp nat_cmp p q ≡ Greater
after_list p q h = greater_by_less (slice_cmp nat_cmp) nat_list_cmp_total q p (subst (λ o. T (is_lt o)) (sym h) tt)

-- unsigned numbers are kept in order
pub numbers_kept : (w : Width) → IsKeptOrder (unsigned_key w) (λ n. n < 256 ^ byte_len w) nat_cmp
numbers_kept w x y p q = by_three (nat_cmp x y) (slice_cmp nat_cmp (unsigned_key w x) (unsigned_key w y))
    (λ l. (unsigned_order w).precedes x y (ranked x y Less (sym l)) q)
    (λ e. equal_lists (unsigned_key w x) (unsigned_key w y) (ap (unsigned_key w) (ranked x y Equal (sym e))))
    (λ g. after_list (unsigned_key w x) (unsigned_key w y) ((unsigned_order w).precedes y x (ranked x y Greater (sym g)) p))

-- and texts, as bytes
pub texts_kept : {K : Type 0} (bytes_of : K → List ℕ) → IsKeptOrder (λ k. nibbles (bytes_of k)) (λ _. Unit {0}) (λ x y. slice_cmp nat_cmp (bytes_of x) (bytes_of y))
texts_kept bytes_of x y p q = by_three (slice_cmp nat_cmp (bytes_of x) (bytes_of y)) (slice_cmp nat_cmp (nibbles (bytes_of x)) (nibbles (bytes_of y)))
    (λ l. byte_order.precedes (bytes_of x) (bytes_of y) l)
    (λ e. equal_lists (nibbles (bytes_of x)) (nibbles (bytes_of y)) (ap nibbles (tied_lists_equal (bytes_of x) (bytes_of y) e)))
    (λ g. after_list (nibbles (bytes_of x)) (nibbles (bytes_of y)) (byte_order.precedes (bytes_of y) (bytes_of x) (nat_list_cmp_total.antisymm (bytes_of y) (bytes_of x) ∙ ap ordering_reverse g)))

-- and lists of parts, part by part
pub parts_kept : IsKeptOrder (λ parts. nibbles (part_bytes parts)) AreParts (slice_cmp (slice_cmp nat_cmp))
parts_kept x y p q = by_three (slice_cmp (slice_cmp nat_cmp) x y) (slice_cmp nat_cmp (nibbles (part_bytes x)) (nibbles (part_bytes y)))
    (λ l. parts_order.precedes x y p q l)
    (λ e. equal_lists (nibbles (part_bytes x)) (nibbles (part_bytes y)) (ap (λ t. nibbles (part_bytes t)) (slice_cmp-IsAntisymmetric tied_lists_equal x y e)))
    (λ g. after_list (nibbles (part_bytes x)) (nibbles (part_bytes y)) (parts_order.precedes y x q p ((lists_total nat_list_cmp_total).antisymm y x ∙ ap ordering_reverse g)))

-- and keys that are read as signed numbers, by their ascending encodings
pub signed_kept : {X : Type 0} (w : Width) (bytes : X → List ℕ) (number : X → ℤ) (ok : X → Type 0) → ((x : X) → ok x → FitsSigned w (number x)) → ((x : X) → ok x → bytes x ≡ signed_bytes w (number x))
    → IsKeptOrder (λ x. nibbles (turned_bytes (bytes x))) ok (λ x y. int_cmp (number x) (number y))
signed_kept w bytes number ok within two x y p q = by_three (int_cmp (number x) (number y)) (slice_cmp nat_cmp (nibbles (turned_bytes (bytes x))) (nibbles (turned_bytes (bytes y))))
    (λ l. ascending.keys_rise w bytes number ok within two x y p q (int_ranked (number x) (number y) Less (sym l)))
    (λ e. equal_lists (nibbles (turned_bytes (bytes x))) (nibbles (turned_bytes (bytes y))) (ap (λ b. nibbles (turned_bytes b)) (two x p ∙ ap (signed_bytes w) (int_ranked (number x) (number y) Equal (sym e)) ∙ sym (two y q))))
    (λ g. after_list (nibbles (turned_bytes (bytes x))) (nibbles (turned_bytes (bytes y))) (ascending.keys_rise w bytes number ok within two y x q p (int_ranked (number x) (number y) Greater (sym g))))
