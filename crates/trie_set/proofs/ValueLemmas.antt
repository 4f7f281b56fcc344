-- The values at a list of what two maps hold together.
use Rattle.std.proofs.Common.{◌≡◌, ℕ, Bool, true, false, cond, not, List, Option, Some, None, is_some, option_map, refl, ap, sym, ◌∙◌}
use Rattle.std.specs.FinMap as map
use Rattle.std.specs.Option.{option_or}
use Rattle.nibble_map.specs.Maps.{IsStored, PairMap, value_at}
use Rattle.nibble_map.proofs.MapLemmas.Edits.{not_None}
use Rattle.radix_trie.specs.Sets.{common, joined, lacking}
use Rattle.radix_trie.proofs.LawLemmas.Asked.{true_by_test}
use Rattle.trie_set.proofs.SetLemmas.{get-common, get-common_ours, get-joined, get-lacking}

-- nothing in the other's place
or_none : {V : Type 0} (o : Option V) → option_or o None ≡ o
or_none None = refl
or_none (Some v) = refl

module _ {K V : Type 0} where
  -- the value of a pair
  abbrev value : Option (K × V) → Option V
  value o = option_map (λ p. p.1) o

  -- no value, no pair
  unvalued : (o : Option (K × V)) → value o ≡ None → is_some o ≡ false
  unvalued None h = refl
  unvalued (Some p) h = absurd (not_None p.1 (sym h))

  -- either of two pairs has the value of either
  either : (o u : Option (K × V)) → value (cond (is_some o) o u) ≡ option_or (value o) (value u)
  either None u = refl
  either (Some p) u = refl

  -- a pair or none, by a test: no value where the test or the pair says so
  where_true : (b : Bool) (o : Option (K × V)) → b ≡ true → value (cond b o None) ≡ value o
  where_true b o is = ap (λ t. value (cond t o None)) is

  where_false : (b : Bool) (o : Option (K × V)) → b ≡ false → value (cond b o None) ≡ None
  where_false b o is = ap (λ t. value (cond t o None)) is

  no_pair : (b : Bool) (o : Option (K × V)) → value o ≡ None → value (cond b o None) ≡ None
  no_pair true o h = h
  no_pair false o h = refl

  module _ (m n : PairMap K V) (e : List ℕ) where
    pub value-joined : value_at (joined m n) e ≡ option_or (value_at m e) (value_at n e)
    value-joined = ap value (get-joined m n e) ∙ either (map.get m e) (map.get n e)

    pub value-common : IsStored n e → value_at (common m n) e ≡ value_at m e
    value-common h = ap value (get-common_ours m n e h)

    pub value-common_none : value_at n e ≡ None → value_at (common m n) e ≡ None
    value-common_none none = ap value (get-common m n e) ∙ where_false (map.contains_key n e) (map.get m e) (unvalued (map.get n e) none)

    pub value-lacking : value_at n e ≡ None → value_at (lacking m n) e ≡ value_at m e
    value-lacking none = ap value (get-lacking m n e) ∙ where_true (not (map.contains_key n e)) (map.get m e) (ap not (unvalued (map.get n e) none))

    pub value-lacking_stored : IsStored n e → value_at (lacking m n) e ≡ None
    value-lacking_stored h = ap value (get-lacking m n e) ∙ where_false (not (map.contains_key n e)) (map.get m e) (ap not (true_by_test (map.contains_key n e) h))

    pub value-lacking_none : value_at m e ≡ None → value_at (lacking m n) e ≡ None
    value-lacking_none none = ap value (get-lacking m n e) ∙ no_pair (not (map.contains_key n e)) (map.get m e) none

  -- of what one of two maps alone holds
  module _ (m n : PairMap K V) (e : List ℕ) where
    apart : (a b : Option V) → value_at (lacking m n) e ≡ a → value_at (lacking n m) e ≡ b → value_at (joined (lacking m n) (lacking n m)) e ≡ option_or a b
    apart a b ours theirs = value-joined (lacking m n) (lacking n m) e ∙ (λ i. option_or (ours i) (theirs i))

    pub value-first_alone : value_at n e ≡ None → value_at (joined (lacking m n) (lacking n m)) e ≡ value_at m e
    value-first_alone none = apart (value_at m e) None (value-lacking m n e none) (value-lacking_none n m e none) ∙ or_none (value_at m e)

    pub value-second_alone : value_at m e ≡ None → value_at (joined (lacking m n) (lacking n m)) e ≡ value_at n e
    value-second_alone none = apart None (value_at n e) (value-lacking_none m n e none) (value-lacking n m e none)

    pub value-neither : IsStored m e → IsStored n e → value_at (joined (lacking m n) (lacking n m)) e ≡ None
    value-neither here there = apart None None (value-lacking_stored m n e there) (value-lacking_stored n m e here)
