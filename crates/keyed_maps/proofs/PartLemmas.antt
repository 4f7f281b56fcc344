-- What a map answers by keys after many of its pairs changed.
use Rattle.std.proofs.Common.{◌≡◌, ◌⊎◌, inl, inr, ℕ, Bool, true, false, cond, T, All, List, [], ◌∷◌, ◌++◌, map as each, Option, Some, None, is_some, option_map, refl, ap, sym, subst, ◌∙◌}
use Rattle.std.proofs.lemmas.List.Elements.{All-head, All-tail}
use Rattle.std.specs.FinMap as map
use Rattle.std.specs.Option.{option_or}
use Rattle.std.specs.Prelude.{MatchOption}
use Rattle.nibble_map.specs.Copies.{IsMapCopy}
use Rattle.nibble_map.specs.Lists.{Each, IsPrefix, is_prefix}
use Rattle.nibble_map.specs.Maps.{NibbleMap, PairMap, below, walk, without_below}
use Rattle.nibble_map.proofs.ListLemmas.Parted.{is_prefix_true, prefix_by_test}
use Rattle.nibble_map.proofs.MapLemmas.Below.{get-retained_lists}
use Rattle.nibble_map.proofs.MapLemmas.Edits.{same_Some}
use Rattle.nibble_map.proofs.MapLemmas.Rebuilt.{get-put_rows, put_rows}
use Rattle.nibble_map.proofs.ListLemmas.Rising.{Each-from_has}
use Rattle.nibble_map.proofs.MapLemmas.Walks.{Has-walk, get-rest_below, get-rest_elsewhere}
use Rattle.radix_trie.specs.Building.{with_pairs}
use Rattle.radix_trie.specs.Keys.{IsKeyed}
use Rattle.radix_trie.specs.Retains.{Retains, RetainsAtLeast}
use Rattle.radix_trie.specs.Views.{pairs_below}
use Rattle.radix_trie.proofs.LawLemmas.Asked.{AreAtEncodings}
use Rattle.radix_trie.proofs.PathLemmas.Loci.{below-nil}
use Rattle.keyed_maps.specs.KeyedMaps.{keyed_map, stored_key}
use Rattle.keyed_maps.proofs.KeyLemmas.{TellsKeys, get_insert_other, get_insert_same, keyed-get, value_none, value_pair}

-- a copy of a map has a pair where the map has one, and none where it has none
module _ {P Q : Type 0} where
  copied_pair : {R : P → Q → Type 0} (o : Option P) (u : Option Q) → (T (is_some o) → T (is_some u)) → ((x : P) (y : Q) → o ≡ Some x → u ≡ Some y → R x y)
      → (p : P) → o ≡ Some p → (q : Q) × (u ≡ Some q) × R p q
  copied_pair o None to pairs p at = absurd (to (subst (λ z. T (is_some z)) (sym at) tt))
  copied_pair o (Some q) to pairs p at = (q, refl, pairs p q at refl)

  copied_none : (o : Option P) (u : Option Q) → (T (is_some u) → T (is_some o)) → o ≡ None → u ≡ None
  copied_none o None from none = refl
  copied_none o (Some q) from none = absurd (subst (λ z. T (is_some z)) none (from tt))

-- where g of a copied pair is f of the pair, the copy answers as the map does
module _ {P Q X : Type 0} {R : P → Q → Type 0} (f : P → X) (g : Q → X) where
  copied_alike : (m : NibbleMap P) (n : NibbleMap Q) → IsMapCopy R m n → ((p : P) (q : Q) → R p q → g q ≡ f p) → (e : List ℕ)
      → option_map g (map.get n e) ≡ option_map f (map.get m e)
  copied_alike m n copy alike e = by (map.get m e) refl
    where
      by : (o : Option P) → map.get m e ≡ o → option_map g (map.get n e) ≡ option_map f (map.get m e)
      by None at = ap (option_map g) (copied_none (map.get m e) (map.get n e) (copy.same_lists e).1 at) ∙ sym (ap (option_map f) at)
      by (Some p) at =
          let left = copied_pair (map.get m e) (map.get n e) (copy.same_lists e).0 (copy.copied_pairs e) p at in
          ap (option_map g) left.1 ∙ ap Some (alike p left.0 left.2) ∙ sym (ap (option_map f) at)

module _ {K V : Type 0} (enc : K → List ℕ) where
  -- the part below a list, and the rest
  below_as : (m : PairMap K V) (e : List ℕ) (k : K) (b : Bool) → is_prefix e (enc k) ≡ b → keyed_map enc (below m e) k ≡ option_map (λ p. p.1) (cond b (map.get m (enc k)) None)
  below_as m e k b is = keyed-get enc (below m e) k _ (get-retained_lists m (is_prefix e) (enc k) ∙ ap (λ t. cond t (map.get m (enc k)) None) is)

  pub get_below_inside : (m : PairMap K V) (e : List ℕ) (k : K) → IsPrefix e (enc k) → keyed_map enc (below m e) k ≡ keyed_map enc m k
  get_below_inside m e k h = below_as m e k true (is_prefix_true e (enc k) h)

  pub get_below_outside : (m : PairMap K V) (e : List ℕ) (k : K) → (IsPrefix e (enc k) → ⊥) → keyed_map enc (below m e) k ≡ None
  get_below_outside m e k h = by (is_prefix e (enc k)) refl
    where
      by : (b : Bool) → is_prefix e (enc k) ≡ b → keyed_map enc (below m e) k ≡ None
      by true is = absurd (h (prefix_by_test e (enc k) is))
      by false is = below_as m e k false is

  pub get_rest_inside : (m : PairMap K V) (e : List ℕ) (k : K) → IsPrefix e (enc k) → keyed_map enc (without_below m e) k ≡ None
  get_rest_inside m e k h = ap (option_map (λ p. p.1)) (get-rest_below m e (enc k) h)

  pub get_rest_outside : (m : PairMap K V) (e : List ℕ) (k : K) → (IsPrefix e (enc k) → ⊥) → keyed_map enc (without_below m e) k ≡ keyed_map enc m k
  get_rest_outside m e k h = ap (option_map (λ p. p.1)) (get-rest_elsewhere m e (enc k) h)

  -- the pairs of another map, stored one by one
  rows_stored : (m : PairMap K V) (es : List (List ℕ × (K × V))) → Each (λ e. e.0 ≡ enc e.1.0) es → put_rows m es ≡ with_pairs enc m (each (λ e. e.1) es)
  rows_stored m [] keyed = refl
  rows_stored m (e ∷ es) keyed = ap (λ l. put_rows (map.insert m l e.1) es) keyed.0 ∙ rows_stored (map.insert m (enc e.1.0) e.1) es keyed.1

  value_or : (o u : Option (K × V)) → option_map (λ p. p.1) (cond (is_some o) o u) ≡ option_or (option_map (λ p. p.1) o) (option_map (λ p. p.1) u)
  value_or None u = refl
  value_or (Some p) u = refl

  abbrev pub merged : PairMap K V → PairMap K V → PairMap K V
  merged m n = with_pairs enc m (pairs_below n [])

  pub get-merged : (n : PairMap K V) → AreAtEncodings enc n → (m : PairMap K V) (q : List ℕ) → map.get (merged m n) q ≡ cond (is_some (map.get n q)) (map.get n q) (map.get m q)
  get-merged n keyed m q =
      ap (λ x. map.get x q) (sym (rows_stored m (walk n []) (Each-from_has _ _ (λ e h. keyed e.0 e.1 ((Has-walk n [] e.0 e.1).0 h).1))))
      ∙ get-put_rows (walk n []) m q (map.entries_sorted (below n []))
      ∙ ap (λ o. cond (is_some o) o (map.get m q)) (sym (map.get-entries (below n []) q) ∙ ap (λ x. map.get x q) (below-nil n))

  pub get_merged : (n : PairMap K V) → AreAtEncodings enc n → (m : PairMap K V) (k : K) → keyed_map enc (merged m n) k ≡ option_or (keyed_map enc n k) (keyed_map enc m k)
  get_merged n keyed m k = ap (option_map (λ p. p.1)) (get-merged n keyed m (enc k)) ∙ value_or (map.get n (enc k)) (map.get m (enc k))

  -- pairs that are stored one by one
  module _ (is : K → Type 0) (eq : K → K → Bool) (tells : TellsKeys enc is eq) where
    pub get_extended_other : (m : PairMap K V) (ps : List (K × V)) (k : K) → is k → All (λ p. is p.0 × (eq p.0 k ≡ false)) ps → keyed_map enc (with_pairs enc m ps) k ≡ keyed_map enc m k
    get_extended_other m [] k here others = refl
    get_extended_other m (p ∷ ps) k here others =
        let other = All-head (λ q. is q.0 × (eq q.0 k ≡ false)) p ps others in
        get_extended_other (map.insert m (enc p.0) p) ps k here (All-tail (λ q. is q.0 × (eq q.0 k ≡ false)) p ps others)
        ∙ get_insert_other enc is eq tells m p.0 k other.0 here other.1 p

    pub get_extended_last : (m : PairMap K V) (before after : List (K × V)) (k : K) (v : V) → is k → All (λ p. is p.0 × (eq p.0 k ≡ false)) after → keyed_map enc (with_pairs enc m (before ++ (k, v) ∷ after)) k ≡ Some v
    get_extended_last m [] after k v here others = get_extended_other (map.insert m (enc k) (k, v)) after k here others ∙ get_insert_same enc m k v
    get_extended_last m (p ∷ before) after k v here others = get_extended_last (map.insert m (enc p.0) p) before after k v here others

  -- the key that is stored for a key with a value equals it, where all stored keys are values of the type
  pub stored_equal : (is : K → Type 0) (eq : K → K → Bool) → TellsKeys enc is eq → (m : PairMap K V) → IsKeyed enc is m → (k : K) → is k → (p : K × V) → map.get m (enc k) ≡ Some p → eq p.0 k ≡ true
  stored_equal is eq tells m keyed k here p at = (let s = keyed (enc k) p at in tells p.0 k s.1 here (sym s.0))

  -- the pairs that a closure keeps; S is what is known of a stored key
  module _ (R : K × V → Bool → Type 0) (m n : PairMap K V) (k : K) (v : V) (h : keyed_map enc m k ≡ Some v) (S : K → Type 0) (known : (p : K × V) → map.get m (enc k) ≡ Some p → S p.0) where
    -- the closure can't return b of a stored pair if it can't of the value
    refuted : (b : Bool) → ((j : K) → S j → R (j, v) b → ⊥) → (p : K × V) → map.get m (enc k) ≡ Some p → R p b → ⊥
    refuted b never p at returns = never p.0 (known p at) (subst (λ x. R (p.0, x) b) (same_Some p.1 v (sym (keyed-get enc m k (Some p) at) ∙ h)) returns)

    pub get_kept : RetainsAtLeast R m n → ((j : K) → S j → R (j, v) false → ⊥) → keyed_map enc n k ≡ Some v
    get_kept least never = by (least (enc k))
      where
        by : (map.get n (enc k) ≡ map.get m (enc k)) ⊎ ((p : K × V) × (map.get m (enc k) ≡ Some p) × R p false × (map.get n (enc k) ≡ None)) → keyed_map enc n k ≡ Some v
        by (inl same) = ap (option_map (λ p. p.1)) same ∙ h
        by (inr (p, at, fails, gone)) = absurd (refuted false never p at fails)

    pub get_dropped : Retains R m n → ((j : K) → S j → R (j, v) true → ⊥) → keyed_map enc n k ≡ None
    get_dropped retained never = by (map.get m (enc k)) refl (retained (enc k))
      where
        by : (o : Option (K × V)) → map.get m (enc k) ≡ o → MatchOption o (map.get n (enc k) ≡ None) (λ p. (R p true × (map.get n (enc k) ≡ Some p)) ⊎ (R p false × (map.get n (enc k) ≡ None))) → keyed_map enc n k ≡ None
        by None at none = keyed-get enc n k None none
        by (Some p) at (inl kept) = absurd (refuted true never p at kept.0)
        by (Some p) at (inr gone) = keyed-get enc n k None gone.1

  -- the values that a closure leaves
  pub get_changed : (is : K → Type 0) (eq : K → K → Bool) → TellsKeys enc is eq → (R : K × V → V → Type 0) (m n : PairMap K V) → IsMapCopy (λ p q. (q.0 ≡ p.0) × R p q.1) m n → (k : K) (v : V) → keyed_map enc m k ≡ Some v
      → (j : K) × (w : V) × R (j, v) w × (keyed_map enc n k ≡ Some w) × (IsKeyed enc is m → is k → eq j k ≡ true)
  get_changed is eq tells R m n copy k v h =
      let at = value_pair (map.get m (enc k)) v h in
      let left = copied_pair (map.get m (enc k)) (map.get n (enc k)) (copy.same_lists (enc k)).0 (copy.copied_pairs (enc k)) at.0 at.1 in
      (at.0.0, left.0.1, subst (λ x. R (at.0.0, x) left.0.1) at.2 left.2.1, keyed-get enc n k (Some left.0) left.1, λ keyed here. stored_equal is eq tells m keyed k here at.0 at.1)

  -- the same, of a closure that leaves of each value what a function makes of it
  pub get_mapped : (R : K × V → V → Type 0) (f : V → V) (m n : PairMap K V) → IsMapCopy (λ p q. (q.0 ≡ p.0) × R p q.1) m n → ((p : K × V) (w : V) → R p w → w ≡ f p.1)
      → (k : K) → keyed_map enc n k ≡ option_map f (keyed_map enc m k)
  get_mapped R f m n copy leaves k =
      copied_alike (λ p. f p.1) (λ q. q.1) m n copy (λ p q is. leaves p q.1 is.1) (enc k) ∙ sym (mapped_value (map.get m (enc k)))
    where
      mapped_value : (o : Option (K × V)) → option_map f (option_map (λ p. p.1) o) ≡ option_map (λ p. f p.1) o
      mapped_value None = refl
      mapped_value (Some p) = refl

  -- and the stored keys stay
  pub keys_stay : (R : K × V → V → Type 0) (m n : PairMap K V) → IsMapCopy (λ p q. (q.0 ≡ p.0) × R p q.1) m n → (k : K) → stored_key enc n k ≡ stored_key enc m k
  keys_stay R m n copy k = copied_alike (λ p. p.0) (λ q. q.0) m n copy (λ p q is. is.0) (enc k)

  pub get_at_least : (R : K × V → Bool → Type 0) (m n : PairMap K V) → RetainsAtLeast R m n → (k : K) → (keyed_map enc n k ≡ keyed_map enc m k) ⊎ (keyed_map enc n k ≡ None)
  get_at_least R m n least k = by (least (enc k))
    where
      by : (map.get n (enc k) ≡ map.get m (enc k)) ⊎ ((p : K × V) × (map.get m (enc k) ≡ Some p) × R p false × (map.get n (enc k) ≡ None)) → (keyed_map enc n k ≡ keyed_map enc m k) ⊎ (keyed_map enc n k ≡ None)
      by (inl same) = inl (ap (option_map (λ p. p.1)) same)
      by (inr gone) = inr (keyed-get enc n k None gone.3)

  -- a copy
  pub get_cloned : (R : K → K → Type 0) (S : V → V → Type 0) (m n : PairMap K V) → IsMapCopy (λ p q. R p.0 q.0 × S p.1 q.1) m n → (k : K) (v : V) → keyed_map enc m k ≡ Some v
      → (w : V) × S v w × (keyed_map enc n k ≡ Some w)
  get_cloned R S m n copy k v h =
      let at = value_pair (map.get m (enc k)) v h in
      let left = copied_pair (map.get m (enc k)) (map.get n (enc k)) (copy.same_lists (enc k)).0 (copy.copied_pairs (enc k)) at.0 at.1 in
      (left.0.1, subst (λ x. S x left.0.1) at.2 left.2.1, keyed-get enc n k (Some left.0) left.1)

  pub get_same : (R : K → K → Type 0) (S : V → V → Type 0) (m n : PairMap K V) → IsMapCopy (λ p q. R p.0 q.0 × S p.1 q.1) m n → ((v w : V) → S v w → w ≡ v)
      → (k : K) → keyed_map enc n k ≡ keyed_map enc m k
  get_same R S m n copy same k = copied_alike (λ p. p.1) (λ q. q.1) m n copy (λ p q is. same p.1 q.1 is.1) (enc k)

  pub copy_none : (R : K × V → K × V → Type 0) (m n : PairMap K V) → IsMapCopy R m n → (k : K) → keyed_map enc m k ≡ None → keyed_map enc n k ≡ None
  copy_none R m n copy k h = keyed-get enc n k None (copied_none (map.get m (enc k)) (map.get n (enc k)) (copy.same_lists (enc k)).1 (value_none (map.get m (enc k)) h))
