-- The children of two sides, cut behind the nibbles that lead on.
use Rattle.std.proofs.Common.{◌≡◌, ◌≢◌, ◌+◌, ◌<◌, ◌≤◌, ℕ, zero, suc, List, [], ◌∷◌, ◌++◌, Option, Some, None, drop, length, take, refl, ap, sym, subst, ◌∙◌, arith, append_assoc, append-nil, length-drop}
use Rattle.std.proofs.lemmas.List.{drop-drop, map-append, take_all, take-append-drop}
use Rattle.masked_tree.specs.Tree.{Tree, Children, none, more, front, IsPlaced, entries_in}
use Rattle.nibble_map.specs.Swaps.{entry}
use Rattle.nibble_map.specs.Trees.{first}
use Rattle.radix_trie.specs.Combinations.{behind, lead, under, IsCutBehind, IsCutOff}
use Rattle.radix_trie.proofs.CombinationLemmas.Lists.{IsEarly, IsLate}

-- a node whose fragment goes on below the path
within_fragment : (d : ℕ) (f : List ℕ) → drop d f ≢ [] → d < length f
within_fragment zero [] some = absurd (some refl)
within_fragment zero (a ∷ f) some = omega arith
within_fragment (suc d) [] some = absurd (some refl)
within_fragment (suc d) (a ∷ f) some = omega (arith, within_fragment d f (λ bare. some bare))

module _ {P : Type 0} where
  -- no nibble of the first fragment lies above
  pub behind-zero : (k : Children P) → behind 0 k ≡ k
  behind-zero none = refl
  behind-zero (more f o m children others) = refl

  -- what goes on from a path, by the entries behind it
  entry-under : (p q : List ℕ) (o : Option P) → entry (p ++ q) o ≡ under p (entry q o)
  entry-under p q None = refl
  entry-under p q (Some x) = refl

  entries_in-under : (p q : List ℕ) (k : Children P) → entries_in (p ++ q) k ≡ under p (entries_in q k)
  entries_in-under p q none = refl
  entries_in-under p q (more f o m children others) =
      ap (λ x. (entry x o ++ entries_in x children) ++ entries_in (p ++ q) others) (append_assoc p q f)
      ∙ (λ i. (entry-under p (q ++ f) o i ++ entries_in-under p (q ++ f) children i) ++ entries_in-under p q others i)
      ∙ ap (λ es. es ++ under p (entries_in q others)) (sym (map-append _ (entry (q ++ f) o) (entries_in (q ++ f) children)))
      ∙ sym (map-append _ (entry (q ++ f) o ++ entries_in (q ++ f) children) (entries_in q others))

  -- the entries at a path and below it
  at_path : (p : List ℕ) (o : Option P) (k : Children P) → entry p o ++ entries_in p k ≡ under p (entry [] o ++ entries_in [] k)
  at_path p o k =
      ap (λ x. entry x o ++ entries_in x k) (sym (append-nil p)) ∙ (λ i. entry-under p [] o i ++ entries_in-under p [] k i)
      ∙ sym (map-append _ (entry [] o) (entries_in [] k))

  -- entries below a path that begins with a come no earlier than it says, and no later
  pub early_under : (a : ℕ) (p : List ℕ) (es : List (List ℕ × P)) → IsEarly (suc a) (under (a ∷ p) es)
  early_under a p [] = tt
  early_under a p (e ∷ es) = (omega arith, early_under a p es)

  late_under : (n a : ℕ) (p : List ℕ) (es : List (List ℕ × P)) → n ≤ a → IsLate n (under (a ∷ p) es)
  late_under n a p [] le = tt
  late_under n a p (e ∷ es) le = (omega (arith, le), late_under n a p es le)

  late_both : (n : ℕ) (es fs : List (List ℕ × P)) → IsLate n es → IsLate n fs → IsLate n (es ++ fs)
  late_both n [] fs late other = other
  late_both n (e ∷ es) fs late other = (late.0, late_both n es fs late.1 other)

  later_more : (n m : ℕ) (es : List (List ℕ × P)) → n ≤ m → IsLate m es → IsLate n es
  later_more n m [] le late = tt
  later_more n m (e ∷ es) le late = (omega (arith, le, late.0), later_more n m es le late.1)

  -- placed children from `low` on come later than that
  pub placed_late : (low : ℕ) (k : Children P) → IsPlaced low k → IsLate low (entries_in [] k)
  placed_late low none h = tt
  placed_late low (more [] o m children others) h = absurd (h.0 refl)
  placed_late low (more (a ∷ f) o m children others) h =
      late_both low (entry (a ∷ f) o ++ entries_in (a ∷ f) children) (entries_in [] others)
      (subst (IsLate low) (sym (at_path (a ∷ f) o children)) (late_under low a f (entry [] o ++ entries_in [] children) h.1))
      (later_more low (suc a) (entries_in [] others) (omega (arith, h.1)) (placed_late (suc a) others h.4))

  -- children that are placed from another number on, where the first one allows
  pub placed_from : (low high : ℕ) (k : Children P) → IsPlaced low k → (lead k ≢ [] → high ≤ first (lead k)) → IsPlaced high k
  placed_from low high none h le = tt
  placed_from low high (more f o m children others) h le = (h.0, le h.0, h.2, h.3, h.4)

  -- some nibbles are cut off
  cut_off : (n : ℕ) → 0 < n → {k : Children P} {own : Option P} {below beside : Children P} → IsCutBehind n k own below beside → IsCutOff n k own below beside
  cut_off zero some h = absurd (omega arith)
  cut_off (suc n) some h = h

  module _ (f : List ℕ) (o : Option P) (m : ℕ) (children others : Children P) (placed : IsPlaced 0 (more f o m children others)) where
    -- the first node, cut off whole
    pub cut_whole : (n : ℕ) → n ≡ length f → 0 < n → IsCutBehind n (more f o m children others) o children others
    cut_whole n whole some = record {
      entries = ap (λ es. es ++ entries_in [] others) (at_path f o children)
          ∙ ap (λ p. under p (entry [] o ++ entries_in [] children) ++ entries_in [] others) (sym (take_all n f (omega (arith, whole))));
      placed = placed.3;
      later = placed.4;
      fewer = omega (arith, whole, some);
    }

    -- and cut within its fragment
    pub cut_within : (n : ℕ) → n < length f → 0 < n → IsCutBehind n (more f o m children others) None (more (drop n f) o m children none) others
    cut_within n within some =
        let lower = drop n f in
        record {
          entries =
              ap (λ x. (entry x o ++ entries_in x children) ++ entries_in [] others) (sym (take-append-drop n f))
              ∙ ap (λ es. es ++ entries_in [] others)
              ((λ i. entry-under (take n f) lower o i ++ entries_in-under (take n f) lower children i) ∙ sym (map-append _ (entry lower o) (entries_in lower children))
              ∙ ap (under (take n f)) (sym (append-nil (entry lower o ++ entries_in lower children))));
          placed = (λ bare. omega (arith, ap length bare, length-drop n f, within), omega arith, placed.2, placed.3, tt);
          later = placed.4;
          fewer = omega (arith, length-drop n f, within, some);
        }

  -- children of which d nibbles of the first fragment lie above
  module _ (d : ℕ) (t : Tree P) (k others : Children P) (is : k ≡ behind d (front t others)) (placed : IsPlaced 0 k) where
    -- so many lie below
    pub fragment_ahead : (d < length t.fragment) × (length (lead k) + d ≡ length t.fragment)
    fragment_ahead =
        let some = within_fragment d t.fragment (subst (IsPlaced 0) is placed).0 in
        (some, omega (arith, some, ap (λ c. length (lead c)) is, length-drop d t.fragment))

    -- the first fragment from there on
    pub lead_is : (f : List ℕ) → t.fragment ≡ f → (d < length f) × (lead k ≡ drop d f)
    lead_is f same = (subst (λ x. d < length x) same fragment_ahead.0, ap lead is ∙ ap (drop d) same)

    module _ (n : ℕ) (some : 0 < n) (own : Option P) (below beside : Children P) (aside : beside ≡ others) where
      -- the node is cut off whole
      pub whole_cut_off : n + d ≡ length t.fragment → own ≡ t.pair → below ≡ t.children → IsCutOff n k own below beside
      whole_cut_off whole pair children =
          let h = cut_whole (drop d t.fragment) t.pair t.mask t.children others (subst (IsPlaced 0) is placed) n (omega (arith, whole, length-drop d t.fragment)) some in
          rw (is, pair, children, aside) (cut_off n some h)

      -- or cut within its fragment
      pub cut_off_within : n + d < length t.fragment → own ≡ None → below ≡ behind (d + n) (front t none) → IsCutOff n k own below beside
      cut_off_within within pair children =
          let h = cut_within (drop d t.fragment) t.pair t.mask t.children others (subst (IsPlaced 0) is placed) n (omega (arith, within, length-drop d t.fragment)) some in
          rw (is, pair, children, aside) (cut_off n some (subst (λ f. IsCutBehind n (behind d (front t others)) None (more f t.pair t.mask t.children none) others) (drop-drop n d t.fragment) h))
