-- Two sides that stand at one path, parted into what lies below a longer one and what comes later.
use Rattle.std.proofs.Common.{◌≡◌, ◌≢◌, ◌+◌, ◌<◌, ◌≤◌, ◌⊎◌, inl, inr, ℕ, zero, suc, List, [], ◌∷◌, ◌++◌, Option, None, length, take, refl, ap, sym, subst, ◌∙◌, arith}
use Rattle.masked_tree.specs.Tree.{Children, none, IsPlaced, entries_in, nibbles_in}
use Rattle.nibble_map.specs.Swaps.{entry}
use Rattle.nibble_map.specs.Trees.{first}
use Rattle.radix_nodes.specs.declared.trie_node.KeyValue.{KeyValue}
use Rattle.radix_nodes.specs.Pairs.{pairs_of}
use Rattle.radix_nodes.proofs.NodeLemmas.Pairs.{pairs_of-append}
use Rattle.radix_trie.specs.declared.iter.combination.Operation.{Operation}
use Rattle.radix_trie.specs.declared.iter.combination.branches.Branches.{Branches}
use Rattle.radix_trie.specs.declared.iter.combination.branches.Turn.{Turn}
use Rattle.radix_trie.specs.declared.iter.combination.branches.Turn.TheVariants as turn
use Rattle.radix_trie.specs.Combinations.{AreParted, IsCutBehind, IsCutOff, LeadOn, combined_entries, entries_left, lead, nibbles_left, nibbles_of_first, nibbles_of_second, own_of, row_of_branch, under}
use Rattle.radix_trie.proofs.CombinationLemmas.Lists.{IsLate, combined-moved, combined_cut}
use Rattle.radix_trie.proofs.CombinationLemmas.Trees.{early_under, placed_from, placed_late}
use Rattle.radix_trie.proofs.WalkLemmas.Order.{order-behind}

-- some nibbles of a fragment begin as it does
take_first : (n : ℕ) (f : List ℕ) → suc n ≤ length f → (take (suc n) f ≢ []) × (first (take (suc n) f) ≡ first f)
take_first n [] le = absurd (omega arith)
take_first n (a ∷ f) le = (λ bare. absurd (omega (arith, ap length bare)), refl)

module _ {P : Type 0} where
  -- one side goes on behind p with a pair and children, and others come later
  pub record GoesOn (p : List ℕ) (k : Children P) (own : Option P) (below beside : Children P) : Type 0 where
    pub entries : entries_in [] k ≡ under p (entry [] own ++ entries_in [] below) ++ entries_in [] beside
    pub late : IsLate (suc (first p)) (entries_in [] beside)
    pub below_placed : IsPlaced 0 below
    pub beside_placed : IsPlaced 0 beside
    pub fewer : nibbles_in below + nibbles_in beside ≤ nibbles_in k

  module _ (p : List ℕ) (k : Children P) (own : Option P) (below beside : Children P) where
    -- so it does where p is cut off
    cut_goes_on : (n : ℕ) → p ≡ take (suc n) (lead k) → suc n ≤ length (lead k) → IsCutBehind (suc n) k own below beside → GoesOn p k own below beside
    cut_goes_on n is le cut = record {
      entries = cut.entries ∙ ap (λ q. under q (entry [] own ++ entries_in [] below) ++ entries_in [] beside) (sym is);
      late = subst (λ a. IsLate (suc a) (entries_in [] beside)) (sym (ap first is ∙ (take_first n (lead k) le).1)) (placed_late _ beside cut.later);
      below_placed = cut.placed;
      beside_placed = placed_from _ 0 beside cut.later (λ some. omega arith);
      fewer = omega (arith, cut.fewer);
    }

    -- and where all of it comes later
    stays_later : (own ≡ None) × (below ≡ none) × (beside ≡ k) → IsPlaced (suc (first p)) k → GoesOn p k own below beside
    stays_later stays later = record {
      entries = sym (λ i. under p (entry [] (stays.0 i) ++ entries_in [] (stays.1 i)) ++ entries_in [] (stays.2 i));
      late = subst (λ x. IsLate (suc (first p)) (entries_in [] x)) (sym stays.2) (placed_late _ k later);
      below_placed = subst (IsPlaced 0) (sym stays.1) tt;
      beside_placed = subst (IsPlaced 0) (sym stays.2) (placed_from _ 0 k later (λ some. omega arith));
      fewer = omega (arith, ap nibbles_in stays.1, ap nibbles_in stays.2);
    }

  -- a turn that is known, and isn't the end
  pub led_by : (k l : Children P) (r known : Turn) → r ≡ known → (known ≡ turn.End → ⊥)
      → LeadOn k l (nibbles_of_first r k) (nibbles_of_second r l) → ((r ≡ turn.End → ⊥) → 0 < nibbles_of_first r k + nibbles_of_second r l)
      → LeadOn k l (nibbles_of_first known k) (nibbles_of_second known l) × (0 < nibbles_of_first known k + nibbles_of_second known l)
  led_by k l r known is goes_on on some =
      (subst (λ t. LeadOn k l (nibbles_of_first t k) (nibbles_of_second t l)) is on, subst (λ t. (t ≡ turn.End → ⊥) → 0 < nibbles_of_first t k + nibbles_of_second t l) is some goes_on)

  -- what lies below the path comes first, and what comes later then
  entries_parted : (op : Operation) (p : List ℕ) → p ≢ [] → (es fs xs ys : List (List ℕ × P)) → IsLate (suc (first p)) fs → IsLate (suc (first p)) ys
      → combined_entries op (under p es ++ fs) (under p xs ++ ys) ≡ under p (combined_entries op es xs) ++ combined_entries op fs ys
  entries_parted op [] some es fs xs ys late last = absurd (some refl)
  entries_parted op (a ∷ p) some es fs xs ys late last =
      combined_cut (suc a) op (under (a ∷ p) es) fs (under (a ∷ p) xs) ys (early_under a p es) late (early_under a p xs) last
      ∙ ap (λ zs. zs ++ combined_entries op fs ys) (combined-moved (λ q. (a ∷ p) ++ q) (order-behind (a ∷ p)) (λ x. x) op es xs)

module _ {K V : Type 0} where
  -- the pairs don't tell the path
  pairs_of-under : (p : List ℕ) (es : List (List ℕ × KeyValue K V)) → pairs_of (under p es) ≡ pairs_of es
  pairs_of-under p [] = refl
  pairs_of-under p (e ∷ es) = ap (λ ps. pairs_of (e ∷ []) ++ ps) (pairs_of-under p es)

  module _ (b below beside : Branches K V) (first_bare : b.first.own ≡ None) (second_bare : b.second.own ≡ None)
      (first_aside : beside.first.own ≡ None) (second_aside : beside.second.own ≡ None) where
    both_go_on : (p : List ℕ) → p ≢ [] → GoesOn p (row_of_branch b.first) (own_of below.first.own) (row_of_branch below.first) (row_of_branch beside.first)
        → GoesOn p (row_of_branch b.second) (own_of below.second.own) (row_of_branch below.second) (row_of_branch beside.second)
        → nibbles_left below + nibbles_left beside < nibbles_left b → AreParted b below beside
    both_go_on p some one two fewer = record {
      pairs = λ op.
          (λ i. pairs_of (combined_entries op (entry [] (own_of (first_bare i)) ++ one.entries i) (entry [] (own_of (second_bare i)) ++ two.entries i)))
          ∙ ap pairs_of (entries_parted op p some (entries_left below.first) (entries_in [] (row_of_branch beside.first)) (entries_left below.second) (entries_in [] (row_of_branch beside.second)) one.late two.late)
          ∙ pairs_of-append (under p (combined_entries op (entries_left below.first) (entries_left below.second))) _
          ∙ (λ i. pairs_of-under p (combined_entries op (entries_left below.first) (entries_left below.second)) i
          ++ pairs_of (combined_entries op (entry [] (own_of (sym first_aside i)) ++ entries_in [] (row_of_branch beside.first)) (entry [] (own_of (sym second_aside i)) ++ entries_in [] (row_of_branch beside.second))));
      below_placed = (one.below_placed, two.below_placed);
      beside_placed = (one.beside_placed, two.beside_placed);
      first_bare = first_aside;
      second_bare = second_aside;
      fewer = fewer;
    }

    -- nibbles that lead on part two branches
    pub led_on : (n m : ℕ) → (0 < n) ⊎ (0 < m) → LeadOn (row_of_branch b.first) (row_of_branch b.second) n m
        → IsCutOff n (row_of_branch b.first) (own_of below.first.own) (row_of_branch below.first) (row_of_branch beside.first)
        → IsCutOff m (row_of_branch b.second) (own_of below.second.own) (row_of_branch below.second) (row_of_branch beside.second) → AreParted b below beside
    led_on (suc n) (suc m) some (le, other_le, inl both) one two =
        let begun = take_first n (lead (row_of_branch b.first)) le in
        both_go_on (take (suc n) (lead (row_of_branch b.first))) begun.0 (cut_goes_on _ _ _ _ _ n refl le one) (cut_goes_on _ _ _ _ _ m both.2 other_le two) (omega (arith, one.fewer, two.fewer))
    led_on zero m some (le, other_le, inl both) one two = absurd (omega (arith, both.0))
    led_on (suc n) zero some (le, other_le, inl both) one two = absurd (omega (arith, both.1))
    led_on (suc n) zero some (le, other_le, inr (inl alone)) one two =
        let begun = take_first n (lead (row_of_branch b.first)) le in
        both_go_on (take (suc n) (lead (row_of_branch b.first))) begun.0 (cut_goes_on _ _ _ _ _ n refl le one)
        (stays_later _ _ _ _ _ two (subst (λ a. IsPlaced (suc a) (row_of_branch b.second)) (sym begun.1) alone.2))
        (omega (arith, one.fewer, ap nibbles_in two.1, ap nibbles_in two.2))
    led_on zero m some (le, other_le, inr (inl alone)) one two = absurd (omega (arith, alone.0))
    led_on (suc n) (suc m) some (le, other_le, inr (inl alone)) one two = absurd (omega (arith, alone.1))
    led_on zero (suc m) some (le, other_le, inr (inr (inl alone))) one two =
        let begun = take_first m (lead (row_of_branch b.second)) other_le in
        both_go_on (take (suc m) (lead (row_of_branch b.second))) begun.0 (stays_later _ _ _ _ _ one (subst (λ a. IsPlaced (suc a) (row_of_branch b.first)) (sym begun.1) alone.2))
        (cut_goes_on _ _ _ _ _ m refl other_le two) (omega (arith, two.fewer, ap nibbles_in one.1, ap nibbles_in one.2))
    led_on (suc n) m some (le, other_le, inr (inr (inl alone))) one two = absurd (omega (arith, alone.0))
    led_on zero zero some (le, other_le, inr (inr (inl alone))) one two = absurd (omega (arith, alone.1))
    led_on n m (inl some) (le, other_le, inr (inr (inr nothing))) one two = absurd (omega (arith, some, nothing.0))
    led_on n m (inr some) (le, other_le, inr (inr (inr nothing))) one two = absurd (omega (arith, some, nothing.1))
