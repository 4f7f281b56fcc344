-- What is left of the bounds of a walk behind a path.
use Rattle.std.proofs.Common.{◌≡◌, ℕ, ◌+◌, ◌≤◌, Bool, true, false, cond, List, ◌++◌, drop, length, take, Option, Some, None, Less, Greater, Ordering, refl, ap, sym, subst, ◌∙◌, append_assoc, zero-add, arith, Bor, ◌-◌}
use Rattle.std.proofs.lemmas.Cmp.{nat_list_cmp_total}
use Rattle.std.proofs.lemmas.List.{drop_at, length-append, length-take-le, take-append-drop}
use Rattle.std.specs.Ordering.{is_le, is_lt, ordering_reverse}
use Rattle.std.specs.Range.Bound.{MatchBound}
use Rattle.std.specs.declared.ops.Bound.{Bound}
use Rattle.std.specs.declared.ops.Bound.TheVariants.{Included, Excluded, Unbounded}
use Rattle.radix_trie.specs.declared.iter.side.Side.TheVariants as side
use Rattle.radix_trie.specs.Limits.{AreLimits, BoundGoesOn, GoesOn, IsLimit}
use Rattle.radix_trie.specs.Loci.{IsLocus}
use Rattle.radix_trie.specs.declared.locus.within.Limits.{Limits}
use Rattle.nibble_map.specs.Maps.{PairMap}
use Rattle.radix_nodes.specs.declared.trie_node.TrieNode.{TrieNode}
use Rattle.radix_nodes.specs.Nodes.{fragment_of}
use Rattle.radix_nodes.proofs.NodeLemmas.Nodes.{fragment-tree_of}
use Rattle.radix_trie.proofs.PathLemmas.Later.{whole}
use Rattle.radix_trie.proofs.PathLemmas.Loci.{nearest_found, path_ends}
use Rattle.radix_trie.specs.Views.{is_above, is_below, is_within}
use Rattle.radix_trie.specs.Walks.{ReachesDown, StandsBeside, bound_behind, bound_now, passes}
use Rattle.radix_trie.proofs.WalkLemmas.Order.{order, order-behind}

-- the bound at a list, which is within it where `itself` says so
abbrev pub bound_at : Bool → List ℕ → Bound (List ℕ)
bound_at true q = Included q
bound_at false q = Excluded q

-- a bound with a list is that at the list
pub at_list : (b : Bound (List ℕ)) (o : Option (List ℕ)) (q : List ℕ) → MatchBound b (λ r. o ≡ Some r) (λ r. o ≡ Some r) (o ≡ None) → o ≡ Some q
    → (itself : Bool) × (b ≡ bound_at itself q)
at_list (Included r) o q has is = (true, let same = sym has ∙ is in cc)
at_list (Excluded r) o q has is = (false, let same = sym has ∙ is in cc)
at_list Unbounded o q has is = absurd (let never : Some q ≡ None = sym is ∙ has in cc)

-- a bound without one is none
pub no_list : (b : Bound (List ℕ)) (o : Option (List ℕ)) → MatchBound b (λ r. o ≡ Some r) (λ r. o ≡ Some r) (o ≡ None) → o ≡ None → b ≡ Unbounded
no_list (Included r) o has is = absurd (let never : Some r ≡ None = sym has ∙ is in cc)
no_list (Excluded r) o has is = absurd (let never : Some r ≡ None = sym has ∙ is in cc)
no_list Unbounded o has is = refl

-- a list beside a bound at a list, by the order of the two
module _ (itself : Bool) (depth : ℕ) (q e : List ℕ) where
  above-at : is_above (bound_behind depth (bound_at itself q)) e ≡ passes itself (order (drop depth q) e)
  above-at = by itself
    where
      by : (b : Bool) → is_above (bound_behind depth (bound_at b q)) e ≡ passes b (order (drop depth q) e)
      by true = refl
      by false = refl

  below-at : is_below (bound_behind depth (bound_at itself q)) e ≡ passes itself (order e (drop depth q))
  below-at = by itself
    where
      by : (b : Bool) → is_below (bound_behind depth (bound_at b q)) e ≡ passes b (order e (drop depth q))
      by true = refl
      by false = refl

-- what comes before passes
less_passes : (itself : Bool) (o : Ordering) → o ≡ Less → passes itself o ≡ true
less_passes true o is = rw is refl
less_passes false o is = rw is refl

-- what comes after doesn't
greater_fails : (itself : Bool) (o : Ordering) → o ≡ Greater → passes itself o ≡ false
greater_fails true o is = rw is refl
greater_fails false o is = rw is refl

-- the other way round
turned_less : (q e : List ℕ) → order q e ≡ Greater → order e q ≡ Less
turned_less q e is = nat_list_cmp_total.antisymm e q ∙ ap ordering_reverse is

turned_greater : (q e : List ℕ) → order q e ≡ Less → order e q ≡ Greater
turned_greater q e is = nat_list_cmp_total.antisymm e q ∙ ap ordering_reverse is

-- the bound at a list goes on as the list does
bound-goes_on : (itself : Bool) (f q : List ℕ) (depth next : ℕ) → next ≡ depth + length f → GoesOn f depth q → BoundGoesOn f depth next (bound_at itself q)
bound-goes_on true f q depth next is on = (is, on)
bound-goes_on false f q depth next is on = (is, on)

-- a bound, which is that at a list, and the side of the list on which the lists stand that f begins
module _ (b : Bound (List ℕ)) (itself : Bool) (f q : List ℕ) (depth : ℕ) (is : b ≡ bound_at itself q) where
  -- where they come before it, none passes it as a lower bound
  pub low_before : StandsBeside f q depth side.Before → IsLimit is_above f depth b None
  low_before s = rw is (λ y. above-at itself depth q (f ++ y) ∙ greater_fails itself _ (s y))

  -- where they come after it, all pass it as a lower bound
  pub low_after : StandsBeside f q depth side.After → IsLimit is_above f depth b (Some (Unbounded, 0))
  low_after s = rw is (omega arith, tt, λ y. above-at itself depth q (f ++ y) ∙ less_passes itself _ (s y))

  -- the list goes on from f where f stands so beside it
  goes_on : (next : ℕ) → StandsBeside f q depth (side.On next) → GoesOn f depth q
  goes_on next s = (subst (λ n. n ≤ length q) s.0 s.1, subst (λ n. f ++ drop n q ≡ drop depth q) s.0 s.2)

  -- where the list goes on from f, the rest decides of a lower bound
  pub low_on : (next : ℕ) → StandsBeside f q depth (side.On next) → IsLimit is_above f depth b (Some (b, next))
  low_on next s =
      let on = goes_on next s in
      rw is (
        (let e = s.0 in omega (arith, e)),
        bound-goes_on itself f q depth next s.0 on,
        λ y. above-at itself depth q (f ++ y) ∙ ap (λ l. passes itself (order l (f ++ y))) (sym on.1)
            ∙ ap (passes itself) (order-behind f (drop (depth + length f) q) y) ∙ sym (above-at itself (depth + length f) q y),
      )

  -- where they come before it, all pass it as an upper bound
  pub high_before : StandsBeside f q depth side.Before → IsLimit is_below f depth b (Some (Unbounded, 0))
  high_before s = rw is (omega arith, tt, λ y. below-at itself depth q (f ++ y) ∙ less_passes itself _ (turned_less (drop depth q) (f ++ y) (s y)))

  -- where they come after it, none passes it as an upper bound
  pub high_after : StandsBeside f q depth side.After → IsLimit is_below f depth b None
  high_after s = rw is (λ y. below-at itself depth q (f ++ y) ∙ greater_fails itself _ (turned_greater (drop depth q) (f ++ y) (s y)))

  -- where the list goes on from f, the rest decides of an upper bound
  pub high_on : (next : ℕ) → StandsBeside f q depth (side.On next) → IsLimit is_below f depth b (Some (b, next))
  high_on next s =
      let on = goes_on next s in
      rw is (
        (let e = s.0 in omega (arith, e)),
        bound-goes_on itself f q depth next s.0 on,
        λ y. below-at itself depth q (f ++ y) ∙ ap (λ l. passes itself (order (f ++ y) l)) (sym on.1)
            ∙ ap (passes itself) (order-behind f y (drop (depth + length f) q)) ∙ sym (below-at itself (depth + length f) q y),
      )

-- without a bound all lists pass
pub low_open : (b : Bound (List ℕ)) (f : List ℕ) (depth : ℕ) → b ≡ Unbounded → IsLimit is_above f depth b (Some (b, 0))
low_open b f depth is = rw is (omega arith, tt, λ y. refl)

pub high_open : (b : Bound (List ℕ)) (f : List ℕ) (depth : ℕ) → b ≡ Unbounded → IsLimit is_below f depth b (Some (b, 0))
high_open b f depth is = rw is (omega arith, tt, λ y. refl)

-- how far a bound that goes on reaches down, where another one that does so lies behind no more nibbles
pub reaches : (b : Bound (List ℕ)) (f : List ℕ) (depth next k : ℕ) → BoundGoesOn f depth next b → next ≤ k → k ≤ depth + length f
    → (bound_behind k b ≡ bound_behind (depth + length f) b) × ReachesDown k b
reaches (Included q) f depth next k on low high =
    let same : k ≡ depth + length f = omega (arith, on.0, low, high) in (ap (λ n. Included (drop n q)) same, subst (λ n. n ≤ length q) (sym same) on.1.0)
reaches (Excluded q) f depth next k on low high =
    let same : k ≡ depth + length f = omega (arith, on.0, low, high) in (ap (λ n. Excluded (drop n q)) same, subst (λ n. n ≤ length q) (sym same) on.1.0)
reaches Unbounded f depth next k on low high = (refl, tt)

-- a path p, which ends with x, and what a bound that goes on from p says there
module _ (p before x : List ℕ) (ends : p ≡ before ++ x) where
  -- what is left of a list that goes on from p
  left_at : (q : List ℕ) → GoesOn p 0 q → drop (length before) q ≡ x ++ drop (length p) q
  left_at q on =
      let rest = drop (length p) q in
      ap (drop (length before)) (sym on.1 ∙ ap (λ n. p ++ drop n q) (zero-add (length p)) ∙ ap (λ l. l ++ rest) ends ∙ append_assoc before x rest)
      ∙ drop_at before (x ++ rest) (length before) refl

  -- behind p it says of a list what it says in front of x of x and the list
  pub above_back : (b : Bound (List ℕ)) → BoundGoesOn p 0 (length p) b → (y : List ℕ) → is_above (bound_behind (length p) b) y ≡ is_above (bound_behind (length before) b) (x ++ y)
  above_back (Included q) on y = ap is_le (sym (order-behind x (drop (length p) q) y) ∙ ap (λ l. order l (x ++ y)) (sym (left_at q on.1)))
  above_back (Excluded q) on y = ap is_lt (sym (order-behind x (drop (length p) q) y) ∙ ap (λ l. order l (x ++ y)) (sym (left_at q on.1)))
  above_back Unbounded on y = refl

  pub below_back : (b : Bound (List ℕ)) → BoundGoesOn p 0 (length p) b → (y : List ℕ) → is_below (bound_behind (length p) b) y ≡ is_below (bound_behind (length before) b) (x ++ y)
  below_back (Included q) on y = ap is_le (sym (order-behind x y (drop (length p) q)) ∙ ap (λ l. order (x ++ y) l) (sym (left_at q on.1)))
  below_back (Excluded q) on y = ap is_lt (sym (order-behind x y (drop (length p) q)) ∙ ap (λ l. order (x ++ y) l) (sym (left_at q on.1)))
  below_back Unbounded on y = refl

-- the locus of a path p, whose found node has the path `whole`; and what is left of two bounds behind p and in front of the node's fragment
module _ {K V : Type 0} (enc : K → List ℕ) (m : PairMap K V) (p : List ℕ) (found : Option (Bor (TrieNode K V) × ℕ)) (locus : IsLocus enc m p found)
    (r : Bor (TrieNode K V)) (n : ℕ) (is : found ≡ Some (r, n)) where
  abbrev f : List ℕ
  f = fragment_of r.now

  abbrev before : List ℕ
  before = (path_ends enc m p found locus r n is).0

  -- so many nibbles lie in front of the fragment
  pub front_size : (d : ℕ) → d ≡ length p → (n ≤ d) × (d - n ≡ length before)
  front_size d size =
      let ends = (path_ends enc m p found locus r n is).1 in
      let near = nearest_found enc m p found locus r n is in
      let cut : length (take n f) ≡ n = length-take-le n f (omega (arith, near.within, ap length (fragment-tree_of r.now))) in
      let whole : length p ≡ length before + n = ap length ends ∙ length-append before (take n f) ∙ ap (λ k. length before + k) cut in
      (omega (arith, size, whole), omega (arith, size, whole))

  module _ (low high : Bound (List ℕ)) (l : Limits) (limits : AreLimits p low high (Some l)) (front : ℕ) (at : front ≡ length before) where
    -- the lists that the found node's path begins are within the bounds as the rests are within what is left
    module _ (y : List ℕ) where
      abbrev behind : List ℕ
      behind = drop n f ++ y

      same : take n f ++ behind ≡ f ++ y
      same = sym (append_assoc (take n f) (drop n f) y) ∙ ap (λ z. z ++ y) (take-append-drop n f)

      pub within_limits : is_within low high (whole enc m p found locus r n is ++ y)
          ≡ cond (is_below (bound_behind front (bound_now l.high)) (f ++ y)) (is_above (bound_behind front (bound_now l.low)) (f ++ y)) false
      within_limits =
          let ends = (path_ends enc m p found locus r n is).1 in
          ap (is_within low high) (append_assoc p (drop n f) y) ∙ limits.3 behind
          ∙ (λ i. cond (is_below (bound_behind (limits.0 i) (bound_now l.high)) behind) (is_above (bound_behind (limits.0 i) (bound_now l.low)) behind) false)
          ∙ (λ i. cond (below_back p before (take n f) ends (bound_now l.high) limits.2 behind i) (above_back p before (take n f) ends (bound_now l.low) limits.1 behind i) false)
          ∙ (λ i. cond (is_below (bound_behind (sym at i) (bound_now l.high)) (same i)) (is_above (bound_behind (sym at i) (bound_now l.low)) (same i)) false)

-- what is within two bounds passes both
pub none_above : (b : Bool) → cond b false false ≡ false
none_above true = refl
none_above false = refl
