-- The pairs of a node within two bounds, by where the bounds cut its children.
use Rattle.std.proofs.Common.{◌≡◌, ℕ, suc, ◌+◌, ◌-◌, ◌<◌, ◌≤◌, Bool, true, false, cond, List, [], ◌∷◌, ◌++◌, length, drop, take, get_or, refl, ap, sym, subst, ◌∙◌, append_assoc, append-nil, arith, inl, inr, Box, Bor, Global, Option, Some, None}
use Rattle.std.proofs.lemmas.Bool.Decides.{leb_tells}
use Rattle.std.proofs.lemmas.Cmp.{nat_list_cmp_total}
use Rattle.std.proofs.Math.Seq.{drop-cons}
use Rattle.std.proofs.lemmas.List.{drop-drop, drop_all, get_or-drop, get_or-take, get_or_default, length-drop, length-take-le, take-append-drop}
use Rattle.std.specs.Ordering.{is_le, is_lt, nat_cmp, ordering_reverse}
use Rattle.std.specs.Cmp.Lexicographic.{slice_cmp}
use Rattle.std.specs.Range.Bound.{MatchBound}
use Rattle.std.specs.declared.ops.Bound.{Bound}
use Rattle.std.specs.declared.ops.Bound.TheVariants.{Included, Excluded, Unbounded}
use Rattle.masked_tree.specs.Tree.{Tree, plain, entries_at, entries_in}
use Rattle.nibble_map.specs.Swaps.{entry}
use Rattle.nibble_map.specs.Trees.{IsFull}
use Rattle.radix_nodes.specs.declared.trie_node.KeyValue.{KeyValue}
use Rattle.radix_nodes.specs.declared.trie_node.TrieNode.{TrieNode}
use Rattle.radix_nodes.specs.Nodes.{children_of, tree_of}
use Rattle.radix_nodes.specs.Pairs.{own_pair, pairs_in_all, pairs_of}
use Rattle.radix_nodes.proofs.NodeLemmas.Pairs.{pairs_of-append}
use Rattle.radix_trie.specs.Views.{is_above, is_below, is_within}
use Rattle.radix_trie.specs.Walks.{IsCutByList, IsCutBy, HasBoxOnWay, IsWayOf, LeadsOn, ReachesDown, bound_behind, pairs_of_span, pairs_where, past, way_high, way_low}
use Rattle.radix_trie.proofs.WalkLemmas.Ends.{entries_in-boxes}
use Rattle.radix_trie.proofs.WalkLemmas.FullRows.{full-drop, full-front}
use Rattle.radix_trie.proofs.WalkLemmas.Tested.{where-append, where_behind, where_gone, where_kept}

-- the order of two lists, the other way round
turned : (q e : List ℕ) → ordering_reverse (slice_cmp nat_cmp q e) ≡ slice_cmp nat_cmp e q
turned q e = sym (nat_list_cmp_total.antisymm e q)

module _ {K V : Type 0} (depth : ℕ) (bs : List (Box (TrieNode K V) Global)) where
  -- what is told by the answers of an order is told by the order
  cut-map : {X Y : Type 0} (f : X → Y) (order : ℕ → List ℕ → X) (early late : X) (before : ℕ) (way : Option (Bor (TrieNode K V) × ℕ))
      → IsCutBy order early late depth bs before way → IsCutBy (λ d e. f (order d e)) (f early) (f late) depth bs before way
  cut-map f order early late before way c = record {
    first = λ i b lt at y. ap f (c.first i b lt at y);
    last = λ i b le lt at y. ap f (c.last i b le lt at y);
    between = λ b lt at y. ap f (c.between b lt at y);
    on_way = c.on_way;
    own = λ lt. ap f (c.own lt);
    inside = c.inside;
  }

  -- where a bound cuts the boxes; without one, all come behind `most`
  abbrev IsCut : Bound (List ℕ) → ℕ → ℕ → Option (Bor (TrieNode K V) × ℕ) → Type 0
  IsCut bound most before way = MatchBound bound (λ q. IsCutByList q depth bs before way) (λ q. IsCutByList q depth bs before way) ((before ≡ most) × (way ≡ None))

  -- a lower bound, below which no list stands
  cut-low : (low : Bound (List ℕ)) (before : ℕ) (way : Option (Bor (TrieNode K V) × ℕ)) → IsCut low 0 before way
      → IsCutBy (λ d. is_above (bound_behind d low)) false true depth bs before way
  cut-low (Included q) before way c = cut-map is_le _ _ _ before way c
  cut-low (Excluded q) before way c = cut-map is_lt _ _ _ before way c
  cut-low Unbounded before way (none, bare) = rw (none, bare) record {
    first = λ i b lt at y. absurd (omega (arith, lt));
    last = λ i b le lt at y. refl;
    between = λ b lt. absurd (omega (arith, lt));
    on_way = tt;
    own = λ lt. absurd (omega (arith, lt));
    inside = omega arith;
  }

  -- an upper bound, above which no list stands
  cut-high : (high : Bound (List ℕ)) (before : ℕ) (way : Option (Bor (TrieNode K V) × ℕ)) → IsCut high (length bs) before way
      → IsCutBy (λ d. is_below (bound_behind d high)) true false depth bs before way
  cut-high (Included q) before way c = subst (λ order. IsCutBy order true false depth bs before way) (λ i d e. is_le (turned (drop d q) e i)) (cut-map (λ o. is_le (ordering_reverse o)) _ _ _ before way c)
  cut-high (Excluded q) before way c = subst (λ order. IsCutBy order true false depth bs before way) (λ i d e. is_lt (turned (drop d q) e i)) (cut-map (λ o. is_lt (ordering_reverse o)) _ _ _ before way c)
  cut-high Unbounded before way (all, bare) = rw (all, bare) record {
    first = λ i b lt at y. refl;
    last = λ i b le lt at y. absurd (omega (arith, le, lt));
    between = λ b lt. absurd (omega (arith, lt));
    on_way = tt;
    own = λ lt. refl;
    inside = omega arith;
  }

module _ {K V : Type 0} (test : List ℕ → Bool) where
  -- the pairs at and below boxes whose lists pass
  abbrev passing : List (Box (TrieNode K V) Global) → List (K × V)
  passing bs = pairs_where test (entries_in [] (children_of bs))

  -- the answer is the same for all lists that the box at i begins
  abbrev Answers : List (Box (TrieNode K V) Global) → Bool → ℕ → Type 0
  Answers bs x i = (b : Box (TrieNode K V) Global) → get_or bs i b ≡ b → (y : List ℕ) → test ((tree_of b.value).fragment ++ y) ≡ x

  -- where all boxes pass
  passing-all : (bs : List (Box (TrieNode K V) Global)) → ((i : ℕ) → i < length bs → Answers bs true i) → passing bs ≡ pairs_in_all (children_of bs)
  passing-all [] all = refl
  passing-all (b ∷ bs) all =
      let t = tree_of b.value in
      where-append test (entries_at [] t) (entries_in [] (children_of bs))
      ∙ (λ k. where_kept test t.fragment t (all 0 (omega arith) b refl) k ++ passing-all bs (λ i lt. all (suc i) (omega (arith, lt))) k)
      ∙ sym (pairs_of-append (entries_at [] t) (entries_in [] (children_of bs)))

  -- where none passes
  passing-none : (bs : List (Box (TrieNode K V) Global)) → ((i : ℕ) → i < length bs → Answers bs false i) → passing bs ≡ []
  passing-none [] none = refl
  passing-none (b ∷ bs) none =
      let t = tree_of b.value in
      where-append test (entries_at [] t) (entries_in [] (children_of bs))
      ∙ (λ k. where_gone test t.fragment t (none 0 (omega arith) b refl) k ++ passing-none bs (λ i lt. none (suc i) (omega (arith, lt))) k)

  module _ (bs : List (Box (TrieNode K V) Global)) where
    -- the boxes from one place on and before another
    abbrev part : ℕ → ℕ → List (Box (TrieNode K V) Global)
    part from to = take (to - from) (drop from bs)

    -- what is answered in a part
    part-answers : (from to : ℕ) (x : Bool) → from ≤ to → to ≤ length bs → ((i : ℕ) → from ≤ i → i < to → Answers bs x i) → (i : ℕ) → i < length (part from to) → Answers (part from to) x i
    part-answers from to x le inside all i lt b at =
        let few : i < to - from = omega (arith, lt, length-take-le (to - from) (drop from bs) (omega (arith, inside, length-drop from bs))) in
        all (from + i) (omega arith) (omega (arith, few)) b (sym (get_or-drop from bs i b) ∙ sym (get_or-take (to - from) (drop from bs) i b few) ∙ at)

    -- a part comes before what is behind it
    passing-part : (from to : ℕ) → from ≤ to → passing (drop from bs) ≡ passing (part from to) ++ passing (drop to bs)
    passing-part from to le =
        let behind : drop (to - from) (drop from bs) ≡ drop to bs = drop-drop (to - from) from bs ∙ ap (λ k. drop k bs) (omega (arith, le)) in
        ap passing (sym (take-append-drop (to - from) (drop from bs)) ∙ ap (λ l. part from to ++ l) behind)
        ∙ ap (pairs_where test) (entries_in-boxes (part from to) (drop to bs))
        ∙ where-append test (entries_in [] (children_of (part from to))) (entries_in [] (children_of (drop to bs)))

    -- a box on the way comes before what is behind it
    passing-way : (depth from : ℕ) (other : ℕ → List ℕ → Bool) (b : Box (TrieNode K V) Global) (r : Bor (TrieNode K V) × ℕ) → from < length bs → get_or bs from b ≡ b → IsWayOf depth b r
        → ((y : List ℕ) → test ((tree_of b.value).fragment ++ y) ≡ other (depth + length (tree_of b.value).fragment) y)
        → passing (drop from bs) ≡ pairs_where (other r.1) (entry [] (tree_of r.0.now).pair ++ entries_in [] (tree_of r.0.now).children) ++ passing (drop (suc from) bs)
    passing-way depth from other b r lt at (node, far) alike =
        let t = tree_of b.value in
        ap passing (drop-cons bs from b lt ∙ ap (λ c. c ∷ drop (suc from) bs) at)
        ∙ where-append test (entries_at [] t) (entries_in [] (children_of (drop (suc from) bs)))
        ∙ ap (λ ps. ps ++ passing (drop (suc from) bs)) (
        where_behind test (other (depth + length t.fragment)) t.fragment alike t.pair t.children
        ∙ (λ k. pairs_where (other (sym far k)) (entry [] (tree_of (node k)).pair ++ entries_in [] (tree_of (node k)).children))
        )

    -- where all boxes of a part pass
    part-all : (from to : ℕ) → from ≤ to → to ≤ length bs → ((i : ℕ) → from ≤ i → i < to → Answers bs true i) → passing (drop from bs) ≡ pairs_in_all (children_of (part from to)) ++ passing (drop to bs)
    part-all from to le inside all = passing-part from to le ∙ ap (λ ps. ps ++ passing (drop to bs)) (passing-all (part from to) (part-answers from to true le inside all))

    -- where none passes
    part-none : (from to : ℕ) → from ≤ to → to ≤ length bs → ((i : ℕ) → from ≤ i → i < to → Answers bs false i) → passing (drop from bs) ≡ passing (drop to bs)
    part-none from to le inside none = passing-part from to le ∙ ap (λ ps. ps ++ passing (drop to bs)) (passing-none (part from to) (part-answers from to false le inside none))

    -- where none passes from a place on
    rest-none : (from : ℕ) → from ≤ length bs → ((i : ℕ) → from ≤ i → i < length bs → Answers bs false i) → passing (drop from bs) ≡ []
    rest-none from inside none = part-none from (length bs) inside (omega arith) none ∙ ap passing (drop_all (length bs) bs (omega arith))

  -- the own pair of a node
  own-passes : (o : Option (KeyValue K V)) → pairs_where test (entry [] o) ≡ cond (test []) (own_pair o) []
  own-passes None = by (test [])
    where
      by : (b : Bool) → ◌≡◌ {A = List (K × V)} [] (cond b [] [])
      by true = refl
      by false = refl
  own-passes (Some x) = by (test [])
    where
      by : (b : Bool) → pairs_of (cond b (([], x) ∷ []) []) ≡ cond b (own_pair (Some x)) []
      by true = refl
      by false = refl

module _ {K V : Type 0} (before : ℕ) where
  -- at most one box is on the way
  pub past-most : (way : Option (Bor (TrieNode K V) × ℕ)) → past before way ≤ suc before
  past-most None = omega arith
  past-most (Some r) = omega arith

  -- and it stands behind those before it
  past-least : (way : Option (Bor (TrieNode K V) × ℕ)) → before ≤ past before way
  past-least None = omega arith
  past-least (Some r) = omega arith

-- a part of full boxes is full
pub full-part : {K V : Type 0} (from count : ℕ) (bs : List (Box (TrieNode K V) Global)) → IsFull (plain (children_of bs)) → IsFull (plain (children_of (take count (drop from bs))))
full-part from count bs full =
    full-front (take count (drop from bs)) (drop count (drop from bs)) (subst (λ cs. IsFull (plain (children_of cs))) (sym (take-append-drop count (drop from bs))) (full-drop from bs full))

-- what doesn't come after a lower bound isn't within
under-fails : (b : Bool) → cond b false false ≡ false
under-fails true = refl
under-fails false = refl

-- a node, of whose boxes two bounds cut off the first and the last
module _ {K V : Type 0} (low high : Bound (List ℕ)) (depth : ℕ) (t : Tree (KeyValue K V)) (bs : List (Box (TrieNode K V) Global)) (boxes : t.children ≡ children_of bs)
    (from to : ℕ) (below above : Option (Bor (TrieNode K V) × ℕ))
    (most : ℕ) (all : most ≡ length bs) (cut : IsCut depth bs low 0 from below) (other : IsCut depth bs high most to above) where
  -- what the lower bound cuts off
  lows : IsCutBy (λ d. is_above (bound_behind d low)) false true depth bs from below
  lows = cut-low depth bs low from below cut

  -- what the upper bound cuts off
  highs : IsCutBy (λ d. is_below (bound_behind d high)) true false depth bs to above
  highs = cut-high depth bs high to above (subst (λ m. IsCut depth bs high m to above) all other)

  -- what is within the bounds
  abbrev within : ℕ → List ℕ → Bool
  within d = is_within (bound_behind d low) (bound_behind d high)

  -- the pairs within them
  abbrev span : List (K × V)
  span = pairs_of_span (bound_behind depth low) (bound_behind depth high) t

  -- the node's own pair, where it is
  abbrev kept : List (K × V)
  kept = cond (within depth []) (own_pair t.pair) []

  -- the node's own pair, and the pairs below it
  whole : span ≡ kept ++ passing (within depth) bs
  whole =
      where-append (within depth) (entry [] t.pair) (entries_in [] t.children)
      ∙ (λ k. own-passes (within depth) t.pair k ++ pairs_where (within depth) (entries_in [] (boxes k)))

  -- a box under the lower bound isn't within
  under : (i : ℕ) → i < from → Answers (within depth) bs false i
  under i lt b at y = ap (λ x. cond (is_below (bound_behind depth high) ((tree_of b.value).fragment ++ y)) x false) (lows.first i b lt at y) ∙ under-fails (is_below (bound_behind depth high) ((tree_of b.value).fragment ++ y))

  -- nor is one over the upper bound
  over : (i : ℕ) → past to above ≤ i → i < length bs → Answers (within depth) bs false i
  over i le lt b at y = ap (λ x. cond x (is_above (bound_behind depth low) ((tree_of b.value).fragment ++ y)) false) (highs.last i b le lt at y)

  -- a node under the lower bound isn't within
  under-own : 0 < past from below → kept ≡ []
  under-own lt = ap (λ x. cond (cond (is_below (bound_behind depth high) []) x false) (own_pair t.pair) []) (lows.own lt) ∙ ap (λ x. cond x (own_pair t.pair) []) (under-fails (is_below (bound_behind depth high) []))

  -- where the upper bound comes before all that the lower one leaves, nothing is within
  pub nothing : to < past from below → past to above ≤ from → [] ≡ span
  nothing crossed le = sym (whole ∙ (λ k. under-own (omega (arith, crossed)) k ++ passing-none (within depth) bs none k))
    where
      none : (i : ℕ) → i < length bs → Answers (within depth) bs false i
      none i lt = elim (leb_tells (suc i) from) [
        | inl l ↦ under i l.1
        | inr l ↦ over i (omega (arith, le, l.1)) lt
      ]

  -- the boxes under the lower bound are left out
  skipped : kept ++ passing (within depth) (drop from bs) ≡ span
  skipped = ap (λ ps. kept ++ ps) (sym (part-none (within depth) bs 0 from (omega arith) (omega (arith, lows.inside, past-least from below)) (λ i le. under i))) ∙ sym whole

  -- those over the upper bound too
  ended : passing (within depth) (drop (past to above) bs) ≡ []
  ended = rest-none (within depth) bs (past to above) highs.inside over

  -- where both go on to the same child, that is what is left
  pub same-child : (r : Bor (TrieNode K V) × ℕ) → to < past from below → below ≡ Some r → from < past to above
      → pairs_of_span (bound_behind r.1 low) (bound_behind r.1 high) (tree_of r.0.now) ≡ span
  same-child r crossed is reaches =
      let here : past from below ≡ suc from = ap (past from) is in
      let met : from ≡ to = omega (arith, crossed, here, reaches, past-most to above) in
      let (b, at, way) = subst (HasBoxOnWay depth bs from) is lows.on_way in
      let end : suc from ≡ past to above = omega (arith, met, reaches, past-most to above) in
      let child = passing-way (within depth) bs depth from within b r (omega (arith, lows.inside, here)) at way
      (λ y k. cond (highs.between b (omega (arith, reaches, met)) (ap (λ i. get_or bs i b) (sym met) ∙ at) y k) (lows.between b (omega (arith, here)) at y k) false) in
      sym (
      sym skipped
      ∙ ap (λ ps. ps ++ passing (within depth) (drop from bs)) (under-own (omega (arith, crossed)))
      ∙ child
      ∙ ap (λ ps. pairs_of_span (bound_behind r.1 low) (bound_behind r.1 high) (tree_of r.0.now) ++ ps) (ap (λ i. passing (within depth) (drop i bs)) end ∙ ended)
      ∙ append-nil (pairs_of_span (bound_behind r.1 low) (bound_behind r.1 high) (tree_of r.0.now))
      )

  -- as many nibbles of the upper bound lie behind that child
  pub same-depth : (r : Bor (TrieNode K V) × ℕ) → to < past from below → below ≡ Some r → from < past to above → LeadsOn high t above → ReachesDown r.1 high
  same-depth r crossed is reaches = by above refl
    where
      by : (way : Option (Bor (TrieNode K V) × ℕ)) → above ≡ way → LeadsOn high t way → ReachesDown r.1 high
      by None bare leads = absurd (omega (arith, crossed, reaches, ap (past from) is, ap (past to) bare))
      by (Some s) other leads =
          let here : past from below ≡ suc from = ap (past from) is in
          let met : from ≡ to = omega (arith, crossed, here, reaches, past-most to above) in
          let (b, at, way) = subst (HasBoxOnWay depth bs from) is lows.on_way in
          let (d, there, way2) = subst (HasBoxOnWay depth bs to) other highs.on_way in
          let box : d ≡ b = sym there ∙ ap (λ i. get_or bs i d) (sym met) ∙ get_or_default bs from d b (omega (arith, lows.inside, here)) ∙ at in
          subst (λ n. ReachesDown n high) (way2.1 ∙ ap (λ (c : Box (TrieNode K V) Global). depth + length (tree_of c.value).fragment) box ∙ sym way.1) leads.0

  -- where the lower bound's way ends before the upper one's, what is within stands after the one, between both, and before the other
  module _ (le : past from below ≤ to) where
    -- after the lower bound, of the child that it goes on to
    low-step : (way : Option (Bor (TrieNode K V) × ℕ)) → below ≡ way → passing (within depth) (drop from bs) ≡ way_low low way ++ passing (within depth) (drop (past from way) bs)
    low-step None is = refl
    low-step (Some r) is =
        let here : past from below ≡ suc from = ap (past from) is in
        let (b, at, way) = subst (HasBoxOnWay depth bs from) is lows.on_way in
        passing-way (within depth) bs depth from (λ d. is_within (bound_behind d low) Unbounded) b r (omega (arith, lows.inside, here)) at way
        (λ y k. cond (highs.first from b (omega (arith, le, here)) at y k) (lows.between b (omega (arith, here)) at y k) false)

    -- before the upper bound, of the child that it goes on to
    high-step : (way : Option (Bor (TrieNode K V) × ℕ)) → above ≡ way → passing (within depth) (drop to bs) ≡ way_high high way ++ passing (within depth) (drop (past to way) bs)
    high-step None is = refl
    high-step (Some r) is =
        let here : past to above ≡ suc to = ap (past to) is in
        let inside : to < length bs = omega (arith, highs.inside, here) in
        let (b, at, way) = subst (HasBoxOnWay depth bs to) is highs.on_way in
        passing-way (within depth) bs depth to (λ d. is_within Unbounded (bound_behind d high)) b r inside at way
        (λ y k. cond (highs.between b (omega (arith, here)) at y k) (lows.last to b le inside at y k) false)

    -- the boxes between both are left
    middle : passing (within depth) (drop (past from below) bs) ≡ pairs_in_all (children_of (part (within depth) bs (past from below) to)) ++ passing (within depth) (drop to bs)
    middle = part-all (within depth) bs (past from below) to le (omega (arith, highs.inside, past-least to above))
        (λ i least lt b at y k. cond (highs.first i b lt at y k) (lows.last i b least (omega (arith, lt, highs.inside, past-least to above)) at y k) false)

    -- the own pair counts where the lower bound goes on to no child
    own-first : (way : Option (Bor (TrieNode K V) × ℕ)) → below ≡ way → (rest : List (K × V))
        → kept ++ (way_low low way ++ rest) ≡ way_low low way ++ (kept ++ rest)
    own-first None is rest = refl
    own-first (Some r) is rest =
        let none = under-own (omega (arith, ap (past from) is)) in
        ap (λ ps. ps ++ (way_low low (Some r) ++ rest)) none ∙ ap (λ ps. way_low low (Some r) ++ (ps ++ rest)) (sym none)

    -- so much is left on the three parts
    pub apart : (own : List (K × V)) (row : List (Box (TrieNode K V) Global)) → own ≡ kept → row ≡ part (within depth) bs (past from below) to
        → span ≡ way_low low below ++ ((own ++ pairs_in_all (children_of row)) ++ way_high high above)
    apart own row first between =
        let rest = pairs_in_all (children_of (part (within depth) bs (past from below) to)) in
        sym skipped
        ∙ ap (λ ps. kept ++ ps) (low-step below refl ∙ ap (λ ps. way_low low below ++ ps) (middle ∙ ap (λ ps. rest ++ ps) (high-step above refl ∙ ap (λ ps. way_high high above ++ ps) ended ∙ append-nil (way_high high above))))
        ∙ own-first below refl (rest ++ way_high high above)
        ∙ ap (λ ps. way_low low below ++ ps) (sym (append_assoc kept rest (way_high high above)))
        ∙ (λ k. way_low low below ++ ((sym first k ++ pairs_in_all (children_of (sym between k))) ++ way_high high above))
