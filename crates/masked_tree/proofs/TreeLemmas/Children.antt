-- One child is written, or comes.
use Rattle.std.proofs.Common.{◌≡◌, ◌≢◌, ℕ, zero, suc, ◌+◌, ◌≤◌, ◌<◌, cond, ◌==◌, Bool, true, false, List, [], ◌∷◌, ◌++◌, length, refl, ap, sym, subst, ◌∙◌, arith, inl, inr, append_assoc}
use Rattle.std.proofs.lemmas.Bool.{le-ltb}
use Rattle.std.proofs.lemmas.List.{length-append}
use Rattle.std.proofs.lemmas.Bool.Decides.{eqb_tells, leb_tells}
use Rattle.nibble_map.specs.Trees.{AreMany, IsFull, first}
use Rattle.nibble_map.specs.Swaps.{Swaps, entry}
use Rattle.masked_tree.specs.Mask.{IsRisingFrom, bit_of, rank}
use Rattle.masked_tree.specs.Tree.{Tree, Children, none, more, front, IsAt, plain, firsts, IsPlaced, IsTreePlaced, IsTreeFull, entries_in, entries_at, nodes_in, nibbles_in}
use Rattle.masked_tree.specs.Edits.{set_child, insert_child}
use Rattle.masked_tree.proofs.MaskLemmas.{bit_of-before}

module _ {A : Type 0} where
  -- a change within a part is a change of the whole
  swaps_within : (c d l r x y : List A) → Swaps l r x y → Swaps l r (c ++ x ++ d) (c ++ y ++ d)
  swaps_within c d l r x y s = record {
    before = c ++ s.before;
    after = s.after ++ d;
    was = rw s.was (search (append_assoc));
    is = rw s.is (search (append_assoc));
  }

  -- a change of a list is a change of the same with a list behind it
  swaps_before : (d l r x y : List A) → Swaps l r x y → Swaps l r (x ++ d) (y ++ d)
  swaps_before d l r x y s = swaps_within [] d l r x y s

  -- what a run put in place of another does to the length
  pub swaps-length : (l r old new : List A) → Swaps l r old new → length new + length l ≡ length old + length r
  swaps-length l r old new s =
      let a = length-append s.before (l ++ s.after) in
      let b = length-append l s.after in
      let c = length-append s.before (r ++ s.after) in
      let d = length-append r s.after in
      omega (arith, a, b, c, d, ap length s.was, ap length s.is)

  -- a change of a list is a change of the same with a list in front of it
  pub swaps_after : (c l r x y : List A) → Swaps l r x y → Swaps l r (c ++ x) (c ++ y)
  swaps_after c l r x y s = record {
    before = c ++ s.before;
    after = s.after;
    was = rw s.was (search (append_assoc));
    is = rw s.is (search (append_assoc));
  }

module _ {P : Type 0} where
  -- the first nibbles of placed children rise
  pub placed_rises : (low : ℕ) (k : Children P) → IsPlaced low k → IsRisingFrom low (firsts k)
  placed_rises low none h = tt
  placed_rises low (more f o m children others) h = (h.1, placed_rises (suc (first f)) others h.4)

  -- the child at i is one of its own
  -- a child of placed children has a fragment that isn't empty, and its own children are placed
  pub child_tree_is_placed : (low i : ℕ) (k : Children P) (t : Tree P) → IsAt i k t → IsPlaced low k → (t.fragment ≢ []) × IsTreePlaced t
  child_tree_is_placed low i none t a h = absurd a
  child_tree_is_placed low zero (more f o m children others) t a h =
      subst (λ t. (t.fragment ≢ []) × IsTreePlaced t) (sym a) (h.0, (h.2, h.3))
  child_tree_is_placed low (suc i) (more f o m children others) t a h = child_tree_is_placed (suc (first f)) i others t a h.4

  -- and begins no lower than the first
  -- where children are placed from a nibble on, each begins with that nibble or a higher one
  pub child_begins_from : (low i : ℕ) (k : Children P) (t : Tree P) → IsAt i k t → IsPlaced low k → low ≤ first t.fragment
  child_begins_from low i none t a h = absurd a
  child_begins_from low zero (more f o m children others) t a h = subst (λ (t : Tree P). low ≤ first t.fragment) (sym a) h.1
  child_begins_from low (suc i) (more f o m children others) t a h = omega (arith, h.1, child_begins_from (suc (first f)) i others t a h.4)

  -- a child is written
  -- the children's first nibbles stay where a child is written that begins as the old one did
  pub firsts-set_child : (i : ℕ) (k : Children P) (t u : Tree P) → IsAt i k t → first u.fragment ≡ first t.fragment → firsts (set_child i u k) ≡ firsts k
  firsts-set_child i none t u a e = refl
  firsts-set_child zero (more f o m children others) t u a e = ap (λ n. n ∷ firsts others) (e ∙ ap (λ t. first t.fragment) a)
  firsts-set_child (suc i) (more f o m children others) t u a e = ap (λ ns. first f ∷ ns) (firsts-set_child i others t u a e)

  -- children stay placed where a placed child is written that begins as the old one did
  pub set_child_placed : (low i : ℕ) (k : Children P) (t u : Tree P) → IsAt i k t → first u.fragment ≡ first t.fragment → u.fragment ≢ [] → IsTreePlaced u →
      IsPlaced low k → IsPlaced low (set_child i u k)
  set_child_placed low i none t u a e s p h = tt
  set_child_placed low zero (more f o m children others) t u a e s p h =
      let g : first u.fragment ≡ first f = e ∙ ap (λ t. first t.fragment) a in
      (s, subst (λ n. low ≤ n) (sym g) h.1, p.0, p.1, subst (λ n. IsPlaced (suc n) others) (sym g) h.4)
  set_child_placed low (suc i) (more f o m children others) t u a e s p h =
      (h.0, h.1, h.2, h.3, set_child_placed (suc (first f)) i others t u a e s p h.4)

  -- children stay full where the child that is written is full if the old one was
  pub set_child_full : (i : ℕ) (k : Children P) (t u : Tree P) → IsAt i k t → (IsTreeFull t → IsTreeFull u) → IsFull (plain k) → IsFull (plain (set_child i u k))
  set_child_full i none t u a f h = tt
  set_child_full zero (more f o m children others) t u a g h =
      let r = g (subst (λ t. IsTreeFull t) (sym a) (h.0, h.1)) in (r.0, r.1, h.2)
  set_child_full (suc i) (more f o m children others) t u a g h = (h.0, h.1, set_child_full i others t u a g h.2)

  -- children that are two or more stay so when one is written
  pub set_child_many : (i : ℕ) (k : Children P) (u : Tree P) → AreMany (plain k) → AreMany (plain (set_child i u k))
  set_child_many i none u h = h
  set_child_many i (more f o m children none) u h = absurd h
  set_child_many zero (more f o m children (more g p n ls others)) u h = tt
  set_child_many (suc zero) (more f o m children (more g p n ls others)) u h = tt
  set_child_many (suc (suc i)) (more f o m children (more g p n ls others)) u h = tt

  -- where one child's entries change, all children's entries change by the same run
  pub set_child_swaps : (i : ℕ) (k : Children P) (t u : Tree P) (l r : List (List ℕ × P)) (q : List ℕ) → IsAt i k t →
      Swaps l r (entries_at q t) (entries_at q u) → Swaps l r (entries_in q k) (entries_in q (set_child i u k))
  set_child_swaps i none t u l r q a s = absurd a
  set_child_swaps zero (more f o m children others) t u l r q a s =
      let here = swaps_before (entries_in q others) l r (entries_at q t) (entries_at q u) s in
      subst (λ t. Swaps l r (entries_at q t ++ entries_in q others) (entries_at q u ++ entries_in q others)) a here
  set_child_swaps (suc i) (more f o m children others) t u l r q a s =
      let own = entry (q ++ f) o ++ entries_in (q ++ f) children in
      swaps_after own l r _ _ (set_child_swaps i others t u l r q a s)

  -- when a child is written, the count of nodes changes as it does below that child
  pub nodes_in-set_child : (i : ℕ) (k : Children P) (t u : Tree P) (n m : ℕ) → IsAt i k t → nodes_in u.children + m ≡ nodes_in t.children + n → nodes_in (set_child i u k) + m ≡ nodes_in k + n
  nodes_in-set_child i none t u n m a e = absurd a
  nodes_in-set_child zero (more f o mask children others) t u n m a e = let g = ap (λ t. nodes_in t.children) a in omega (arith, g, e)
  nodes_in-set_child (suc i) (more f o mask children others) t u n m a e = omega (arith, nodes_in-set_child i others t u n m a e)

  -- when a child is written, the count of nibbles changes as that child's own does
  pub nibbles_in-set_child : (i : ℕ) (k : Children P) (t u : Tree P) (n m : ℕ) → IsAt i k t → length u.fragment + nibbles_in u.children + m ≡ length t.fragment + nibbles_in t.children + n →
      nibbles_in (set_child i u k) + m ≡ nibbles_in k + n
  nibbles_in-set_child i none t u n m a e = absurd a
  nibbles_in-set_child zero (more f o mask children others) t u n m a e = let g = ap (λ t. length t.fragment + nibbles_in t.children) a in omega (arith, g, e)
  nibbles_in-set_child (suc i) (more f o mask children others) t u n m a e = omega (arith, nibbles_in-set_child i others t u n m a e)

  -- a child comes
  -- with a new child, the first nibbles are the old ones and the new child's
  pub bit_of-insert_child : (i : ℕ) (k : Children P) (u : Tree P) (n : ℕ) → bit_of n (firsts (insert_child i u k)) ≡ cond (first u.fragment == n) 1 (bit_of n (firsts k))
  bit_of-insert_child zero k u n = refl
  bit_of-insert_child (suc i) none u n = refl
  bit_of-insert_child (suc i) (more f o m children others) u n = rw (bit_of-insert_child i others u n) (swap (first f == n) (first u.fragment == n) (bit_of n (firsts others)))
    where
      swap : (b c : Bool) (z : ℕ) → cond b 1 (cond c 1 z) ≡ cond c 1 (cond b 1 z)
      swap true true z = refl
      swap true false z = refl
      swap false c z = refl

  -- children stay placed with a new one at the rank of its first nibble, if that nibble is new
  pub insert_child_placed : (low y : ℕ) (k : Children P) (u : Tree P) → first u.fragment ≡ y → u.fragment ≢ [] → IsTreePlaced u → low ≤ y → bit_of y (firsts k) ≡ 0 →
      IsPlaced low k → IsPlaced low (insert_child (rank y (firsts k)) u k)
  insert_child_placed low y none u e s p l z h = (s, subst (λ n. low ≤ n) (sym e) l, p.0, p.1, tt)
  insert_child_placed low y (more f o m children others) u e s p l z h =
      elim (eqb_tells (first f) y) [
        | inl t ↦ (let g = rw t.0 at z in absurd (omega arith))
        | inr t ↦ (let g = rw t.0 at z in elim (leb_tells (suc (first f)) y) [
          | inl v ↦ rw v.0 (h.0, h.1, h.2, h.3, insert_child_placed (suc (first f)) y others u e s p v.1 g h.4)
          | inr v ↦ rw v.0 (s, subst (λ n. low ≤ n) (sym e) l, p.0, p.1, (h.0, (let w : suc y ≤ first f = omega (arith, t.1, v.1) in subst (λ n. suc n ≤ first f) (sym e) w), h.2, h.3, h.4))
        ])
      ]

  -- children stay full with a new child that is full
  pub insert_child_full : (i : ℕ) (k : Children P) (u : Tree P) → IsTreeFull u → IsFull (plain k) → IsFull (plain (insert_child i u k))
  insert_child_full zero k u g h = (g.0, g.1, h)
  insert_child_full (suc i) none u g h = (g.0, g.1, h)
  insert_child_full (suc i) (more f o m children others) u g h = (h.0, h.1, insert_child_full i others u g h.2)

  -- with the one that comes there are two
  -- children that are one or more are two or more with a new one
  pub insert_child_many : (i : ℕ) (k : Children P) (u : Tree P) → k ≢ none → AreMany (plain (insert_child i u k))
  insert_child_many i none u h = absurd (h refl)
  insert_child_many zero (more f o m children others) u h = tt
  insert_child_many (suc zero) (more f o m children others) u h = tt
  insert_child_many (suc (suc i)) (more f o m children none) u h = tt
  insert_child_many (suc (suc i)) (more f o m children (more g p n ls others)) u h = tt

  -- a new child brings its entries in one run, and the others' stay
  pub insert_child_swaps : (i : ℕ) (k : Children P) (u : Tree P) (q : List ℕ) → Swaps [] (entries_at q u) (entries_in q k) (entries_in q (insert_child i u k))
  insert_child_swaps zero k u q = record { before = []; after = entries_in q k; was = refl; is = refl }
  insert_child_swaps (suc i) none u q = record { before = []; after = []; was = refl; is = refl }
  insert_child_swaps (suc i) (more f o m children others) u q =
      swaps_after (entry (q ++ f) o ++ entries_in (q ++ f) children) [] (entries_at q u) _ _ (insert_child_swaps i others u q)

  -- a new child brings one node and those below it
  pub nodes_in-insert_child : (i : ℕ) (k : Children P) (u : Tree P) → nodes_in (insert_child i u k) ≡ nodes_in k + suc (nodes_in u.children)
  nodes_in-insert_child zero k u = omega arith
  nodes_in-insert_child (suc i) none u = omega arith
  nodes_in-insert_child (suc i) (more f o m children others) u = omega (arith, nodes_in-insert_child i others u)

  -- a new child brings its fragment's nibbles and those below it
  pub nibbles_in-insert_child : (i : ℕ) (k : Children P) (u : Tree P) → nibbles_in (insert_child i u k) ≡ nibbles_in k + (length u.fragment + nibbles_in u.children)
  nibbles_in-insert_child zero k u = omega arith
  nibbles_in-insert_child (suc i) none u = omega arith
  nibbles_in-insert_child (suc i) (more f o m children others) u = omega (arith, nibbles_in-insert_child i others u)

  -- the child at the rank of a nibble begins with that nibble, if one of the children does
  pub first-at_rank : (low y : ℕ) (k : Children P) (t : Tree P) → IsRisingFrom low (firsts k) → bit_of y (firsts k) ≡ 1 → IsAt (rank y (firsts k)) k t → first t.fragment ≡ y
  first-at_rank low y none t r b a = absurd (omega (arith, b))
  first-at_rank low y (more f o m children others) t r b a =
      elim (eqb_tells (first f) y) [
        | inl e ↦ (let a' = rw (le-ltb (first f) y (omega (arith, e.1))) at a in ap (λ t. first t.fragment) a' ∙ e.1)
        | inr e ↦ (let g = rw e.0 at b in elim (leb_tells (suc (first f)) y) [
          | inl u ↦ (let a' = rw u.0 at a in first-at_rank (suc (first f)) y others t r.1 g a')
          | inr u ↦ (let z = bit_of-before (firsts others) (suc (first f)) y r.1 (omega (arith, e.1, u.1)) in absurd (omega (arith, z, g)))
        ])
      ]

  -- a child written over itself changes nothing
  pub set_child-same : (i : ℕ) (k : Children P) (t : Tree P) → IsAt i k t → set_child i t k ≡ k
  set_child-same i none t a = refl
  set_child-same zero (more f o m children others) t a = ap (λ t. front t others) a
  set_child-same (suc i) (more f o m children others) t a = ap (λ k. more f o m children k) (set_child-same i others t a)

  -- only one child is at i
  pub child_at_is_unique : (i : ℕ) (k : Children P) (t u : Tree P) → IsAt i k t → IsAt i k u → u ≡ t
  child_at_is_unique i none t u a b = absurd a
  child_at_is_unique zero (more f o m children others) t u a b = b ∙ sym a
  child_at_is_unique (suc i) (more f o m children others) t u a b = child_at_is_unique i others t u a b

  -- and one is where there are so many
  -- at each index below the count of children there is one
  pub child_at_exists : (i : ℕ) (k : Children P) → i < length (firsts k) → (u : Tree P) × IsAt i k u
  child_at_exists i none l = absurd (omega (arith, l))
  child_at_exists zero (more f o m children others) l = (record { fragment = f; pair = o; mask = m; children = children }, refl)
  child_at_exists (suc i) (more f o m children others) l = child_at_exists i others (omega (arith, l))
