-- Each step of a removal.
use Rattle.std.proofs.Common.{◌≡◌, ◌≢◌, ℕ, zero, suc, ◌+◌, ◌<◌, ◌≤◌, cond, ◌==◌, List, [], ◌∷◌, ◌++◌, length, Some, None, refl, ap, sym, subst, ◌∙◌, arith, inl, inr, append_assoc, append-nil}
use Rattle.std.proofs.lemmas.List.{length-append}
use Rattle.std.proofs.lemmas.Bool.Decides.{eqb_tells}
use Rattle.nibble_map.specs.Trees.{IsFull, first}
use Rattle.nibble_map.specs.Swaps.{Swaps, entry}
use Rattle.masked_tree.specs.Mask.{bit_of}
use Rattle.masked_tree.specs.Tree.{Tree, Children, none, more, IsAt, plain, firsts, IsPlaced, IsTreePlaced, IsTreeFull, entries_in, entries_at, nodes_in, nibbles_in}
use Rattle.masked_tree.specs.Edits.{remove_child, without_pair, without_child, IsOne, merged_into, merged, empty}
use Rattle.masked_tree.specs.Alters.{Run, entry_at, all_of, AltersChild, AltersRoot, CutsRoot, PrunesRoot}
use Rattle.masked_tree.proofs.MaskLemmas.{bit_at-cleared, cleared_lt, bit_of-before, eqb_other, zero_is_mask}
use Rattle.masked_tree.proofs.TreeLemmas.Children.{swaps_after, placed_rises, child_begins_from}
use Rattle.nibble_map.proofs.ListLemmas.Cut.{append-some, first-append}

module _ {P : Type 0} where
  -- children placed from a nibble on are placed from each lower one on
  pub placed_from : (low lower : ℕ) (k : Children P) → lower ≤ low → IsPlaced low k → IsPlaced lower k
  placed_from low lower none l h = tt
  placed_from low lower (more f o m children others) l h = (h.0, omega (arith, l, h.1), h.2, h.3, h.4)

  -- a child goes
  -- placed children stay placed when one goes
  remove_child_placed : (low i : ℕ) (k : Children P) → IsPlaced low k → IsPlaced low (remove_child i k)
  remove_child_placed low i none h = tt
  remove_child_placed low zero (more f o m children others) h = placed_from (suc (first f)) low others (omega (arith, h.1)) h.4
  remove_child_placed low (suc i) (more f o m children others) h = (h.0, h.1, h.2, h.3, remove_child_placed (suc (first f)) i others h.4)

  -- when a child goes, its first nibble goes and the others' stay
  bit_of-remove_child : (low i : ℕ) (k : Children P) (t : Tree P) (n : ℕ) → IsAt i k t → IsPlaced low k → bit_of n (firsts (remove_child i k)) ≡ cond (first t.fragment == n) 0 (bit_of n (firsts k))
  bit_of-remove_child low i none t n a h = absurd a
  bit_of-remove_child low zero (more f o m children others) t n a h =
      subst (λ (t : Tree P). bit_of n (firsts others) ≡ cond (first t.fragment == n) 0 (bit_of n (first f ∷ firsts others))) (sym a)
      (elim (eqb_tells (first f) n) [
        | inl e ↦ rw e.0 (bit_of-before (firsts others) (suc (first f)) n (placed_rises (suc (first f)) others h.4) (omega (arith, e.1)))
        | inr e ↦ rw e.0 refl
      ])
  bit_of-remove_child low (suc i) (more f o m children others) t n a h =
      let l = child_begins_from (suc (first f)) i others t a h.4 in
      let r = bit_of-remove_child (suc (first f)) i others t n a h.4 in
      elim (eqb_tells (first f) n) [
        | inl e ↦ rw (e.0, eqb_other (first t.fragment) n (λ z. omega (arith, z, e.1, l))) refl
        | inr e ↦ rw e.0 r
      ]

  -- full children stay full when one goes
  pub remove_child_full : (i : ℕ) (k : Children P) → IsFull (plain k) → IsFull (plain (remove_child i k))
  remove_child_full i none h = h
  remove_child_full zero (more f o m children others) h = h.2
  remove_child_full (suc i) (more f o m children others) h = (h.0, h.1, remove_child_full i others h.2)

  -- a child that goes takes its entries in one run, and the others' stay
  remove_child_swaps : (i : ℕ) (k : Children P) (t : Tree P) (q : List ℕ) → IsAt i k t → Swaps (entries_at q t) [] (entries_in q k) (entries_in q (remove_child i k))
  remove_child_swaps i none t q a = absurd a
  remove_child_swaps zero (more f o m children others) t q a = record { before = []; after = entries_in q others; was = ap (λ t. entries_at q t ++ entries_in q others) (sym a); is = refl }
  remove_child_swaps (suc i) (more f o m children others) t q a =
      swaps_after (entry (q ++ f) o ++ entries_in (q ++ f) children) (entries_at q t) [] _ _ (remove_child_swaps i others t q a)

  -- a child that goes takes one node and those below it
  nodes_in-remove_child : (i : ℕ) (k : Children P) (t : Tree P) → IsAt i k t → nodes_in (remove_child i k) + suc (nodes_in t.children) ≡ nodes_in k
  nodes_in-remove_child i none t a = absurd a
  nodes_in-remove_child zero (more f o m children others) t a = let g = ap (λ (t : Tree P). nodes_in t.children) a in omega (arith, g)
  nodes_in-remove_child (suc i) (more f o m children others) t a = omega (arith, nodes_in-remove_child i others t a)

  -- a child that goes takes its fragment's nibbles and those below it
  nibbles_in-remove_child : (i : ℕ) (k : Children P) (t : Tree P) → IsAt i k t → nibbles_in (remove_child i k) + (length t.fragment + nibbles_in t.children) ≡ nibbles_in k
  nibbles_in-remove_child i none t a = absurd a
  nibbles_in-remove_child zero (more f o m children others) t a = let g = ap (λ (t : Tree P). length t.fragment + nibbles_in t.children) a in omega (arith, g)
  nibbles_in-remove_child (suc i) (more f o m children others) t a = omega (arith, nibbles_in-remove_child i others t a)

  -- at the root and below it
  -- a node's own pair goes: one entry at its path, and no node
  pub pair_goes : (t : Tree P) (x : P) → t.pair ≡ Some x → IsTreePlaced t → CutsRoot t.fragment x 0 0 t (without_pair t)
  pair_goes t x is h = record {
    fragment = refl;
    below = λ f. f;
    alters = record {
      start = refl;
      some = λ s. s;
      placed = h;
      swaps = λ q. record { before = []; after = entries_in (q ++ t.fragment) t.children; was = ap (λ o. entry (q ++ t.fragment) o ++ entries_in (q ++ t.fragment) t.children) is; is = refl };
      nodes = refl;
      nibbles = refl;
    };
  }

  -- a child goes, with all below it
  pub child_goes : (t u : Tree P) (i y : ℕ) → IsAt i t.children u → first u.fragment ≡ y → y < 16 → IsTreePlaced t →
      PrunesRoot t.fragment u (suc (nodes_in u.children)) (length u.fragment + nibbles_in u.children) t (without_child i y t)
  child_goes t u i y a start low h = record {
    fragment = refl;
    below = λ f. remove_child_full i t.children f;
    alters = record {
      start = refl;
      some = λ s. s;
      placed = ((cleared_lt t.mask y h.0.0, λ n. bit_at-cleared t.mask y n (firsts t.children) low h.0 ∙ sym (rw (← start) (bit_of-remove_child 0 i t.children u n a h.1))), remove_child_placed 0 i t.children h.1);
      swaps = λ q. swaps_after (entry (q ++ t.fragment) t.pair) _ _ _ _ (remove_child_swaps i t.children u (q ++ t.fragment) a);
      nodes = let e = nodes_in-remove_child i t.children u a in omega (arith, e);
      nibbles = let e = nibbles_in-remove_child i t.children u a in omega (arith, e);
    };
  }

  -- all that goes with a leaf is its one entry, its node and its fragment
  pub leaf_run : (R : Run P → ℕ → ℕ → Type 0) (s : List ℕ) (u : Tree P) (x : P) (n : ℕ) → u.pair ≡ Some x → u.children ≡ none →
      R (all_of s u) (n + nodes_in u.children) (length u.fragment + nibbles_in u.children) → R (entry_at (s ++ u.fragment) (Some x)) n (length u.fragment)
  leaf_run R s u x n is ends r =
      let run : all_of s u ≡ entry_at (s ++ u.fragment) (Some x) = λ i q. entry_here q i in
      let nodes : n + nodes_in u.children ≡ n = (let z = ap nodes_in ends in omega (arith, z)) in
      let nibbles : length u.fragment + nibbles_in u.children ≡ length u.fragment = (let z = ap nibbles_in ends in omega (arith, z)) in
      subst (λ g. R g n (length u.fragment)) run
      (subst (λ k. R (all_of s u) k (length u.fragment)) nodes
      (subst (λ k. R (all_of s u) (n + nodes_in u.children) k) nibbles r))
    where
      entry_here : (q : List ℕ) → entries_at (q ++ s) u ≡ (q ++ (s ++ u.fragment), x) ∷ []
      entry_here q =
          ap (λ o. entry ((q ++ s) ++ u.fragment) o ++ entries_in ((q ++ s) ++ u.fragment) u.children) is
          ∙ ap (λ k. ((q ++ s) ++ u.fragment, x) ∷ entries_in ((q ++ s) ++ u.fragment) k) ends
          ∙ ap (λ p. (p, x) ∷ []) (append_assoc q s u.fragment)

  -- all goes from a root
  -- with the empty root in its place, a root's nodes, nibbles and entries all go
  pub all_goes : (t : Tree P) → t.fragment ≡ [] → PrunesRoot [] t (nodes_in t.children) (nibbles_in t.children) t empty
  all_goes t top = record {
    fragment = sym top;
    below = λ f. tt;
    alters = record {
      start = ap first (sym top);
      some = λ s. absurd (s top);
      placed = (zero_is_mask, tt);
      swaps = λ q. record { before = []; after = []; was = ap (λ p. entries_at p t) (sym (append-nil q)) ∙ sym (append-nil (entries_at (q ++ []) t)); is = refl };
      nodes = omega arith;
      nibbles = let e = ap length top in omega (arith, e);
    };
  }

  -- a change of a root, as that of a child which it leaves full
  pub root_as_child : (gone come : Run P) (n m k l : ℕ) (old new : Tree P) → AltersRoot gone come n m k l old new → (IsTreeFull old → IsTreeFull new) → AltersChild gone come n m k l old new
  root_as_child gone come n m k l old new r full = record { full = full; alters = r.alters }

  -- and then the only child takes its node's place
  -- a change that leaves a child with no pair and one child keeps it full, if the two become one
  pub merged_as_child : (gone come : Run P) (n m k l : ℕ) (old mid : Tree P) → AltersRoot gone come n m k l old mid → mid.pair ≡ None → IsOne mid.children → old.fragment ≢ [] →
      AltersChild gone come n (suc m) k l old (merged mid)
  merged_as_child gone come n m k l old mid r unpaired one top = go mid.children refl one
    where
      kept : mid.fragment ≢ []
      kept e = top (sym r.fragment ∙ e)

      go : (ks : Children P) → mid.children ≡ ks → IsOne ks → AltersChild gone come n (suc m) k l old (merged_into mid.fragment ks)
      go none e o = absurd o
      go (more g p2 m2 ls (more a b c d others)) e o = absurd o
      go (more g o2 m2 ls none) e o =
          let placed = subst (λ ks. IsPlaced 0 ks) e r.alters.placed.1 in
          let entries : (q : List ℕ) → entries_at q mid ≡ entries_at q (merged_into mid.fragment (more g o2 m2 ls none)) = λ q.
          ap (λ o. entry (q ++ mid.fragment) o ++ entries_in (q ++ mid.fragment) mid.children) unpaired
          ∙ ap (λ ks. entries_in (q ++ mid.fragment) ks) e
          ∙ append-nil (entry ((q ++ mid.fragment) ++ g) o2 ++ entries_in ((q ++ mid.fragment) ++ g) ls)
          ∙ ap (λ path. entry path o2 ++ entries_in path ls) (append_assoc q mid.fragment g) in
          record {
            full = λ f. (let b = subst (λ ks. IsFull (plain ks)) e (r.below f.1) in (b.0, b.1));
            alters = record {
              start = first-append mid.fragment g kept ∙ ap first r.fragment;
              some = λ s. append-some mid.fragment g kept;
              placed = (placed.2, placed.3);
              swaps = λ q. subst (λ es. Swaps (gone q) (come q) (entries_at q old) es) (entries q) (r.alters.swaps q);
              nodes = let z = ap nodes_in e in omega (arith, z, r.alters.nodes);
              nibbles = let z = ap nibbles_in e in let a = length-append mid.fragment g in let b = ap length r.fragment in omega (arith, z, a, b, r.alters.nibbles);
            };
          }
