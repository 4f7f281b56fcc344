-- The map of what a trie's map holds behind a path.
use Rattle.std.proofs.Common.{◌≡◌, ℕ, ◌&&◌, T, List, [], ◌∷◌, ◌++◌, map as each, drop, length, Option, Some, None, refl, ap, sym, subst, ◌∙◌, append_assoc, Bor, cond, is_eq, is_lt, nat_cmp}
use Rattle.std.proofs.lemmas.Cmp.{nat_cmp_total}
use Rattle.std.proofs.lemmas.List.{length-map, map-append}
use Rattle.std.proofs.lemmas.Simd.{map-map}
use Rattle.std.specs.Cmp.{tied_itself}
use Rattle.std.specs.Cmp.Lexicographic.{slice_cmp}
use Rattle.std.specs.FinMap as fin
use Rattle.std.specs.FinMap.{find, is_sorted}
use Rattle.std.specs.FinMap.Entries.{below_all}
use Rattle.std.specs.Ordering.{ordering_then}
use Rattle.masked_tree.specs.Tree.{Children, none, more, entries_in}
use Rattle.nibble_map.specs.Maps.{PairMap, below, walk}
use Rattle.nibble_map.specs.Swaps.{entry}
use Rattle.nibble_map.proofs.ListLemmas.Parted.{is_prefix_true}
use Rattle.nibble_map.proofs.MapLemmas.Below.{get-below}
use Rattle.radix_nodes.specs.declared.trie_node.TrieNode.{TrieNode}
use Rattle.radix_nodes.specs.Nodes.{tree_of}
use Rattle.radix_trie.specs.Descents.{map_behind_path, rows_behind}
use Rattle.radix_trie.specs.Loci.{IsLocus}
use Rattle.radix_trie.proofs.PathLemmas.NodesBelow.{walk-no_path, walk-node}
use Rattle.radix_trie.proofs.PathLemmas.Loci.{nearest_found, no_path_found}
use Rattle.radix_trie.proofs.RootLemmas.Shown.{row_of}

-- lists behind the same list compare as they do
cmp_under : (p x y : List ℕ) → slice_cmp nat_cmp (p ++ x) (p ++ y) ≡ slice_cmp nat_cmp x y
cmp_under [] x y = refl
cmp_under (a ∷ p) x y = ap (λ r. ordering_then r (slice_cmp nat_cmp (p ++ x) (p ++ y))) (tied_itself nat_cmp_total a) ∙ cmp_under p x y

module _ {P : Type 0} (p : List ℕ) where
  -- an entry with the path in front of its list
  abbrev under : List ℕ × P → List ℕ × P
  under e = (p ++ e.0, e.1)

  -- entries are sorted with the path in front where they are without
  below_all-under : (x : List ℕ) (es : List (List ℕ × P)) → below_all (slice_cmp nat_cmp) (p ++ x) (each under es) ≡ below_all (slice_cmp nat_cmp) x es
  below_all-under x [] = refl
  below_all-under x (e ∷ es) = λ i. is_lt (cmp_under p x e.0 i) && below_all-under x es i

  sorted-under : (es : List (List ℕ × P)) → is_sorted (slice_cmp nat_cmp) (each under es) ≡ is_sorted (slice_cmp nat_cmp) es
  sorted-under [] = refl
  sorted-under (e ∷ es) = λ i. below_all-under e.0 es i && sorted-under es i

  -- and are found so
  find-under : (q : List ℕ) (es : List (List ℕ × P)) → find (slice_cmp nat_cmp) (p ++ q) (each under es) ≡ find (slice_cmp nat_cmp) q es
  find-under q [] = refl
  find-under q (e ∷ es) = λ i. cond (is_eq (cmp_under p q e.0 i)) (Some e.1) (find-under q es i)

  -- the entries of nodes below a path go on from it
  entry-under : (q : List ℕ) (o : Option P) → entry (p ++ q) o ≡ each under (entry q o)
  entry-under q None = refl
  entry-under q (Some x) = refl

  entries_in-under : (q : List ℕ) (k : Children P) → entries_in (p ++ q) k ≡ each under (entries_in q k)
  entries_in-under q none = refl
  entries_in-under q (more f o m children others) =
      ap (λ y. (entry y o ++ entries_in y children) ++ entries_in (p ++ q) others) (append_assoc p q f)
      ∙ (λ i. (entry-under (q ++ f) o i ++ entries_in-under (q ++ f) children i) ++ entries_in-under q others i)
      ∙ ap (λ es. es ++ each under (entries_in q others)) (sym (map-append under (entry (q ++ f) o) (entries_in (q ++ f) children)))
      ∙ sym (map-append under (entry (q ++ f) o ++ entries_in (q ++ f) children) (entries_in q others))

module _ {K V : Type 0} (enc : K → List ℕ) (m : PairMap K V) (p : List ℕ) where
  -- the rows behind the path, with it in front, are the walk below it
  walk-rows_behind : (found : Option (Bor (TrieNode K V) × ℕ)) → IsLocus enc m p found → walk m p ≡ each (under p) (rows_behind found)
  walk-rows_behind None locus = walk-no_path enc m locus.0 locus.1 p (no_path_found enc m p None locus refl)
  walk-rows_behind (Some r) locus =
      let near = nearest_found enc m p (Some r) locus r.0 r.1 refl in
      let u = tree_of r.0.now in
      let rest = drop r.1 u.fragment in
      walk-node enc m locus.0 locus.1 p (p ++ rest) u near.node near.shortest
      ∙ ap (each row_of) ((λ i. entry-under p rest u.pair i ++ entries_in-under p rest u.children i) ∙ sym (map-append (under p) (entry rest u.pair) (entries_in rest u.children)))
      ∙ map-map row_of (under p) (entry rest u.pair ++ entries_in rest u.children)
      ∙ sym (map-map (under p) row_of (entry rest u.pair ++ entries_in rest u.children))

  module _ (found : Option (Bor (TrieNode K V) × ℕ)) (locus : IsLocus enc m p found) where
    -- they are sorted
    rows_sorted : T (is_sorted (slice_cmp nat_cmp) (rows_behind found))
    rows_sorted =
        subst T (ap (is_sorted (slice_cmp nat_cmp)) (walk-rows_behind found locus) ∙ sorted-under p (rows_behind found)) (fin.entries_sorted (below m p))

    -- the map behind the path answers at each list what the map does behind the path
    pub get-map_behind_path : (q : List ℕ) → fin.get (map_behind_path found) q ≡ fin.get m (p ++ q)
    get-map_behind_path q =
        fin.get-from_sorted (slice_cmp nat_cmp) (rows_behind found) q rows_sorted
        ∙ sym (find-under p q (rows_behind found))
        ∙ ap (find (slice_cmp nat_cmp) (p ++ q)) (sym (walk-rows_behind found locus))
        ∙ sym (fin.get-entries (below m p) (p ++ q))
        ∙ get-below m p (p ++ q) (subst T (sym (is_prefix_true p (p ++ q) (q, refl))) tt)

    -- and has as many pairs as the map at and below it
    pub len-map_behind_path : fin.len (map_behind_path found) ≡ fin.len (below m p)
    len-map_behind_path =
        fin.len-entries (map_behind_path found)
        ∙ ap length (fin.entries-from_sorted (slice_cmp nat_cmp) (rows_behind found) rows_sorted)
        ∙ sym (length-map (rows_behind found) (under p)) ∙ ap length (sym (walk-rows_behind found locus)) ∙ sym (fin.len-entries (below m p))
