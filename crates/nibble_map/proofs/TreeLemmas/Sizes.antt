-- How many nodes a shaped tree has, and how many nibbles its fragments hold.
use Rattle.std.proofs.Common.{◌≡◌, ℕ, suc, ◌+◌, ◌*◌, ◌≤◌, max, List, [], ◌++◌, length, Option, Some, None, IsSome, option_map, true, false, refl, ap, inl, inr, length-append, arith}
use Rattle.std.specs.List.{cons_option}
use Rattle.nibble_map.specs.Trees.{Forest, bare, grow, FragmentTree, nodes, nodes_below, entries, first, AreMany, IsShaped}
use Rattle.nibble_map.proofs.ListLemmas.Members.{entries-append}

-- the number of a forest's trees
abbrev trees : {P : Type 0} → Forest P → ℕ
trees bare = 0
trees (grow f o children others) = suc (trees others)

-- a forest with many children has at least two trees
many_trees : {P : Type 0} (k : Forest P) → AreMany k → 2 ≤ trees k
many_trees bare m = absurd m
many_trees (grow f o children bare) m = absurd m
many_trees (grow f o children (grow g p ls others)) m = omega arith

-- with a pair, if there is one, put before them there are at least as many entries
put_length : {P : Type 0} (p : List ℕ) (o : Option P) (ms : List (List ℕ × P)) → length ms ≤ length (cons_option (option_map (λ v. (p, v)) o) ms)
put_length p None ms = omega arith
put_length p (Some v) ms = omega arith

-- with a pair put before them there is one entry more
put_some : {P : Type 0} (p : List ℕ) (o : Option P) (ms : List (List ℕ × P)) → IsSome o → length (cons_option (option_map (λ v. (p, v)) o) ms) ≡ suc (length ms)
put_some p None ms h = absurd (let i : false ≡ true = h in cc)
put_some p (Some v) ms h = refl

-- the nodes and the trees of a shaped forest are together at most twice its entries
forest_nodes_few : {P : Type 0} (low : ℕ) (q : List ℕ) (k : Forest P) → IsShaped low k →
    length (nodes_below q k) + trees k ≤ 2 * length (entries (nodes_below q k))
forest_nodes_few low q bare s = omega arith
forest_nodes_few low q (grow f o children others) s =
    let a = forest_nodes_few 0 (q ++ f) children s.3 in
    let b = forest_nodes_few (suc (first f)) q others s.4 in
    let c = length-append (nodes_below (q ++ f) children) (nodes_below q others) in
    let d = ap length (entries-append (nodes_below (q ++ f) children) (nodes_below q others)) in
    let e = length-append (entries (nodes_below (q ++ f) children)) (entries (nodes_below q others)) in
    elim s.2 [
      | inl h ↦ let g = put_some (q ++ f) o (entries (nodes_below (q ++ f) children ++ nodes_below q others)) h in omega arith
      | inr m ↦ let g = put_length (q ++ f) o (entries (nodes_below (q ++ f) children ++ nodes_below q others)) in let h = many_trees children m in omega arith
    ]

-- a shaped tree has at most twice as many nodes as entries, or one
pub nodes_bound : {P : Type 0} (t : FragmentTree P) → IsShaped 0 t.children → length (nodes t) ≤ max 1 (2 * length (entries (nodes t)))
nodes_bound {P} t s = by_children t.top t.children s
  where
    by_children : (o : Option P) (k : Forest P) → IsShaped 0 k →
        length (nodes record { top = o; children = k }) ≤ max 1 (2 * length (entries (nodes record { top = o; children = k })))
    by_children o bare s = omega arith
    by_children o (grow f p children others) s =
        let a = forest_nodes_few 0 [] (grow f p children others) s in
        let b = put_length [] o (entries (nodes_below [] (grow f p children others))) in
        omega arith
