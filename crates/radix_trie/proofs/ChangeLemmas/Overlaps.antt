-- Where a trie doesn't go into another: the longest list with which all of its lists begin is the path of a node.
use Rattle.std.proofs.Common.{◌≡◌, ◌≢◌, ℕ, ◌<◌, ◌^◌, ◌⊎◌, inl, inr, T, false, true, Option, Some, None, IsSome, is_some, option_map, map, List, [], ◌∷◌, ◌++◌, length, vec_len, refl, ap, sym, subst, ◌∙◌, append_assoc, arith}
use Rattle.std.specs.FinMap as fin
use Rattle.masked_tree.specs.Edits.{IsOne, merged}
use Rattle.masked_tree.specs.Paths.{IsChildAt, IsNodeAt, IsOccupied, IsPath}
use Rattle.masked_tree.specs.Tree.{Tree, Children, none, more, IsPlaced, entries_in, firsts}
use Rattle.nibble_map.specs.Lists.{IsPrefix}
use Rattle.nibble_map.specs.Maps.{PairMap, IsBranchPoint, IsPoint, IsReached, IsStored, below, without_below}
use Rattle.nibble_map.specs.Swaps.{entry}
use Rattle.nibble_map.specs.Trees.{first}
use Rattle.nibble_map.proofs.ListLemmas.Parted.{prefix_of_both, prefix_through, reached_past}
use Rattle.nibble_map.proofs.MapLemmas.Without.{len-without_below, stored_without}
use Rattle.radix_nodes.specs.declared.trie_node.KeyValue.{KeyValue}
use Rattle.radix_nodes.specs.declared.trie_node.TrieNode.{TrieNode, out-TrieNode}
use Rattle.radix_nodes.specs.Nodes.{tree_of}
use Rattle.radix_nodes.specs.Pairs.{pair_of}
use Rattle.radix_nodes.proofs.EditLemmas.Insertion.{length-firsts_of_boxes}
use Rattle.radix_nodes.proofs.NodeLemmas.Nodes.{children-tree_of}
use Rattle.radix_trie.specs.Refusals.{AllBegin, RefusesGraft}
use Rattle.radix_trie.specs.Roots.{IsKept, IsRoot, entries_of, map_of}
use Rattle.radix_trie.specs.declared.error.GraftWhy.{GraftWhy}
use Rattle.radix_trie.specs.declared.error.GraftWhy.TheVariants as grafting
use Rattle.radix_trie.proofs.ChangeLemmas.Joined.{over}
use Rattle.radix_trie.proofs.LawLemmas.Parts.{stored-part}
use Rattle.radix_trie.proofs.PathLemmas.Loci.{below-nil}
use Rattle.radix_trie.proofs.RootLemmas.Held.{pair_of-node}
use Rattle.radix_trie.proofs.RootLemmas.Paths.{node_point}
use Rattle.radix_trie.proofs.RootLemmas.Shown.{entries_of-root, kept_root, row_of}

module _ {K V : Type 0} (m : PairMap K V) (l : List ℕ) (all : AllBegin m l) where
  -- a list with which all stored ones begin is a prefix of where they part
  begins_reached : (q : List ℕ) (a : ℕ) → IsReached m (q ++ a ∷ []) → (rest : List ℕ) × IsPrefix l (q ++ a ∷ rest)
  begins_reached q a r = (r.2.0, subst (IsPrefix l) (r.2.1 ∙ append_assoc q (a ∷ []) r.2.0) (all r.0 r.1))

  -- and of each stored one
  begins_point : (q : List ℕ) → IsStored m q ⊎ IsBranchPoint m q → IsPrefix l q
  begins_point q (inl stored) = all q stored
  begins_point q (inr r) =
      let u = begins_reached q r.0 r.3 in
      let v = begins_reached q r.1 r.4 in
      prefix_of_both l q r.0 r.1 u.0 v.0 r.2 u.1 v.1

module _ {P : Type 0} where
  -- the only child's path leads to a node, and isn't empty
  only_path : (t : Tree P) → IsOne t.children → IsPath t (merged t).fragment
  only_path t one = by t.children one
    where
      by : (k : Children P) → IsOne k → IsPath (over t k) (merged (over t k)).fragment
      by none one = absurd one
      by (more f o m ks (more g p n ls others)) one = absurd one
      by (more f o m ks none) one = (record { fragment = f; pair = o; mask = m; children = ks }, inr (f, refl, inl (refl, refl)))

  only_path_some : (t : Tree P) → t.fragment ≡ [] → IsPlaced 0 t.children → IsOne t.children → (merged t).fragment ≢ []
  only_path_some t top placed one = by t.children placed one
    where
      by : (k : Children P) → IsPlaced 0 k → IsOne k → (merged (over t k)).fragment ≢ []
      by none placed one = absurd one
      by (more f o m ks (more g p n ls others)) placed one = absurd one
      by (more f o m ks none) placed one = λ e. placed.0 (ap (λ q. q ++ f) (sym top) ∙ e)

  -- that root has a pair, or it hasn't one child
  abbrev pub IsNoBranch : Tree P → Type 0
  IsNoBranch t = IsSome t.pair ⊎ (IsOne t.children → ⊥)

-- one child stands in one box
pub one_box : {K V : Type 0} (n : TrieNode K V) → IsOne (tree_of n).children → vec_len (out-TrieNode K V n).children ≡ 1
one_box {K = K} {V = V} n one =
    let boxes = length-firsts_of_boxes (out-TrieNode K V n).children.items in
    let firsts = ap (λ k. length (firsts k)) (sym (children-tree_of n)) ∙ one_first (tree_of n).children one in
    omega (arith, boxes, firsts, (out-TrieNode K V n).children.ok.0)
  where
    one_first : {P : Type 0} (k : Children P) → IsOne k → length (firsts k) ≡ 1
    one_first none one = absurd one
    one_first (more f o m ks none) one = refl
    one_first (more f o m ks (more g p n ls others)) one = absurd one

module _ {K V : Type 0} (enc : K → List ℕ) (part : Tree (KeyValue K V)) (pairs held nibbled : ℕ) (owned : IsKept enc part pairs held nibbled) where
  -- the root of its map
  own_root : IsRoot enc (map_of part) part
  own_root = kept_root enc part pairs held nibbled owned

  -- a child's path is reached by its first nibble
  child_reached : (f : List ℕ) (u : Tree (KeyValue K V)) → f ≢ [] → IsNodeAt part f u → IsReached (map_of part) ([] ++ first f ∷ [])
  child_reached [] u some at = absurd (some refl)
  child_reached (a ∷ f) u some at =
      let r = reached_past (IsStored (map_of part)) (a ∷ f) [] a f refl (node_point enc (map_of part) part own_root (a ∷ f) u at) in
      (r.0, r.1, prefix_through (a ∷ []) (a ∷ f) r.0 (f, refl) r.2)

  -- a root that is more than one branch is stored, or its children part at it
  root_is_point : IsNoBranch part → 0 < pairs → IsStored (map_of part) [] ⊎ IsBranchPoint (map_of part) []
  root_is_point shape some = by part.pair refl shape
    where
      parts : (k : Children (KeyValue K V)) → part.children ≡ k → part.pair ≡ None → (IsOne k → ⊥) → IsBranchPoint (map_of part) []
      parts none e bare many =
          let empty : entries_of part ≡ [] = entries_of-root part owned.top ∙ (λ i. map row_of (entry part.fragment (bare i) ++ entries_in part.fragment (e i))) in
          absurd (let l = ap length empty in omega (arith, l, owned.counted, some))
      parts (more f o m ks none) e bare many = absurd (many tt)
      parts (more f o m ks (more g p n ls others)) e bare many =
          let placed = subst (IsPlaced 0) e owned.masked.1 in
          let at : (x : List ℕ) → x ≡ part.fragment ++ x = λ x. ap (λ q. q ++ x) (sym owned.top) in
          let low : first f < first g = placed.4.1 in
          let u : Tree (KeyValue K V) = record { fragment = f; pair = o; mask = m; children = ks } in
          let w : Tree (KeyValue K V) = record { fragment = g; pair = p; mask = n; children = ls } in (
            first f,
            first g,
            λ same. absurd (omega (arith, low, same)),
            child_reached f u placed.0 (inr (f, at f, subst (λ k. IsChildAt k f u) (sym e) (inl (refl, refl)))),
            child_reached g w placed.4.0 (inr (g, at g, subst (λ k. IsChildAt k g w) (sym e) (inr (inr (inl (refl, refl)))))),
          )

      by : (o : Option (KeyValue K V)) → part.pair ≡ o → IsNoBranch part → IsStored (map_of part) [] ⊎ IsBranchPoint (map_of part) []
      by (Some x) e shape = inl (subst (λ o. T (is_some o)) (ap (option_map pair_of) (sym e) ∙ pair_of-node enc (map_of part) part own_root [] part (inl (sym owned.top, refl))) tt)
      by None e (inl is) = absurd (let i : false ≡ true = subst IsSome e is in cc i)
      by None e (inr many) = inr (parts part.children refl e many)

  -- a root that is more than one branch overlaps with each map: its longest common list is empty
  pub root_overlaps : IsNoBranch part → 0 < pairs → (m : PairMap K V) (l : List ℕ) → AllBegin (map_of part) l → (q : List ℕ) × IsPoint m q × IsPrefix l q
  root_overlaps shape some m l all = ([], inl refl, begins_point (map_of part) l all [] (root_is_point shape some))

  -- so does a branch with a map at whose root a node stands at or below its path
  pub occupied_overlaps : IsOne part.children → (old : Tree (KeyValue K V)) (count nodes nibbles : ℕ) → IsKept enc old count nodes nibbles → IsOccupied old (merged part).fragment
      → (l : List ℕ) → AllBegin (map_of part) l → (q : List ℕ) × IsPoint (map_of old) q × IsPrefix l q
  occupied_overlaps one old count nodes nibbles kept held l all =
      let path = only_path part one in
      let point : IsStored (map_of part) (merged part).fragment ⊎ IsBranchPoint (map_of part) (merged part).fragment =
      elim (node_point enc (map_of part) part own_root (merged part).fragment path.0 path.1) [ inl e ↦ absurd (only_path_some part owned.top owned.masked.1 one e) | inr h ↦ h ] in
      let begin = begins_point (map_of part) l all (merged part).fragment point in
      (held.0, node_point enc (map_of old) old (kept_root enc old count nodes nibbles kept) held.0 held.1.0 held.1.1, prefix_through l (merged part).fragment held.0 begin held.2)

-- the part below a path, and the rest
module _ {K V : Type 0} (m : PairMap K V) (p : List ℕ) where
  -- below the path the rest has no point but the empty list
  rest_point : (q : List ℕ) → IsPoint (without_below m p) q → IsPrefix p q → q ≡ []
  rest_point q (inl top) under = top
  rest_point q (inr (inl stored)) under = absurd ((stored_without p m q stored).1 under)
  rest_point q (inr (inr parts)) under =
      let r = parts.3 in
      let begins : IsPrefix q r.0 = (parts.0 ∷ r.2.0, r.2.1 ∙ append_assoc q (parts.0 ∷ []) r.2.0) in
      absurd ((stored_without p m r.0 r.1).1 (prefix_through p q r.0 under begins))

  -- only the empty list is a prefix of the empty list
  prefix_of_nil : (l : List ℕ) → IsPrefix l [] → l ≡ []
  prefix_of_nil [] h = refl
  prefix_of_nil (a ∷ l) h = absurd (no_cons h.1)
    where
      no_cons : [] ≡ a ∷ (l ++ h.0) → ⊥
      no_cons clash = cc

  -- the rest takes the part back, but for memory
  pub part_goes_back : (why : GraftWhy) → fin.len m < 2 ^ 64 → RefusesGraft (without_below m p) (below m p) why → (fin.len (without_below m p) ≡ 0) ⊎ (why ≡ grafting.Memory)
  part_goes_back grafting.Full few refused = absurd (let n = len-without_below p m in omega (arith, refused, n, few))
  part_goes_back grafting.Overlapping few refused =
      let at = refused p (λ e stored. ((stored-part m p e).0 stored).0) in
      let whole : p ≡ [] = prefix_of_nil p (subst (IsPrefix p) (rest_point at.0 at.1 at.2) at.2) in
      let n = len-without_below p m in
      let b = ap fin.len (ap (below m) whole ∙ below-nil m) in
      inl (omega (arith, n, b))
  part_goes_back grafting.Memory few refused = inr refl
