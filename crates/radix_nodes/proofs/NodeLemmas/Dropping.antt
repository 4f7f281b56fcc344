-- How much work the drop of a node has left, and what each of its turns does to that.
use Rattle.std.proofs.Common.{◌≡◌, ℕ, ◌+◌, ◌*◌, ◌<◌, List, [], ◌∷◌, ◌++◌, length, map, ap, ◌∙◌, arith}
use Rattle.std.proofs.lemmas.Simd.{map-map}
use Rattle.std.specs.declared.boxed.Box.{Box}
use Rattle.std.specs.declared.alloc.Global.{Global}
use Rattle.radix_nodes.specs.declared.trie_node.TrieNode.{TrieNode, out-TrieNode}
use Rattle.radix_nodes.specs.declared.trie_node.TrieNode.TheOpen.{TrieNode-F}
use Rattle.radix_nodes.specs.declared.trie_node.TrieNode.TheFolds.{fold-TrieNode, fold_out-TrieNode}

-- how many nodes several branches have, of pairs of a branch's nodes and its work
abbrev pub total : List (ℕ × ℕ) → ℕ
total [] = 0
total (p ∷ ps) = p.0 + total ps

-- the work of the first branch, and twice the nodes of the others
abbrev pub load : List (ℕ × ℕ) → ℕ
load [] = 0
load (p ∷ ps) = p.1 + 2 * total ps

module _ {K V : Type 0} where
  -- a node's nodes and work by its children's
  abbrev pub work_step : TrieNode-F K V (ℕ × ℕ) → ℕ × ℕ
  work_step x = let ps = map (λ b. b.value) x.children.items in (1 + total ps, 1 + load ps)

  -- the nodes, and the work: one for each node, and one more where it isn't first at every level
  unfoldable pub work_of : TrieNode K V → ℕ × ℕ
  work_of = fold-TrieNode K V (ℕ × ℕ) work_step

  -- the same of children
  abbrev pub works : List (Box (TrieNode K V) Global) → List (ℕ × ℕ)
  works bs = map (λ b. work_of b.value) bs

  -- how much work the drop of a node has left
  abbrev pub work : TrieNode K V → ℕ
  work n = (work_of n).1

  -- a node's nodes and work are those of its children, and itself
  pub work_of-out : (n : TrieNode K V) → work_of n ≡ (1 + total (works (out-TrieNode K V n).children.items), 1 + load (works (out-TrieNode K V n).children.items))
  unfolding work_of
  work_of-out n = fold_out-TrieNode K V (ℕ × ℕ) work_step n ∙ (let x = out-TrieNode K V n in ap (λ ps. (1 + total ps, 1 + load ps)) (map-map _ _ x.children.items))

  -- the nodes of branches and one more
  total-append_one : (bs : List (Box (TrieNode K V) Global)) (b : Box (TrieNode K V) Global) → total (works (bs ++ b ∷ [])) ≡ total (works bs) + (work_of b.value).0
  total-append_one [] b = omega arith
  total-append_one (c ∷ cs) b = let e = total-append_one cs b in omega (arith, e)

  -- the work of one branch or more, and one behind them
  load-append_one : (bs : List (Box (TrieNode K V) Global)) (b : Box (TrieNode K V) Global) → 0 < length bs → load (works (bs ++ b ∷ [])) ≡ load (works bs) + 2 * (work_of b.value).0
  load-append_one [] b h = absurd (omega arith)
  load-append_one (c ∷ cs) b h = let e = total-append_one cs b in omega (arith, e)

  -- where the last child and the top change places, work goes down
  pub work_of_turn : (n o : TrieNode K V) (xs ys zs : List (Box (TrieNode K V) Global)) (b h d : Box (TrieNode K V) Global) →
      (out-TrieNode K V n).children.items ≡ xs ++ b ∷ [] → 0 < length xs → (out-TrieNode K V b.value).children.items ≡ ys ++ h ∷ [] →
      zs ≡ ys → (out-TrieNode K V o).children.items ≡ d ∷ zs → (m : TrieNode K V) → d.value ≡ m → (out-TrieNode K V m).children.items ≡ xs ++ h ∷ [] → work o < work n
  work_of_turn n o xs ys zs b h d en some eb ez eo m em ed =
      let wn = ap (λ p. p.1) (work_of-out n) ∙ ap (λ bs. 1 + load (works bs)) en in
      let wb = ap (λ p. p.0) (work_of-out b.value) ∙ ap (λ bs. 1 + total (works bs)) eb in
      let wd = ap work em ∙ ap (λ p. p.1) (work_of-out m) ∙ ap (λ bs. 1 + load (works bs)) ed in
      let wo = ap (λ p. p.1) (work_of-out o) ∙ ap (λ bs. 1 + load (works bs)) (eo ∙ ap (λ bs. d ∷ bs) ez) in
      let l1 = load-append_one xs b some in
      let l2 = load-append_one xs h some in
      let l3 = total-append_one ys h in
      omega (arith, wn, wb, wd, wo, l1, l2, l3)

  -- where an only child takes the top's place, work goes down
  pub work_of_only_child : (n : TrieNode K V) (xs : List (Box (TrieNode K V) Global)) (b : Box (TrieNode K V) Global) → (out-TrieNode K V n).children.items ≡ xs ++ b ∷ [] → xs ≡ [] → work b.value < work n
  work_of_only_child n xs b en e =
      let wn = ap (λ p. p.1) (work_of-out n) ∙ ap (λ bs. 1 + load (works bs)) (en ∙ ap (λ bs. bs ++ b ∷ []) e) in omega (arith, wn)

  -- where the last child is a leaf that goes, work goes down
  pub work_without_leaf : (n o : TrieNode K V) (xs : List (Box (TrieNode K V) Global)) (b : Box (TrieNode K V) Global) → (out-TrieNode K V n).children.items ≡ xs ++ b ∷ [] → 0 < length xs →
      (out-TrieNode K V o).children.items ≡ xs → work o < work n
  work_without_leaf n o xs b en some eo =
      let wn = ap (λ p. p.1) (work_of-out n) ∙ ap (λ bs. 1 + load (works bs)) en in
      let wb = ap (λ p. p.0) (work_of-out b.value) in
      let wo = ap (λ p. p.1) (work_of-out o) ∙ ap (λ bs. 1 + load (works bs)) eo in
      let l1 = load-append_one xs b some in
      omega (arith, wn, wb, wo, l1)
