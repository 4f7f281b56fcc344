-- A node has at most sixteen children.
use Rattle.std.proofs.Common.{◌≡◌, ℕ, suc, ◌+◌, ◌<◌, ◌≤◌, cond, List, [], ◌∷◌, length, refl, ap, sym, ◌∙◌, arith, inl, inr, Box, Global}
use Rattle.std.proofs.lemmas.Bool.Decides.{eqb_tells, leb_tells}
use Rattle.std.proofs.lemmas.Nat.Bits.{bit_at_above}
use Rattle.masked_tree.specs.Tree.{Tree, firsts, IsTreePlaced}
use Rattle.masked_tree.specs.Mask.{IsRisingFrom, bit_of}
use Rattle.masked_tree.proofs.TreeLemmas.Children.{placed_rises}
use Rattle.radix_nodes.specs.declared.trie_node.TrieNode.{TrieNode}
use Rattle.radix_nodes.specs.Nodes.{children_of, tree_of}
use Rattle.radix_nodes.proofs.EditLemmas.Insertion.{length-firsts_of_boxes}

-- the first number of a list that has none from 16 on is below 16
first_low : (x : ℕ) (xs : List ℕ) → ((n : ℕ) → 16 ≤ n → bit_of n (x ∷ xs) ≡ 0) → x < 16
first_low x xs none = elim (leb_tells 16 x) [
  | inl t ↦ elim (eqb_tells x x) [ inl u ↦ (let h = none x t.1 in absurd (omega (arith, sym (ap (λ b. cond b 1 (bit_of x xs)) u.0) ∙ h))) | inr u ↦ absurd (u.1 refl) ]
  | inr t ↦ omega (arith, t.1)
]

-- a number from 16 on that a list lacks is lacking behind its first number too
rest_low : (x n : ℕ) (xs : List ℕ) → x < 16 → 16 ≤ n → bit_of n (x ∷ xs) ≡ 0 → bit_of n xs ≡ 0
rest_low x n xs low high h = elim (eqb_tells x n) [ inl t ↦ absurd (omega (arith, t.1)) | inr t ↦ sym (ap (λ b. cond b 1 (bit_of n xs)) t.0) ∙ h ]

-- a list that rises from `low` on and has no number from 16 on has at most 16 - low of them
few_rising : (low : ℕ) (xs : List ℕ) → IsRisingFrom low xs → low ≤ 16 → ((n : ℕ) → 16 ≤ n → bit_of n xs ≡ 0) → low + length xs ≤ 16
few_rising low [] rises within none = omega arith
few_rising low (x ∷ xs) rises within none =
    let high : x < 16 = first_low x xs none in
    omega (arith, few_rising (suc x) xs rises.1 (omega arith) (λ n big. rest_low x n xs high big (none n big)), rises.0)

module _ {P : Type 0} where
  -- a tree whose children stand at their places has at most sixteen of them
  few_firsts : (t : Tree P) → IsTreePlaced t → length (firsts t.children) ≤ 16
  few_firsts t placed =
      let few = few_rising 0 (firsts t.children) (placed_rises 0 t.children placed.1) (omega arith) (λ n big. sym (placed.0.1 n) ∙ bit_at_above t.mask 16 n placed.0.0 big) in
      omega (arith, few)

module _ {K V : Type 0} where
  -- a node whose children stand at their places has at most sixteen boxes
  pub few_children : (n : TrieNode K V) (bs : List (Box (TrieNode K V) Global)) → children_of bs ≡ (tree_of n).children → IsTreePlaced (tree_of n) → length bs ≤ 16
  few_children n bs is placed = omega (arith, few_firsts (tree_of n) placed, length-firsts_of_boxes bs, ap (λ k. length (firsts k)) is)
