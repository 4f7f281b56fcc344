-- What calls of a closure do to pairs' values.
use Rattle.std.specs.Prelude.{◌≡◌, ◌⊎◌, ℕ, List, All}
use Rattle.std.specs.Fn.{Shared}
use denote.Ref.{Bor, MutBor}
use Rattle.masked_tree.specs.Alters.{AltersNode, all_of}
use Rattle.masked_tree.specs.Paths.{IsPath}
use Rattle.masked_tree.specs.Same.{IsCopy}
use Rattle.masked_tree.specs.Tree.{Tree}
use Rattle.nibble_map.specs.Lists.{IsPrefix}
use Rattle.radix_nodes.specs.Pairs.{pair_of, pairs_in}
use Rattle.radix_nodes.specs.Prunes.{IsBranch}
use Rattle.radix_nodes.specs.declared.trie_node.KeyValue.{KeyValue}

module _ {F K V : Type 0}
    (g : Shared F (Bor K × (MutBor V × Unit {0})) (Unit {0} × (MutBor V × Unit {0}))) (f : F) where
  -- f may be called at the pair: at a `&` to its key and a `&mut` to its value
  abbrev pub TakesPair : K × V → Type 0
  TakesPair p = (k : Bor K) (v : MutBor V) → k.now ≡ p.0 → v.now ≡ p.1 → g.pre f (k, (v, tt))

  -- such a call may leave w as the value
  pub record LeavesAtPair (p : K × V) (w : V) : Type 0 where
    pub key : Bor K
    pub value : MutBor V
    pub shows : (key.now ≡ p.0) × (value.now ≡ p.1)
    pub left : MutBor V
    pub met : g.post f (key, (value, tt)) (tt, (left, tt))
    pub leaves : left.now ≡ w

  -- y has x's key, and the value that such a call at x may leave
  abbrev pub IsChangedBy : KeyValue K V → KeyValue K V → Type 0
  IsChangedBy x y = (y.key ≡ x.key) × LeavesAtPair (pair_of x) y.value

  module _ (p : List ℕ) where
    -- f may be called at each value at and below p
    abbrev pub TakesBranch : Tree (KeyValue K V) → Type 0
    TakesBranch t =
        (u : Tree (KeyValue K V)) (s : List ℕ) → IsBranch t u p s → All TakesPair (pairs_in u)

    -- the branch at and below p has a copy in its place, with values that calls of f may leave
    pub record IsBranchChanged (old new : Tree (KeyValue K V)) : Type 0 where
      pub path : List ℕ
      pub was : Tree (KeyValue K V)
      pub now : Tree (KeyValue K V)
      pub branch : IsBranch old was p path
      pub copy : IsCopy IsChangedBy was now
      pub alters : AltersNode (all_of path was) (all_of path now) 0 0 0 0 old new

    -- so it is; or nothing stands at and below p, and nothing changes
    abbrev pub ChangesBranch : Tree (KeyValue K V) → Tree (KeyValue K V) → Type 0
    ChangesBranch old new =
        IsBranchChanged old new ⊎ ((new ≡ old) × ((q : List ℕ) → IsPath old q → IsPrefix p q → ⊥))
