-- What clauses see of a view for writing.
use Rattle.std.specs.Prelude.{◌≡◌, ℕ, List}
use Rattle.std.specs.Borrow.{GName}
use Rattle.nibble_map.specs.Maps.{PairMap, with_value}
use Rattle.radix_keys.specs.declared.nibbles.NibbleVec.{NibbleVec}
use Rattle.radix_trie.specs.declared.view.subtrie_mut.SubTrieMut.{SubTrieMut}

module _ {K V P : Type 0} where
  -- the map of the trie that the view writes
  abbrev pub map_behind : SubTrieMut K V P → PairMap K V
  map_behind v = v.trie.now

  -- the name of the view's reference to the trie
  abbrev pub lender_of : SubTrieMut K V P → GName
  lender_of v = v.trie.ghost_name

  -- the path, and its fragment when the view was made, as they are kept
  abbrev pub kept_path : SubTrieMut K V P → P
  kept_path v = v.path

  abbrev pub kept_prefix : SubTrieMut K V P → P
  kept_prefix v = v.prefix

module _ {K V : Type 0} where
  abbrev pub path_of : SubTrieMut K V NibbleVec → List ℕ
  path_of v = v.path

  -- the fragment of the view's path when the view was made
  abbrev pub prefix_of : SubTrieMut K V NibbleVec → List ℕ
  prefix_of v = v.prefix

  -- v, with the value w at its path
  abbrev pub with_own_value : SubTrieMut K V NibbleVec → V → SubTrieMut K V NibbleVec
  with_own_value v w =
      record v { trie = record v.trie { now = with_value (map_behind v) (path_of v) w } }

  -- w is v, but for the trie's map
  pub record SameView (v w : SubTrieMut K V NibbleVec) : Type 0 where
    pub lender : lender_of w ≡ lender_of v
    pub path : path_of w ≡ path_of v
    pub prefix : prefix_of w ≡ prefix_of v
