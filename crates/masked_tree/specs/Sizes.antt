-- How much a kept tree holds.
use Rattle.std.specs.Prelude.{ℕ, suc, ◌+◌, max, Option, Some, None}
use Rattle.masked_tree.specs.Tree.{Children, none, more}

module _ {P : Type 0} where
  abbrev pub own_count : Option P → ℕ
  own_count None = 0
  own_count (Some x) = 1

  -- the pairs at and below some children
  abbrev pub pair_count : Children P → ℕ
  pair_count none = 0
  pair_count (more f o m children others) = own_count o + pair_count children + pair_count others

  -- the nodes on the longest way down
  abbrev pub levels : Children P → ℕ
  levels none = 0
  levels (more f o m children others) = max (suc (levels children)) (levels others)
