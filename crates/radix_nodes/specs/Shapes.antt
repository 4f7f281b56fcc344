-- When two trees differ in what their nodes hold alone.
use Rattle.std.specs.Prelude.{⊤}
use Rattle.masked_tree.specs.Tree.{Children, none, more}

module _ {P : Type 0} where
  -- as many children, and in turn of the same shape: fragments, pairs and masks aren't compared
  abbrev pub HaveSameShape : Children P → Children P → Type 0
  HaveSameShape none none = ⊤
  HaveSameShape none (more g p n ls rest) = ⊥
  HaveSameShape (more f o m children others) none = ⊥
  HaveSameShape (more f o m children others) (more g p n ls rest) = HaveSameShape children ls
      × HaveSameShape others rest
