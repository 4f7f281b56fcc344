-- What a map from byte strings ends as, once a value that was borrowed of it has ended.
use Rattle.std.specs.Prelude.{ℕ, List, Option}
use Rattle.std.specs.Borrow.{Fml, RattleType, MutBor, LendsIf}
use Rattle.nibble_map.specs.Maps.{PairMap, with_value}
use Rattle.frozen_trie.specs.contracts.texts.FrozenTexts.{the_row}

module _ (V : RattleType) (t : MutBor (PairMap (List ℕ) V.Denot)) (e : List ℕ) where
  -- the map ends with the last value written through r at e, and at `None` it stays as it is
  abbrev pub lends_text : Option (MutBor V.Denot) → Fml
  lends_text r = LendsIf (the_row V) V t r (with_value t.now e) t.now
