-- What a frozen trie ends as, once what was borrowed of it has ended.
use denote.Struct.Tuple.{Tuple}
use mathlib.Core.List.{[], ◌∷◌}
use Rattle.std.specs.Prelude.{ℕ, List, Option, Result}
use Rattle.std.specs.Borrow.{Fml, RattleType, MutBor, Lends, LendsIf, LendsIfOk, follows_if}
use Rattle.std.specs.declared.cmp.PartialEq as eqs
use Rattle.nibble_map.specs.Maps.{PairMap, with_value}
use Rattle.radix_keys.specs.declared.keys.TrieKey as keys
use Rattle.radix_trie.specs.Lends.{name_if_found}
use Rattle.frozen_trie.specs.contracts.frozen.FrozenTrie.{the_row}

module _ (K V : RattleType) where
  -- the pair ends with the last value written through r in the place of its value
  abbrev pub lends_second : MutBor (K.Denot × V.Denot) → MutBor V.Denot → Fml
  lends_second p r = Lends (Tuple (K ∷ V ∷ [])) V p r (λ w. (p.now.0, w))

  module _ (key : keys.Ghosts K.Denot) (eq : eqs.Ghosts K.Denot)
      (t : MutBor (PairMap K.Denot V.Denot)) (e : List ℕ) where
    -- the frozen trie ends with the last value written through r at e, and at `None` it stays as it
    -- is
    abbrev pub lends_stored : Option (MutBor V.Denot) → Fml
    lends_stored r = LendsIf (the_row K V key eq) V t r (with_value t.now e) t.now

    -- the same, at `Ok` and at `Err`
    abbrev pub lends_stored_if_ok : {E : Type 0} → Result (MutBor V.Denot) E → Fml
    lends_stored_if_ok r = LendsIfOk (the_row K V key eq) V t r (with_value t.now e) t.now

    -- the same, at `Some` in `Ok`, and at `None` and at `Err`
    abbrev pub lends_stored_found : {E : Type 0} → Result (Option (MutBor V.Denot)) E → Fml
    lends_stored_found r =
        follows_if (the_row K V key eq) V t.ghost_name (name_if_found (λ x. x.ghost_name) r)
        (with_value t.now e) t.now
