-- What each command returns, and the map that it leaves.
use Rattle.std.specs.FinMap as map
use Rattle.std.specs.Prelude.{◌≡◌, ◌⊎◌, ℕ, List, [], ◌∷◌, ◌++◌, Option, map as each}
use Rattle.nibble_map.specs.Lists.{IsPrefix}
use Rattle.nibble_map.specs.Maps.{PairMap, IsPoint, IsStored, below, without_below, value_at}
use Rattle.radix_trie.specs.declared.commands.Command.{Command}
use Rattle.radix_trie.specs.declared.commands.Command.TheVariants as outer
use Rattle.radix_trie.specs.declared.commands.Reply.{Reply}
use Rattle.radix_trie.specs.declared.commands.Reply.TheVariants.{Old, Gone, Found, Number, Closed, Replies, Outside, Refused}
use Rattle.radix_trie.specs.declared.commands.ViewCommand.{ViewCommand}
use Rattle.radix_trie.specs.declared.commands.ViewCommand.TheVariants as inner
use Rattle.radix_trie.specs.Refusals.{IsFullAt, JoinsAreShort}
use Rattle.radix_trie.specs.Views.{IsValueAbove, pairs_below}

module _ {K V : Type 0} where
  -- the reply is r, and the map stays
  abbrev pub Stays : PairMap K V → Reply V → PairMap K V → Reply V → Type 0
  Stays m r n is = (r ≡ is) × (n ≡ m)

  -- the values at and below a path, in the order of their lists
  abbrev pub values_below : PairMap K V → List ℕ → List V
  values_below m p = each (λ x. x.1) (pairs_below m p)

-- enc is the keys' encoding, and inline says which of them are inline
module _ {K V : Type 0} (enc : K → List ℕ) (inline : K → Type 0) where
  -- the calls of a map

  -- The pair is stored. At 2 ^ 64 - 1 pairs it takes an old one's place.
  abbrev pub Inserts : PairMap K V → K → V → Reply V → PairMap K V → Type 0
  Inserts m k v r n = (r ≡ Old (value_at m (enc k))) × (n ≡ map.insert m (enc k) (k, v))
      × (IsFullAt m (enc k) → ⊥)

  abbrev pub Removes : PairMap K V → K → Reply V → PairMap K V → Type 0
  Removes m k r n = (r ≡ Old (value_at m (enc k))) × (n ≡ map.remove m (enc k))

  abbrev pub RemovesBelow : PairMap K V → K → Reply V → PairMap K V → Type 0
  RemovesBelow m k r n = (vs : _) × (r ≡ Gone vs) × (vs.items ≡ values_below m (enc k))
      × (n ≡ without_below m (enc k))

  abbrev pub Gets : PairMap K V → K → Reply V → PairMap K V → Type 0
  Gets m k r n = Stays m r n (Found (value_at m (enc k)))

  -- where they may be refused

  abbrev pub MayRefuseInsert : PairMap K V → K → Type 0
  MayRefuseInsert m k = inline k → IsStored m (enc k) → ⊥

  abbrev pub MayRefuseRemove : PairMap K V → K → Type 0
  MayRefuseRemove m k = inline k → JoinsAreShort m (enc k) → ⊥

  abbrev pub MayRefuseBelow : PairMap K V → K → Type 0
  MayRefuseBelow m k = inline k → map.len (below m (enc k)) ≡ 0 → ⊥

  -- one command in a view at the path p
  module _ (p : List ℕ) where
    -- p isn't a prefix of the key's encoding, and nothing changes
    abbrev pub IsOutside : PairMap K V → K → Reply V → PairMap K V → Type 0
    IsOutside m k r n = Stays m r n Outside × (IsPrefix p (enc k) → ⊥)

    abbrev pub ViewStep : PairMap K V → ViewCommand K V → Reply V → PairMap K V → Type 0
    ViewStep m (inner.Insert k v) r n =
        (IsPrefix p (enc k) × Inserts m k v r n)
        ⊎ (IsOutside m k r n
        ⊎ (Stays m r n Refused × (inline k → IsPrefix p (enc k)) × MayRefuseInsert m k))
    ViewStep m (inner.Remove k) r n =
        (IsPrefix p (enc k) × Removes m k r n)
        ⊎ (IsOutside m k r n
        ⊎ (Stays m r n Refused × (inline k → IsPrefix p (enc k)) × MayRefuseRemove m k))
    ViewStep m (inner.RemovePrefix k) r n =
        (IsPrefix p (enc k) × RemovesBelow m k r n)
        ⊎ (IsOutside m k r n
        ⊎ (Stays m r n Refused × (inline k → IsPrefix p (enc k)) × MayRefuseBelow m k))
    ViewStep m (inner.Get k) r n = (IsPrefix p (enc k) × Gets m k r n)
        ⊎ (IsOutside m k r n ⊎ (Stays m r n Refused × (inline k → ⊥)))
    ViewStep m inner.Len r n = Stays m r n (Number (map.len (below m p)))

    -- one reply to each command, in order, from each map to the next
    pub data ViewSteps (m : PairMap K V) : List (ViewCommand K V) → List (Reply V) → PairMap K V
        → Type 0 where
      view_start : ViewSteps m [] [] m
      then_view : {cs : List (ViewCommand K V)} {rs : List (Reply V)} {n : PairMap K V}
          (c : ViewCommand K V) (r : Reply V) (o : PairMap K V)
          → ViewSteps m cs rs n → ViewStep n c r o → ViewSteps m (cs ++ c ∷ []) (rs ++ r ∷ []) o

  -- one command
  abbrev pub Step : PairMap K V → Command K V → Reply V → PairMap K V → Type 0
  Step m (outer.Insert k v) r n = Inserts m k v r n ⊎ (Stays m r n Refused × MayRefuseInsert m k)
  Step m (outer.Remove k) r n = Removes m k r n ⊎ (Stays m r n Refused × MayRefuseRemove m k)
  Step m (outer.RemovePrefix k) r n =
      RemovesBelow m k r n ⊎ (Stays m r n Refused × MayRefuseBelow m k)
  Step m (outer.Get k) r n = Gets m k r n ⊎ (Stays m r n Refused × (inline k → ⊥))
  Step m (outer.Ancestor k) r n =
      ((v : Option V) × IsValueAbove m (enc k) v × Stays m r n (Found v))
      ⊎ (Stays m r n Refused × (inline k → ⊥))
  Step m outer.Len r n = Stays m r n (Number (map.len m))
  Step m (outer.Within k cs) r n =
      (IsPoint m (enc k) × (rs : _) × (r ≡ Replies rs) × ViewSteps (enc k) m cs.items rs.items n)
      ⊎ ((Stays m r n Closed × (IsPoint m (enc k) → ⊥))
      ⊎ (Stays m r n Refused × (inline k → (IsPoint m (enc k) → ⊥) ⊎ (cs.items ≡ []) → ⊥)))

  -- one reply to each command, in order, from each map to the next
  pub data Steps (m : PairMap K V) : List (Command K V) → List (Reply V) → PairMap K V
      → Type 0 where
    at_start : Steps m [] [] m
    then_step : {cs : List (Command K V)} {rs : List (Reply V)} {n : PairMap K V} (c : Command K V)
        (r : Reply V) (o : PairMap K V)
        → Steps m cs rs n → Step n c r o → Steps m (cs ++ c ∷ []) (rs ++ r ∷ []) o
