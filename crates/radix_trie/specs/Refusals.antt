-- Why a change at the list l of the map m is refused, by the error's reason. `inside` says that the
-- view's path is a prefix of l (of a trie's own call nothing is outside), `inline` that the key is
-- inline.
use Rattle.std.specs.FinMap as map
use Rattle.std.specs.Prelude.{◌≡◌, ℕ, ◌+◌, ◌≤◌, ◌^◌, ◌-◌, ◌≢◌, ◌⊎◌, List, [], ◌∷◌, ◌++◌, None}
use Rattle.nibble_map.specs.Lists.{IsPrefix}
use Rattle.nibble_map.specs.MapQueries.{AreChildren, IsFragment, IsLeaf}
use Rattle.nibble_map.specs.Maps.{PairMap, IsPoint, IsStored, below}
use Rattle.nibble_map.specs.Nibbles.{IsShort}
use Rattle.radix_trie.specs.declared.error.GraftWhy.{GraftWhy}
use Rattle.radix_trie.specs.declared.error.GraftWhy.TheVariants as grafting
use Rattle.radix_trie.specs.declared.error.SubTrieError.{SubTrieError}
use Rattle.radix_trie.specs.declared.error.SubTrieError.TheVariants as error
use Rattle.radix_trie.specs.declared.error.InsertWhy.{InsertWhy}
use Rattle.radix_trie.specs.declared.error.InsertWhy.TheVariants as why
use Rattle.radix_trie.specs.declared.error.TryInsertWhy.{TryInsertWhy}
use Rattle.radix_trie.specs.declared.error.TryInsertWhy.TheVariants as try_why

module _ {K V : Type 0} (m : PairMap K V) (l : List ℕ) where
  -- as many pairs are stored as can be counted, and none at l
  abbrev pub IsFullAt : Type 0
  IsFullAt = (map.len m ≡ 2 ^ 64 - 1) × (map.get m l ≡ None)

  -- an insertion
  abbrev pub RefusesInsert : (inside inline : Type 0) → InsertWhy → Type 0
  RefusesInsert inside inline why.Memory =
      inline → inside × (IsFullAt → ⊥) × (IsStored m l → ⊥)
  RefusesInsert inside inline why.Full = inside × IsFullAt
  RefusesInsert inside inline why.Outside = inside → ⊥

  -- an insertion that replaces nothing
  abbrev pub RefusesTryInsert : (inline : Type 0) → TryInsertWhy → Type 0
  RefusesTryInsert inline try_why.Memory = inline → (IsFullAt → ⊥) × (IsStored m l → ⊥)
  RefusesTryInsert inline try_why.Full = IsFullAt
  RefusesTryInsert inline try_why.Occupied = IsStored m l

  -- the removal of the pair at l leaves the point p, which isn't the empty list, with no pair and
  -- the one child q: p is l itself, or p holds no pair and has two children, q and the leaf l
  abbrev pub IsJoined : (p q : List ℕ) → Type 0
  IsJoined p q = IsStored m l × IsPoint m p × (p ≢ [])
      × (((p ≡ l) × AreChildren m p (q ∷ []))
      ⊎ ((IsStored m p → ⊥) × IsLeaf m l
      × (AreChildren m p (l ∷ q ∷ []) ⊎ AreChildren m p (q ∷ l ∷ []))))

  -- the two fragments that the removal joins there, if it does, have at most 32 nibbles together
  abbrev pub JoinsAreShort : Type 0
  JoinsAreShort = (p q f g : List ℕ) → IsJoined p q → IsFragment m p f → IsFragment m q g
      → IsShort (f ++ g)

  -- a removal of the pair at l
  abbrev pub RefusesRemove : (inside inline : Type 0) → SubTrieError → Type 0
  RefusesRemove inside inline error.Memory =
      inline → inside × (map.get m l ≡ None → ⊥) × (((e : List ℕ) → IsStored m e → IsShort e) → ⊥)
      × (JoinsAreShort → ⊥)
  RefusesRemove inside inline error.Outside = inside → ⊥

  -- a removal of all pairs at and below l
  abbrev pub RefusesBelow : (inside inline : Type 0) → SubTrieError → Type 0
  RefusesBelow inside inline error.Memory = inline → inside × (map.len (below m l) ≡ 0 → ⊥)
  RefusesBelow inside inline error.Outside = inside → ⊥

module _ {K V : Type 0} where
  -- all lists that the map holds begin with l
  abbrev pub AllBegin : PairMap K V → List ℕ → Type 0
  AllBegin m l = (e : List ℕ) → IsStored m e → IsPrefix l e

  -- m stores nothing at or below some list with which all of part's begin, so nothing at or below the
  -- longest such list
  abbrev pub IsFreeFor : (m part : PairMap K V) → Type 0
  IsFreeFor m part = (l : List ℕ) × AllBegin part l × (map.len (below m l) ≡ 0)

  -- the map `part` isn't grafted onto the map m: the pairs of both can't be counted; or m has a point
  -- at or below each list with which all of part's begin, so also the longest such list; or memory,
  -- and then m stores nothing at or below one of these lists
  abbrev pub RefusesGraft : (m part : PairMap K V) → GraftWhy → Type 0
  RefusesGraft m part grafting.Full = 2 ^ 64 ≤ map.len m + map.len part
  RefusesGraft m part grafting.Overlapping =
      (l : List ℕ) → AllBegin part l → (q : List ℕ) × IsPoint m q × IsPrefix l q
  RefusesGraft m part grafting.Memory = IsFreeFor m part
