-- What a change of all values leaves, and one that stores a pair where there was none.
use Rattle.std.specs.FinMap as map
use Rattle.std.specs.Fn.{Shared}
use Rattle.std.specs.Prelude.{◌≡◌, ℕ, List, MatchOption}
use denote.Ref.{Bor, MutBor}
use Rattle.nibble_map.specs.Copies.{IsMapCopy}
use Rattle.nibble_map.specs.Maps.{PairMap}
use Rattle.radix_nodes.specs.Values as nodes

module _ {F K V : Type 0}
    (g : Shared F (Bor K × (MutBor V × Unit {0})) (Unit {0} × (MutBor V × Unit {0}))) (f : F) where
  -- f may be called at the pair: at a `&` to its key and a `&mut` to its value
  abbrev pub TakesPairAtMut : K × V → Type 0
  TakesPairAtMut = nodes.TakesPair g f

  -- such a call may leave the value
  abbrev pub LeavesAtPair : K × V → V → Type 0
  LeavesAtPair = nodes.LeavesAtPair g f

module _ {K V : Type 0} where
  -- new holds the lists of old, each with the same key, and R holds of the pair before and the value
  -- after
  abbrev pub ChangesEachPair : (K × V → V → Type 0) → PairMap K V → PairMap K V → Type 0
  ChangesEachPair R old new = IsMapCopy (λ p q. (q.0 ≡ p.0) × R p q.1) old new

  -- new is old with the pair p at e, where old had none there, and else it is old
  abbrev pub IsFilled : PairMap K V → List ℕ → K × V → PairMap K V → Type 0
  IsFilled old e p new = MatchOption (map.get old e) (new ≡ map.insert old e p) (λ _. new ≡ old)
