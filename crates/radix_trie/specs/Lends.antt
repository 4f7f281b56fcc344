-- What a trie ends as, once what was borrowed of it has ended.
use mir.Syntax.{named}
use denote.Ref.{MutRef}
use mathlib.Core.Option as maybe
use Rattle.std.specs.Prelude.{◌≡◌, ℕ, List, [], None, Some, Option, Result, ⊤}
use Rattle.std.specs.Borrow.{Fml, GName, RattleType, MutBor, LendsIf, LendsIfOk, LendsSoOk, RestsIfErr, follows_if, follows_so, name_if_some}
use Rattle.std.specs.declared.result.Result.TheVariants.{Ok, Err}
use Rattle.nibble_map.specs.Maps.{PairMap, with_value}
use Rattle.radix_keys.specs.declared.keys.TrieKey as keys
use Rattle.radix_keys.specs.declared.nibbles.Memory.{Memory}
use Rattle.radix_keys.specs.declared.nibbles.NibbleVec.{NibbleVec}
use Rattle.radix_keys.specs.contracts.nibbles.NibbleVec as nibble_vec
use Rattle.radix_trie.specs.contracts.trie.Trie.{the_row}
use Rattle.radix_trie.specs.contracts.view.subtrie_mut.SubTrieMut as view
use Rattle.radix_trie.specs.declared.error.FindError.{FindError}
use Rattle.radix_trie.specs.declared.error.FindError.TheVariants as find
use Rattle.radix_trie.specs.declared.error.OpenError.{OpenError}
use Rattle.radix_trie.specs.declared.error.OpenError.TheVariants as opening
use Rattle.radix_trie.specs.declared.view.subtrie_mut.SubTrieMut.{SubTrieMut}
use Rattle.radix_trie.specs.Views.{IsWrittenAbove, with_value_or}
use Rattle.radix_trie.specs.WriteViews.{lender_of, with_own_value}
use Rattle.std.specs.declared.cmp.PartialEq as eqs

module _ {A : Type 0} where
  -- the name in a `Some` in an `Ok`
  abbrev pub name_if_found : {E : Type 0} → (A → GName) → Result (Option A) E → maybe.Option GName
  name_if_found name (Ok found) = name_if_some name found
  name_if_found name (Err e) = maybe.none

  -- the same result, in which `None` says what `Absent` says
  abbrev pub absent_as_none : Result A FindError → Result (Option A) Memory
  absent_as_none (Ok x) = Ok (Some x)
  absent_as_none (Err find.Memory) = Err (record {})
  absent_as_none (Err find.Absent) = Ok None

  -- the same result, in which `None` says what `Closed` says
  abbrev pub closed_as_none : Result A OpenError → Result (Option A) Memory
  closed_as_none (Ok x) = Ok (Some x)
  closed_as_none (Err opening.Memory) = Err (record {})
  closed_as_none (Err opening.Closed) = Ok None

module _ (K V : RattleType) (key : keys.Ghosts K.Denot) (eq : eqs.Ghosts K.Denot) where
  abbrev pub trie_row : RattleType
  trie_row = the_row K V key eq

  -- the trie ends as the view's trie does, and at `Err` it stays as it is
  abbrev pub rests_if_err : MutBor (PairMap K.Denot V.Denot) → {E : Type 0}
      → Result (SubTrieMut K.Denot V.Denot NibbleVec) E → Fml
  rests_if_err t r = RestsIfErr trie_row t lender_of r (λ n. n ≡ t.now)

  -- the same, at `None` and at `Err`
  abbrev pub rests_if_none : MutBor (PairMap K.Denot V.Denot) → {E : Type 0}
      → Result (Option (SubTrieMut K.Denot V.Denot NibbleVec)) E → Fml
  rests_if_none t r =
      follows_if trie_row trie_row t.ghost_name (name_if_found lender_of r) (λ n. n) t.now

  -- the trie of the reference named γ ends as m
  abbrev pub stays_as : GName → PairMap K.Denot V.Denot → Fml
  stays_as γ m = follows_so trie_row trie_row γ maybe.none (λ _ _. ⊤) (λ n. n ≡ m)

  abbrev pub view_row : RattleType
  view_row = view.the_row (record { mir = named 1; lft = [] }) K V nibble_vec.the_row key eq

  -- the view ends with the last value written through r at its path, and at `None` it stays as it
  -- is
  abbrev pub lends_own : MutBor (SubTrieMut K.Denot V.Denot NibbleVec)
      → Option (MutBor V.Denot) → Fml
  lends_own v r = LendsIf view_row V v r (with_own_value v.now) v.now

  -- the trie behind the reference ends so, with that value at e
  abbrev pub lends_behind : MutBor (MutBor (PairMap K.Denot V.Denot)) → List ℕ
      → Option (MutBor V.Denot) → Fml
  lends_behind t e r =
      LendsIf (MutRef (named 1) [] trie_row) V t r
      (λ w. record t.now { now = with_value t.now.now e w }) t.now

  module _ (t : MutBor (PairMap K.Denot V.Denot)) (e : List ℕ) where
    -- the trie ends with the last value written through r at e, and at `None` it stays as it is
    abbrev pub lends_at : Option (MutBor V.Denot) → Fml
    lends_at r = LendsIf trie_row V t r (with_value t.now e) t.now

    -- the same, at `Ok` and at `Err`
    abbrev pub lends_if_ok : {E : Type 0} → Result (MutBor V.Denot) E → Fml
    lends_if_ok r = LendsIfOk trie_row V t r (with_value t.now e) t.now

    -- the same, at `Some` in `Ok`, and at `None` and at `Err`
    abbrev pub lends_found : {E : Type 0} → Result (Option (MutBor V.Denot)) E → Fml
    lends_found r =
        follows_if trie_row V t.ghost_name (name_if_found (λ x. x.ghost_name) r)
        (with_value t.now e) t.now

    -- the trie ends with the last value written through r at the longest stored list that is a
    -- prefix of e, and at `Err` it stays as it is
    abbrev pub lends_above : {E : Type 0} → Result (MutBor V.Denot) E → Fml
    lends_above r =
        LendsSoOk trie_row V t r (λ n w. IsWrittenAbove t.now e w n) (λ n. n ≡ t.now)

    -- the trie ends with the last value written through r at e, by the stored key, or by the key k
    -- where none was stored there; and at `Err` it stays as it is
    abbrev pub lends_or_stored : K.Denot → {E : Type 0} → Result (MutBor V.Denot) E → Fml
    lends_or_stored k r = LendsIfOk trie_row V t r (with_value_or t.now e k) t.now
