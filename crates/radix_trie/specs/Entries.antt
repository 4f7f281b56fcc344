-- What clauses see of an entry, a key's place in a trie.
use mir.Syntax.{named}
use Rattle.std.specs.Borrow.{Fml, GName, RattleType, MutBor, LendsIf, RestsIfErr, follows_if, name_if_ok}
use Rattle.std.specs.Prelude.{◌≡◌, ℕ, List, [], Option, Result}
use Rattle.std.specs.declared.cmp.PartialEq as eqs
use Rattle.nibble_map.specs.Maps.{PairMap, with_value}
use Rattle.radix_keys.specs.declared.keys.TrieKey as keys
use Rattle.radix_trie.specs.Lends.{trie_row}
use Rattle.radix_trie.specs.Views.{with_value_or}
use Rattle.radix_trie.specs.contracts.trie.entry.Entry as entry
use Rattle.radix_trie.specs.declared.trie.entry.Entry.{Entry}
use Rattle.radix_trie.specs.declared.locus.path_list.PathList as paths

module _ {K V P : Type 0} {key : keys.Ghosts K} {eq : eqs.Ghosts K} {path : paths.Ghosts P} where
  -- the map of the trie behind the entry
  abbrev pub entry_map : Entry K V P key eq path → PairMap K V
  entry_map e = e.trie.now

  -- the name of the entry's reference to the trie
  abbrev pub entry_lender : Entry K V P key eq path → GName
  entry_lender e = e.trie.ghost_name

  abbrev pub entry_key : Entry K V P key eq path → K
  entry_key e = e.key

  -- the encoding of the entry's key
  abbrev pub entry_list : Entry K V P key eq path → List ℕ
  entry_list e = key.encoding e.key

  -- e, with the value w at its list
  abbrev pub with_entry_value : Entry K V P key eq path → V → Entry K V P key eq path
  with_entry_value e w =
      record e { trie = record e.trie { now = with_value (entry_map e) (entry_list e) w } }

module _ (K V : RattleType) (key : keys.Ghosts K.Denot) (eq : eqs.Ghosts K.Denot) where
  -- the trie ends as the entry's trie does, and at `Err` it stays as it is
  abbrev pub entry_rests_if_err : {P : Type 0} → {path : paths.Ghosts P}
      → MutBor (PairMap K.Denot V.Denot) → {E : Type 0}
      → Result (Entry K.Denot V.Denot P key eq path) E → Fml
  entry_rests_if_err t r = RestsIfErr (trie_row K V key eq) t entry_lender r (λ n. n ≡ t.now)

module _ (K V P : RattleType) (key : keys.Ghosts K.Denot) (eq : eqs.Ghosts K.Denot)
    (path : paths.Ghosts P.Denot) where
  -- the entry's trie ends with the last value written through r at its list, by the stored key, or
  -- by the entry's where none was stored there; and at `Err` it stays as it is
  abbrev pub entry_lends : Entry K.Denot V.Denot P.Denot key eq path → {E : Type 0}
      → Result (MutBor V.Denot) E → Fml
  entry_lends e r =
      follows_if (trie_row K V key eq) V (entry_lender e) (name_if_ok (λ x. x.ghost_name) r)
      (with_value_or (entry_map e) (entry_list e) (entry_key e)) (entry_map e)

  abbrev pub entry_row : RattleType
  entry_row = entry.the_row (record { mir = named 1; lft = [] }) K V P key eq path

  -- the entry ends with the last value written through r at its list, and at `None` it stays as it
  -- is
  abbrev pub entry_lends_own : MutBor (Entry K.Denot V.Denot P.Denot key eq path)
      → Option (MutBor V.Denot) → Fml
  entry_lends_own e r = LendsIf entry_row V e r (with_entry_value e.now) e.now
