-- What a tree ends as, once a reference that was borrowed from it has ended.
use Rattle.std.specs.Prelude.{◌≡◌, List, ℕ, Option, Some, None, MatchOption, ⊤, map}
use Rattle.masked_tree.specs.Tree.{Tree, IsTreePlaced, IsFullBelow, entries_at, nodes_in, nibbles_in}
use Rattle.masked_tree.specs.Paths.{IsNodeAt, IsHeld}
use Rattle.masked_tree.specs.Alters.{Rewrites}
use Rattle.radix_nodes.specs.declared.trie_node.KeyValue.{KeyValue}

abbrev pub OnNone : {A : Type 0} → Option A → Type 0 → Type 0
OnNone r P = MatchOption r P (λ x. ⊤)

module _ {K V : Type 0} where
  -- both hold no pair, or pairs of one key
  abbrev pub IsSameKey : Option (KeyValue K V) → Option (KeyValue K V) → Type 0
  IsSameKey None None = ⊤
  IsSameKey None (Some y) = ⊥
  IsSameKey (Some x) None = ⊥
  IsSameKey (Some x) (Some y) = x.key ≡ y.key

  -- w is u but for the value of its own pair
  pub record IsRevalued (u w : Tree (KeyValue K V)) : Type 0 where
    pub fragment : w.fragment ≡ u.fragment
    pub mask : w.mask ≡ u.mask
    pub children : w.children ≡ u.children
    pub key : IsSameKey u.pair w.pair

  -- u stood at the path, and w stands there: where only the value differs, that is all that changes
  pub record Succeeds (path : List ℕ) (u w old new : Tree (KeyValue K V)) : Type 0 where
    pub node : IsNodeAt old path u
    pub alters : IsRevalued u w → Rewrites path u.pair w.pair old new

  -- the value v stood at the path, and w stands there under the same key
  pub record Revalues (path : List ℕ) (v w : V) (old new : Tree (KeyValue K V)) : Type 0 where
    pub key : K
    pub alters : Rewrites path (Some (record { key = key; value = v }))
        (Some (record { key = key; value = w })) old new

  abbrev pub keyed : List ℕ × KeyValue K V → List ℕ × K
  keyed e = (e.0, e.1.key)

  -- the entries without their values
  abbrev pub keys_of : List (List ℕ × KeyValue K V) → List (List ℕ × K)
  keys_of es = map keyed es

  -- the two differ in values at most
  pub record IsLike (old new : Tree (KeyValue K V)) : Type 0 where
    pub fragment : new.fragment ≡ old.fragment
    pub placed : IsTreePlaced old → IsTreePlaced new
    pub below : IsFullBelow old → IsFullBelow new
    pub keys : (q : List ℕ) → keys_of (entries_at q new) ≡ keys_of (entries_at q old)
    pub nodes : nodes_in new.children ≡ nodes_in old.children
    pub nibbles : nibbles_in new.children ≡ nibbles_in old.children

  -- and in no value
  pub record IsUnwritten (old new : Tree (KeyValue K V)) : Type 0 where
    pub like : IsLike old new
    pub same : (q : List ℕ) → entries_at q new ≡ entries_at q old

  -- the tree stays, and had no node at the path where none was borrowed
  abbrev pub KeepsNode : {A : Type 0} → Option A → List ℕ → Tree (KeyValue K V)
      → Tree (KeyValue K V) → Type 0
  KeepsNode r path old new =
      (new ≡ old) × OnNone r ((u : Tree (KeyValue K V)) → IsNodeAt old path u → ⊥)

  abbrev pub KeepsValue : {A : Type 0} → Option A → List ℕ → Tree (KeyValue K V)
      → Tree (KeyValue K V) → Type 0
  KeepsValue r path old new = IsUnwritten old new × OnNone r (IsHeld old path → ⊥)
