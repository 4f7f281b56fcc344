-- What calls that borrow return, and what is left once the borrow has ended.
use Rattle.std.specs.Prelude.{◌≡◌, List, ℕ, Option, Some, None, ⊤}
use Rattle.std.specs.Option.{IfSome}
use Rattle.std.specs.Borrow.{Fml, RattleType, MutBor, Lends, LendsIf, LendsSo}
use Rattle.std.specs.declared.boxed.Box.{Box}
use Rattle.std.specs.declared.alloc.Global.{Global}
use Rattle.std.specs.contracts.boxed.Box.{the_row as box_row}
use Rattle.std.specs.contracts.option.Option.{the_row as option_row}
use Rattle.std.specs.contracts.alloc.Global.{the_row as global_row}
use Rattle.std.specs.contracts.impls.GlobalAllocator.TheImpl.{ghosts as global_ghosts}
use Rattle.std.specs.Vec.{with_item}
use Rattle.std.specs.Box.{with_value}
use Rattle.radix_nodes.specs.Lending.{Succeeds, Revalues, IsLike, KeepsNode, KeepsValue}
use Rattle.radix_nodes.specs.contracts.trie_node.KeyValue.{the_row as pair_row}
use Rattle.radix_nodes.specs.contracts.trie_node.TrieNode.{the_row}
use Rattle.radix_nodes.specs.declared.trie_node.KeyValue.{KeyValue}
use Rattle.radix_nodes.specs.declared.trie_node.TrieNode.{TrieNode, out-TrieNode, roll-TrieNode}
use Rattle.radix_nodes.specs.Nodes.{tree_of}

module _ {K V : Type 0} where
  abbrev pub write_value : Option (Box (KeyValue K V) Global) → V
      → Option (Box (KeyValue K V) Global)
  write_value None w = None
  write_value (Some b) w = Some (with_value b (record { key = b.value.key; value = w }))

  -- what is borrowed of a pair is its value, and nothing where there is none
  abbrev pub IsLentPair : Option (MutBor V) → Option (Box (KeyValue K V) Global) → Type 0
  IsLentPair None None = ⊤
  IsLentPair None (Some b) = ⊥
  IsLentPair (Some x) None = ⊥
  IsLentPair (Some x) (Some b) = x.now ≡ b.value.value

  abbrev pub with_child_box : TrieNode K V → ℕ → Box (TrieNode K V) Global → TrieNode K V
  with_child_box n i b = let o =
      out-TrieNode K V n in roll-TrieNode K V record {
        fragment = o.fragment;
        pair = o.pair;
        mask = o.mask;
        children = with_item o.children i b;
      }

module _ (K V : RattleType) where
  abbrev pub node_box : RattleType
  node_box = box_row (the_row K V) global_row global_ghosts

  -- the node in the box ends with what is written through r in the place of the node at the path,
  -- and at `None` as it was
  abbrev pub LendsNode : MutBor (Box (TrieNode K.Denot V.Denot) Global) → List ℕ
      → Option (MutBor (TrieNode K.Denot V.Denot)) → Fml
  LendsNode s path r =
      LendsSo node_box (the_row K V) s r
      (λ b w. IfSome r
      (λ x. Succeeds path (tree_of x.now) (tree_of w) (tree_of s.now.value) (tree_of b.value)))
      (λ b. KeepsNode r path (tree_of s.now.value) (tree_of b.value))

  -- the node ends with the last value written through r at the path, and at `None` as it was
  abbrev pub LendsValue : MutBor (TrieNode K.Denot V.Denot) → List ℕ → Option (MutBor V.Denot) → Fml
  LendsValue s path r =
      LendsSo (the_row K V) V s r
      (λ n w. IfSome r (λ x. Revalues path x.now w (tree_of s.now) (tree_of n))
      × IsLike (tree_of s.now) (tree_of n))
      (λ n. KeepsValue r path (tree_of s.now) (tree_of n))

  abbrev pub LendsChildBox : MutBor (TrieNode K.Denot V.Denot) → ℕ
      → MutBor (Box (TrieNode K.Denot V.Denot) Global) → Fml
  LendsChildBox s i r = Lends (the_row K V) node_box s r (with_child_box s.now i)

  abbrev pub LendsUnboxed : MutBor (Box (TrieNode K.Denot V.Denot) Global)
      → MutBor (TrieNode K.Denot V.Denot) → Fml
  LendsUnboxed s r = Lends node_box (the_row K V) s r (with_value s.now)

  abbrev pub LendsPair : MutBor (Option (Box (KeyValue K.Denot V.Denot) Global))
      → Option (MutBor V.Denot) → Fml
  LendsPair s r =
      LendsIf (option_row (box_row (pair_row K V) global_row global_ghosts)) V s r
      (λ w. write_value s.now w) s.now
