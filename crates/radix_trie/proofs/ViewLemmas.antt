-- A view for writing that is borrowed: its reference to the trie is borrowed on, and its path is shared beside it. Assumes `Logic`.
use mathlib.Core.Path.{refl}
use Prim.Native.Nat.{ℕ}
use seplogic.Ra.Ura.{Ura}
use base.Fraction.{full_share}
use base.Fml.{Lft, GName, Share}
use base.Logic.{ent, sep, ex}
use mir.Syntax.{named, Sym}
use types.Logic.{Logic}
use types.SemTy.{Body}
use contract.BorrowLft.{◌⊑◌}
use denote.RattleType.{RattleType}
use denote.Memory.{part_of, mem}
use denote.Laws.{Lawfuls}
use denote.Ref.{MutRef, mut_Lawful}
use denote.Struct.Members.{rows_of}
use denote.Struct.Parts.{Struct-parts}
use Rattle.radix_keys.specs.contracts.nibbles.NibbleVec.{the_row as list_row}
use Rattle.radix_keys.proofs.nibbles.NibbleVec.TheLaws.{the_row_laws as list_laws}
use Rattle.radix_keys.specs.declared.keys.TrieKey as keys
use Rattle.radix_keys.specs.declared.nibbles.NibbleVec.{NibbleVec}
use Rattle.std.specs.declared.cmp.PartialEq as eqs
use Rattle.radix_trie.specs.Lends.{trie_row}
use Rattle.radix_trie.specs.declared.view.subtrie_mut.SubTrieMut.{SubTrieMut}
use Rattle.radix_trie.specs.contracts.view.subtrie_mut.SubTrieMut.{the_row, struct}
use Rattle.radix_trie.proofs.PartLemmas as parts

module _ (K V : RattleType) (key : keys.Ghosts K.Denot) (eq : eqs.Ghosts K.Denot) (κ' : Lft) where
  -- the type of the view's reference to its trie
  abbrev pub Ref : RattleType
  Ref = MutRef (named 1) κ' (trie_row K V key eq)

  -- the type of the view
  abbrev pub View : RattleType
  View = the_row (record { mir = named 1; lft = κ' }) K V list_row key eq

  -- the name of the view's type
  abbrev pub name : Sym
  name = (struct (record { mir = named 1; lft = κ' }) K V list_row key eq).name

  module _ {M : Type 1} {𝓤 : Ura M} (𝓛 : Logic 𝓤) (x : SubTrieMut K.Denot V.Denot NibbleVec) (b o : ℕ) where
    open 𝓛 use {H, A}

    -- the parts of a view are lawful
    parts_are_lawful : Lawfuls 𝓛 (rows_of (parts.members Ref list_row list_row))
    parts_are_lawful = (mut_Lawful 𝓛 (named 1) κ' (trie_row K V key eq), (list_laws.lawful 𝓛, (list_laws.lawful 𝓛, tt)))

    -- a view in memory is its parts in their places, and the way back from them
    cut : parts.IsCut Ref list_row list_row 𝓛 View name list_laws x x.trie x.path x.prefix (λ w. record x { trie = w }) b o
    unfolding part_of
    cut = Struct-parts 𝓛 full_share name (parts.members Ref list_row list_row) parts_are_lawful (x.trie, (x.path, (x.prefix, tt))) b o

    -- the parts with another reference make the view with that reference
    made : parts.IsMade Ref list_row list_row 𝓛 View name list_laws x x.trie x.path x.prefix (λ w. record x { trie = w }) b o
    unfolding part_of
    made w = refl

    -- a borrowed view gives its reference, borrowed on, and its path, shared, for as long
    pub view_splits : (κ : Lft) (q : Share) (γ : GName) → κ ⊑ list_row.lives
        → ent 𝓤 (sep 𝓤 (A.obs γ (View.coded.code x)) (sep 𝓤 (A.bor κ (Body (mem View) b o γ)) (A.lft κ q)))
        (H.⇛ (ex 𝓤 (parts.HasSplit Ref list_row list_row 𝓛 View name list_laws x x.trie x.path x.prefix (λ w. record x { trie = w }) b o κ q γ)))
    view_splits = parts.splits Ref list_row list_row 𝓛 View name list_laws x x.trie x.path x.prefix (λ w. record x { trie = w }) b o cut made
