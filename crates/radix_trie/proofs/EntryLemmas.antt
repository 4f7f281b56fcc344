-- An entry that is borrowed: its reference to the trie is borrowed on, and its list is shared beside it. Assumes `Logic`.
use mathlib.Core.Path.{refl}
use Prim.Native.Nat.{ℕ}
use seplogic.Ra.Ura.{Ura}
use base.Fraction.{full_share}
use base.Fml.{Lft, GName, Share}
use base.Logic.{ent, sep, ex}
use mir.Syntax.{named, Sym}
use types.Logic.{Logic}
use types.SemTy.{Body}
use contract.BorrowLft.{◌⊑◌}
use denote.RattleType.{RattleType}
use denote.Memory.{part_of, mem}
use denote.Laws.{Lawfuls}
use denote.Ref.{MutRef, mut_Lawful}
use denote.Param.{param}
use denote.Param.Laws.{Laws}
use denote.Struct.Members.{rows_of}
use denote.Struct.Parts.{Struct-parts}
use Rattle.radix_keys.specs.declared.keys.TrieKey as keys
use Rattle.std.specs.declared.cmp.PartialEq as eqs
use Rattle.radix_trie.specs.Lends.{trie_row}
use Rattle.radix_trie.specs.declared.locus.path_list.PathList as paths
use Rattle.radix_trie.specs.declared.trie.entry.Entry.{Entry}
use Rattle.radix_trie.specs.contracts.trie.entry.Entry.{the_row, struct}
use Rattle.radix_trie.proofs.PartLemmas as parts

module _ (K₀ V₀ P₀ : RattleType) (key : keys.Ghosts K₀.Denot) (eq : eqs.Ghosts K₀.Denot) (path : paths.Ghosts P₀.Denot) (κ' : Lft) where
  abbrev K : RattleType
  K = param 0 K₀

  abbrev V : RattleType
  V = param 1 V₀

  abbrev P : RattleType
  P = param 2 P₀

  -- the type of the entry's reference to its trie
  abbrev pub Ref : RattleType
  Ref = MutRef (named 1) κ' (trie_row K V key eq)

  -- the type of the entry
  abbrev pub Whole : RattleType
  Whole = the_row (record { mir = named 1; lft = κ' }) K V P key eq path

  -- the name of the entry's type
  abbrev pub name : Sym
  name = (struct (record { mir = named 1; lft = κ' }) K V P key eq path).name

  module _ {M : Type 1} {𝓤 : Ura M} (𝓛 : Logic 𝓤) (LK : Laws K) (LP : Laws P) (x : Entry K.Denot V.Denot P.Denot key eq path) (b o : ℕ) where
    open 𝓛 use {H, A}

    -- the parts of an entry are lawful
    parts_are_lawful : Lawfuls 𝓛 (rows_of (parts.members Ref P K))
    parts_are_lawful = (mut_Lawful 𝓛 (named 1) κ' (trie_row K V key eq), (LP.lawful 𝓛, (LK.lawful 𝓛, tt)))

    -- an entry in memory is its parts in their places, and the way back from them
    cut : parts.IsCut Ref P K 𝓛 Whole name LP x x.trie x.list x.key (λ w. record x { trie = w }) b o
    unfolding part_of
    cut = Struct-parts 𝓛 full_share name (parts.members Ref P K) parts_are_lawful (x.trie, (x.list, (x.key, tt))) b o

    -- the parts with another reference make the entry with that reference
    made : parts.IsMade Ref P K 𝓛 Whole name LP x x.trie x.list x.key (λ w. record x { trie = w }) b o
    unfolding part_of
    made w = refl

    -- a borrowed entry gives its reference, borrowed on, and its list, shared, for as long
    pub entry_splits : (κ : Lft) (q : Share) (γ : GName) → κ ⊑ P.lives
        → ent 𝓤 (sep 𝓤 (A.obs γ (Whole.coded.code x)) (sep 𝓤 (A.bor κ (Body (mem Whole) b o γ)) (A.lft κ q)))
        (H.⇛ (ex 𝓤 (parts.HasSplit Ref P K 𝓛 Whole name LP x x.trie x.list x.key (λ w. record x { trie = w }) b o κ q γ)))
    entry_splits = parts.splits Ref P K 𝓛 Whole name LP x x.trie x.list x.key (λ w. record x { trie = w }) b o cut made
