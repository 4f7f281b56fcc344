-- A struct of a reference and two parts more, that is borrowed: the reference is borrowed on, and the second part is shared beside
-- it, for as long as the struct is borrowed. Assumes `Logic`.
use mathlib.Core.Path.{◌≡◌, refl}
use Prim.Native.Nat.{ℕ, ◌+◌}
use mathlib.Core.List.{List, [], ◌∷◌}
use seplogic.Ra.Ura.{Ura}
use base.Fraction.{full_share}
use base.Fml.{Lft, GName, Share, Fml, ftrue, fobs, fbor, flft, fseps, Incl-refl}
use base.Logic.{SProp, ent, sep, ex, wand, all_e, apply∗}
use mir.Syntax.{named, Sym}
use mir.Val.{Val, vptr}
use prog.Memory.{size, align, up}
use types.Logic.{Logic, sem}
use types.Kit.{‵, raw, ◌⊛◌, some, later, ◌$◌, ◌∵◌, !, qed, move, keep, use1, use2, split, split3, join, pick, show, fsplit, fjoin, fjoin3, feq_i, group, updating, rewrite, await, now as at_once, done}
use types.SemTy.{Body}
use types.Mut.{open_ref}
use types.Follow.{takes_beside}
use contract.BorrowLft.{◌⊑◌}
use denote.RattleType.{RattleType, Denots}
use denote.Memory.{part_at, mem, lone, hidden_shr}
use denote.Ref.{MutRef, ShrRef, Bor, MutBor}
use denote.Follow.{follows}
use denote.Param.Laws.{Laws}
use denote.Struct.Struct.{Struct}
use denote.Struct.Members.{Member, row_of, rows_of, parts_at}
use denote.Struct.Parts.{shape_of, PartsBack}
-- A call that lends through the reference, at the second part.
pub mod Lending

-- R, S and U: the types of the parts
module _ (R S U : RattleType) where
  -- a part of a type
  abbrev member : RattleType → Member
  member T = record { row = T; ty = lone T.mir }

  abbrev pub members : List Member
  members = member R ∷ member S ∷ member U ∷ []

  -- the same types, as a struct lays them out
  abbrev Ref : RattleType
  Ref = row_of (member R)

  abbrev P : RattleType
  P = row_of (member S)

  abbrev Q : RattleType
  Q = row_of (member U)

  module _ (b o : ℕ) where
    -- where the reference and the second part lie in a struct that lies at o
    abbrev ref_at : ℕ
    ref_at = o + up (align (lone Ref.mir)) 0

    abbrev second_at : ℕ
    second_at = o + up (align (lone P.mir)) (up (align (lone Ref.mir)) 0 + size (lone Ref.mir))

    -- the references to the reference and to the second part that a borrow of the struct at (b, o) gives
    abbrev pub ref_of : Ref.Denot → GName → MutBor Ref.Denot
    ref_of r γ' = record { ref_ptr = (b, ref_at); ghost_name = γ'; now = r }

    abbrev pub second_of : P.Denot → Bor P.Denot
    second_of p = record { ref_ptr = (b, second_at); now = p }

  -- Whole: the type of the struct, which is called name; x: the struct of the parts r, p and q; put: the struct with another reference
  module _ {M : Type 1} {𝓤 : Ura M} (𝓛 : Logic 𝓤) (Whole : RattleType) (name : Sym) (laws : Laws P)
      (x : Whole.Denot) (r : Ref.Denot) (p : P.Denot) (q : Q.Denot) (put : Ref.Denot → Whole.Denot) (b o : ℕ) where
    open 𝓛 use {H, A}

    -- the struct in memory is its parts in their places, and the way back from them
    abbrev pub IsCut : Type 1
    IsCut = ent 𝓤 (sem 𝓛 (part_at Whole full_share x b o)) (sep 𝓤 (sem 𝓛 (parts_at full_share members 0 (r, (p, (q, tt))) b o)) (PartsBack 𝓛 full_share name members b o))

    -- the parts with w as the reference make the struct with w as its reference
    abbrev pub IsMade : Type 1
    IsMade = (w : Ref.Denot) → part_at (Struct (shape_of name members)) full_share (w, (p, (q, tt))) b o ≡ part_at Whole full_share (put w) b o

    -- the reference is borrowed on as γ', the second part is shared, and the struct γ follows the reference
    abbrev pub HasSplit : Lft → Share → GName → GName → SProp 𝓤
    HasSplit κ share γ γ' = sep 𝓤 (sem 𝓛 ((MutRef (named 0) κ Ref).own_val (ref_of b o r γ') (vptr b (ref_at b o) ∷ [])))
        (sep 𝓤 (sem 𝓛 ((ShrRef (named 0) κ P).own_val (second_of b o p) (vptr b (second_at b o) ∷ []))) (sep 𝓤 (A.lft κ share) (sem 𝓛 (follows Whole Ref γ γ' put))))

    module _ (cut : IsCut) (made : IsMade) where
      -- the second part lies in its place
      abbrev Second-lies : Fml
      Second-lies = part_at P full_share p b (second_at b o)

      -- where the third part lies in a struct that lies at o
      abbrev third_at : ℕ
      third_at = o + up (align (lone Q.mir)) (up (align (lone P.mir)) (up (align (lone Ref.mir)) 0 + size (lone Ref.mir)) + size (lone P.mir))

      -- the third part lies in its place
      abbrev Third-lies : Fml
      Third-lies = part_at Q full_share q b third_at

      -- all parts lie in their places, with w as the reference
      abbrev All : Ref.Denot → Fml
      All w = parts_at full_share members 0 (w, (p, (q, tt))) b o

      -- parts in their places make the whole
      abbrev Way : Denots (rows_of members) → SProp 𝓤
      Way a = wand 𝓤 (sem 𝓛 (parts_at full_share members 0 a b o)) (sem 𝓛 (part_at (Struct (shape_of name members)) full_share a b o))

      -- what isn't borrowed: the third part in its place, and the way back from the parts
      abbrev Frame : SProp 𝓤
      Frame = sep 𝓤 (sem 𝓛 Third-lies) (PartsBack 𝓛 full_share name members b o)

      -- the reference w, the second part and the rest make the struct with w as its reference
      whole_again : (w : Ref.Denot) → ent 𝓤 (sep 𝓤 (sem 𝓛 (part_at Ref full_share w b (ref_at b o))) (sep 𝓤 (sem 𝓛 (fseps (Second-lies ∷ []))) Frame)) (sem 𝓛 (part_at Whole full_share (put w) b o))
      unfolding fseps
      whole_again w =
          let a : Denots (rows_of members) = (w, (p, (q, tt))) in
          qed 𝓛 (‵ (part_at Ref full_share w b (ref_at b o)) ∷ (‵ Second-lies ⊛ ‵ ftrue) ∷ (‵ Third-lies ⊛ raw (PartsBack 𝓛 full_share name members b o)) ∷ []) ∵
          move ! (2 ∷ []) $ split ! $ move ! (3 ∷ []) $ split ! $ move ! (2 ∷ 1 ∷ []) $ fjoin ! $ move ! (1 ∷ 0 ∷ []) $ fjoin ! $ move ! (2 ∷ 0 ∷ []) $ fjoin ! $ move ! (1 ∷ []) $
          use1 𝓛 (raw (Way a)) (all_e 𝓤 Way a) $ move ! (1 ∷ 0 ∷ []) $
          use2 𝓛 (‵ (part_at (Struct (shape_of name members)) full_share a b o)) (apply∗ 𝓤 (sem 𝓛 (parts_at full_share members 0 a b o)) (sem 𝓛 (part_at (Struct (shape_of name members)) full_share a b o))) $
          rewrite ! 0 (λ (X : Fml). ‵ X) (made w) refl $ done !

      module _ (κ : Lft) (share : Share) (γ : GName) (within : κ ⊑ P.lives) where
        -- a borrowed struct gives its reference, borrowed on, and its second part, shared, for as long
        pub splits : ent 𝓤 (sep 𝓤 (A.obs γ (Whole.coded.code x)) (sep 𝓤 (A.bor κ (Body (mem Whole) b o γ)) (A.lft κ share))) (H.⇛ (ex 𝓤 (HasSplit κ share γ)))
        unfolding fseps
        splits =
            qed 𝓛 (‵ (fobs γ (Whole.coded.code x)) ∷ ‵ (fbor κ (Body (mem Whole) b o γ)) ∷ ‵ (flft κ share) ∷ []) ∵ updating ! $
            open_ref ! tt (mem Whole) {b = b} {o = o} $
            use1 𝓛 (‵ (All r) ⊛ raw (PartsBack 𝓛 full_share name members b o)) cut $ split ! $ fsplit ! $ move ! (1 ∷ []) $ fsplit ! $ move ! (1 ∷ []) $ fsplit ! $
            -- [the third part; nothing; the second; the reference; the way back; the open borrow; obs; auth]
            move ! (0 ∷ 4 ∷ []) $ join ! $ move ! (2 ∷ 1 ∷ []) $ fjoin ! $
            -- [the second part; the rest; the reference; the open borrow; obs; auth]
            move ! (3 ∷ 4 ∷ 5 ∷ 2 ∷ 0 ∷ 1 ∷ []) $ group ! 6 $
            use1 𝓛 (later (some (λ (γ' : GName). ‵ (fobs γ' (Ref.coded.code r)) ⊛ ‵ (fbor κ (Body (mem Ref) b (ref_at b o) γ')) ⊛ ‵ (flft κ share) ⊛ ‵ (follows Whole Ref γ γ' put) ⊛ ‵ (fbor κ Second-lies) ⊛ ‵ ftrue)))
            (takes_beside 𝓛 (mem Whole) (mem Ref) put κ share b o b (ref_at b o) γ (Second-lies ∷ []) Frame whole_again (Whole.coded.code x) (Whole.coded.code x) r) $ await ! tt $ pick ! (λ γ'. split3 ! $
            feq_i ! (List Val) (vptr b (ref_at b o) ∷ []) (vptr b (ref_at b o) ∷ []) refl $ fjoin3 ! $
            -- [the reference; token, follows, second part, nothing]
            move ! (1 ∷ []) $ split3 ! $ move ! (2 ∷ []) $ split ! $ move ! (0 ∷ 2 ∷ []) $
            use2 𝓛 (later (‵ (hidden_shr P κ p b (second_at b o)) ⊛ ‵ (flft κ share))) (laws.shares 𝓛 p κ ((κ, share) ∷ []) b (second_at b o) within (Incl-refl κ)) $ await ! tt $ split ! $
            feq_i ! (List Val) (vptr b (second_at b o) ∷ []) (vptr b (second_at b o) ∷ []) refl $ fjoin ! $
            at_once ! $ show ! (HasSplit κ share γ) γ' $ keep ! (4 ∷ 0 ∷ 1 ∷ 3 ∷ []) $ done !)
