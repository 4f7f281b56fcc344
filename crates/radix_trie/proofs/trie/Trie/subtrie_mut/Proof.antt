-- `subtrie_mut` makes two calls: `open_mut` opens the view, and the other only says its result another way. Assumes `Logic`.
use mathlib.Core.Path.{◌≡◌, refl, subst, fun_ext}
use mathlib.Core.Option as maybe
use mathlib.Core.List.{[], ◌∷◌}
use seplogic.Ra.Ura.{Ura}
use mir.Syntax.{named, a_type, dcons, dnil}
use base.Logic.{SProp, ent, sep, via}
use base.Fml.{Fml, GName, ftrue, fex, flft}
use types.Logic.{Logic, sem}
use types.Kit.{‵, ◌⊛◌, ◌$◌, ◌∵◌, !, qed, move, split, join, fpick, rewrite, done}
use contract.Lifetimes.{Lfts, Shares}
use contract.BorrowLft.{◌⊑◌}
use denote.RattleType.{RattleType}
use denote.Follow.{follows_if, follows_by, follows_so, such_by}
use denote.Ref.{MutBor}
use denote.Param.{param, bounded, layout}
use denote.Param.Laws.{param_laws}
use denote.Triple.Clauses.{Lasts, lasts, Ended}
use Rattle.std.specs.Prelude.{IsOk, OnOk, OnErr, IfOk, IfErr, IfSome, MatchOption, Result}
use Rattle.std.specs.declared.cmp.PartialEq as eqs
use Rattle.std.specs.declared.result.Result.TheVariants.{Ok, Err}
use Rattle.std.specs.contracts.option.Option.{the_row as option_row}
use Rattle.std.specs.contracts.result.Result.{the_row as result_row}
use Rattle.std.proofs.option.Option.TheLaws.{the_row_laws as option_laws}
use Rattle.std.proofs.result.Result.TheLaws.{the_row_laws as result_laws}
use Rattle.nibble_map.specs.MapQueries.{IsFragment}
use Rattle.nibble_map.specs.Maps.{PairMap, IsPoint}
use Rattle.radix_keys.specs.contracts.nibbles.Memory.{the_row as memory_row}
use Rattle.radix_keys.specs.contracts.nibbles.NibbleVec.{the_row as list_row}
use Rattle.radix_keys.specs.declared.keys.TrieKey as keys
use Rattle.radix_keys.specs.declared.nibbles.NibbleVec.{NibbleVec}
use Rattle.radix_keys.proofs.nibbles.Memory.TheLaws.{the_row_laws as memory_laws}
use Rattle.radix_keys.proofs.nibbles.NibbleVec.TheLaws.{the_row_laws as list_laws}
use Rattle.radix_trie.specs.Lends.{closed_as_none, rests_if_err, rests_if_none, trie_row}
use Rattle.radix_trie.specs.WriteViews.{lender_of, map_behind, path_of, prefix_of}
use Rattle.radix_trie.specs.contracts.error.OpenError.{the_row as open_row}
use Rattle.radix_trie.specs.contracts.view.subtrie_mut.SubTrieMut.{the_row as view_row_of}
use Rattle.radix_trie.specs.declared.error.OpenError.{OpenError}
use Rattle.radix_trie.specs.declared.error.OpenError.TheVariants as opening
use Rattle.radix_trie.specs.declared.view.subtrie_mut.SubTrieMut.{SubTrieMut}
use Rattle.radix_trie.proofs.error.OpenError.TheLaws.{the_row_laws as open_laws}
use Rattle.radix_trie.proofs.view.subtrie_mut.SubTrieMut.TheLaws.{the_row_laws as view_laws}
use Rattle.radix_trie.proofs.NestedLemmas.{All, given, hands_on}
use Rattle.radix_trie.specs.contracts.trie.Trie.subtrie_mut as f
use Rattle.radix_trie.specs.contracts.trie.Trie.open_mut.Key as om
use Rattle.radix_trie.specs.contracts.view.opens.closed_as_none as cn
use Rattle.radix_trie.proofs.trie.Trie.open_mut.Met.{met as open_mut_met}
use Rattle.radix_trie.proofs.view.opens.closed_as_none.Met.{met as closed_as_none_met}
use Rattle.radix_trie.proofs.trie.Trie.subtrie_mut.Statement.{statement}
use Rattle.radix_trie.proofs.trie.Trie.subtrie_mut.Code as code

-- `Memory` isn't `Closed`
memory_is_not_closed : opening.Memory ≡ opening.Closed → ⊥
memory_is_not_closed e = subst IsMemory e tt
  where
    IsMemory : OpenError → Type 0
    IsMemory opening.Memory = Unit {0}
    IsMemory opening.Closed = ⊥

module _ {A : Type 0} where
  -- what holds of a view that was opened holds of it in the other result
  if_opened : (P : A → Type 0) (u : Result A OpenError) → IfOk u P → IfOk (closed_as_none u) (λ o. IfSome o P)
  if_opened P (Ok x) p = p
  if_opened P (Err opening.Memory) p = tt
  if_opened P (Err opening.Closed) p = tt

  -- a point is there exactly where a view was opened
  point_as_none : (Q : Type 0) (u : Result A OpenError) → (IsOk u → Q) → IfErr u (λ e. e ≡ opening.Closed → Q → ⊥) → IfOk (closed_as_none u) (λ o. MatchOption o (Q → ⊥) (λ _. Q))
  point_as_none Q (Ok x) point closed = point refl
  point_as_none Q (Err opening.Memory) point closed = tt
  point_as_none Q (Err opening.Closed) point closed = closed refl

  -- where a refusal can be none but `Closed`, there is none
  ok_as_none : (L : Type 0) (u : Result A OpenError) → (L → IfErr u (λ e. e ≡ opening.Closed)) → L → IsOk (closed_as_none u)
  ok_as_none L (Ok x) inline l = refl
  ok_as_none L (Err opening.Memory) inline l = absurd (memory_is_not_closed (inline l))
  ok_as_none L (Err opening.Closed) inline l = refl

module _ {M : Type 1} {𝓤 : Ura M} (𝓛 : Logic 𝓤) (R : RattleType) (γ : GName) (P : R.Denot → R.Denot → Type 0) (P₀ : R.Denot → Type 0) (v : R.Denot) where
  -- a loan that ends as what it lent ends as it
  rests_there : (γ' : GName) → ((w n : R.Denot) → P w n → n ≡ w) → ent 𝓤 (sem 𝓛 (follows_so R R γ (maybe.some γ') P P₀)) (sem 𝓛 (follows_if R R γ (maybe.some γ') (λ n. n) v))
  unfolding such_by follows_by
  rests_there γ' alike =
      qed 𝓛 (‵ (fex ((s : (R.Denot → R.Denot) × R.Denot) × ((w : R.Denot) → P w (s.0 w)) × P₀ s.1) (λ s. follows_if R R γ (maybe.some γ') s.0.0 s.0.1)) ∷ []) ∵
      fpick ! (λ s. rewrite ! 0 (λ (F : R.Denot → R.Denot). ‵ (follows_if R R γ (maybe.some γ') F v)) (fun_ext (λ w. alike w (s.0.0 w) (s.1 w))) refl $ done !)

  -- a loan of which nothing is lent is as before
  rests_here : ((n : R.Denot) → P₀ n → n ≡ v) → ent 𝓤 (sem 𝓛 (follows_so R R γ maybe.none P P₀)) (sem 𝓛 (follows_if R R γ maybe.none (λ n. n) v))
  unfolding such_by follows_by
  rests_here same =
      qed 𝓛 (‵ (fex ((s : (R.Denot → R.Denot) × R.Denot) × ((w : R.Denot) → P w (s.0 w)) × P₀ s.1) (λ s. follows_if R R γ maybe.none s.0.0 s.0.1)) ∷ []) ∵
      fpick ! (λ s. rewrite ! 0 (λ (n : R.Denot). ‵ (follows_if R R γ maybe.none (λ x. x) n)) (same s.0.1 s.2) refl $ done !)

-- the loan says the same of both results
same_loan : {M : Type 1} {𝓤 : Ura M} (𝓛 : Logic 𝓤) (K V : RattleType) (key : keys.Ghosts K.Denot) (eq : eqs.Ghosts K.Denot) (t : MutBor (PairMap K.Denot V.Denot)) (u : Result (SubTrieMut K.Denot V.Denot NibbleVec) OpenError)
    → ent 𝓤 (sem 𝓛 (rests_if_err K V key eq t u)) (sem 𝓛 (rests_if_none K V key eq t (closed_as_none u)))
same_loan 𝓛 K V key eq t (Ok x) =
    let r : Result (SubTrieMut K.Denot V.Denot NibbleVec) OpenError = Ok x in
    rests_there 𝓛 (trie_row K V key eq) t.ghost_name (λ w n. OnOk r (n ≡ w)) (λ n. OnErr r (n ≡ t.now)) t.now (lender_of x) (λ w n same. same)
same_loan 𝓛 K V key eq t (Err opening.Memory) =
    let r : Result (SubTrieMut K.Denot V.Denot NibbleVec) OpenError = Err opening.Memory in
    rests_here 𝓛 (trie_row K V key eq) t.ghost_name (λ w n. OnOk r (n ≡ w)) (λ n. OnErr r (n ≡ t.now)) t.now (λ n same. same)
same_loan 𝓛 K V key eq t (Err opening.Closed) =
    let r : Result (SubTrieMut K.Denot V.Denot NibbleVec) OpenError = Err opening.Closed in
    rests_here 𝓛 (trie_row K V key eq) t.ghost_name (λ w n. OnOk r (n ≡ w)) (λ n. OnErr r (n ≡ t.now)) t.now (λ n same. same)

module _ {M : Type 1} {𝓤 : Ura M} (𝓛 : Logic 𝓤) (κs : Lfts 5) (qs : Shares 5) where
  abbrev t₀ : Fml
  t₀ = flft κs.0 qs.0

  abbrev t₁ : Fml
  t₁ = flft κs.1.0 qs.1.0

  abbrev t₂ : Fml
  t₂ = flft κs.1.1.0 qs.1.1.0

  abbrev t₃ : Fml
  t₃ = flft κs.1.1.1.0 qs.1.1.1.0

  abbrev t₄ : Fml
  t₄ = flft κs.1.1.1.1.0 qs.1.1.1.1.0

  -- the tokens that the second call takes
  abbrev Taken : SProp 𝓤
  Taken = sep 𝓤 (sem 𝓛 t₀) (sep 𝓤 (sem 𝓛 t₂) (sep 𝓤 (sem 𝓛 t₃) (sem 𝓛 ftrue)))

  -- the others
  abbrev Left : SProp 𝓤
  Left = sep 𝓤 (sem 𝓛 t₁) (sem 𝓛 t₄)

  apart : ent 𝓤 (All 𝓛 κs qs) (sep 𝓤 Taken Left)
  apart =
      qed 𝓛 ((‵ t₀ ⊛ ‵ t₁ ⊛ ‵ t₂ ⊛ ‵ t₃ ⊛ ‵ t₄ ⊛ ‵ ftrue) ∷ []) ∵ split ! $ move ! (1 ∷ []) $ split ! $ move ! (1 ∷ []) $ split ! $ move ! (1 ∷ []) $ split ! $ move ! (1 ∷ []) $ split ! $
      -- [t₄; nothing; t₃; t₂; t₁; t₀]
      move ! (4 ∷ 0 ∷ []) $ join ! $ move ! (2 ∷ 1 ∷ []) $ join ! $ move ! (2 ∷ 0 ∷ []) $ join ! $ move ! (2 ∷ 0 ∷ []) $ join ! $ done !

  whole : ent 𝓤 (sep 𝓤 Taken Left) (All 𝓛 κs qs)
  whole =
      qed 𝓛 ((‵ t₀ ⊛ ‵ t₂ ⊛ ‵ t₃ ⊛ ‵ ftrue) ∷ (‵ t₁ ⊛ ‵ t₄) ∷ []) ∵ split ! $ move ! (1 ∷ []) $ split ! $ move ! (1 ∷ []) $ split ! $ move ! (4 ∷ []) $ split ! $
      -- [t₁; t₄; t₃; nothing; t₂; t₀]
      move ! (1 ∷ 3 ∷ []) $ join ! $ move ! (2 ∷ 0 ∷ []) $ join ! $ move ! (2 ∷ 0 ∷ []) $ join ! $ move ! (1 ∷ 0 ∷ []) $ join ! $ move ! (1 ∷ 0 ∷ []) $ join ! $ done !

pub subtrie_mut_spec : {M : Type 1} → statement M
subtrie_mut_spec 𝓤 𝓛 𝓜 𝓡 wired K V Q LK LV LQ key d equal d' eq d'' key₂ d₂ equal₂ d₂' eq₂ d₂'' met met' met'' met₂ met₂' met₂'' =
    let args = bounded (a_type ∷ a_type ∷ a_type ∷ []) (K, (V, (Q, tt))) (dcons d (dcons d' (dcons d'' (dcons d₂ (dcons d₂' (dcons d₂'' dnil)))))) in
    let View = λ (κs : Lfts 5). view_row_of (record { mir = named 0; lft = κs.0 }) (param 0 K) (param 1 V) list_row key eq in
    let laws = λ (κs : Lfts 5). view_laws (record { mir = named 0; lft = κs.0 }) (param 0 K) (param 1 V) list_row key eq (param_laws 0 K LK) (param_laws 1 V LV) list_laws in
    let Opened = λ (κs : Lfts 5). result_row (View κs) open_row in
    let Told = λ (κs : Lfts 5). result_row (option_row (View κs)) memory_row in
    let Map = λ (r : MutBor (PairMap K.Denot V.Denot)) (v : SubTrieMut K.Denot V.Denot NibbleVec). map_behind v ≡ r.now in
    let Path = λ (e : Q.Denot) (v : SubTrieMut K.Denot V.Denot NibbleVec). path_of v ≡ key₂.encoding e in
    let Prefix = λ (r : MutBor (PairMap K.Denot V.Denot)) (e : Q.Denot) (v : SubTrieMut K.Denot V.Denot NibbleVec). IsFragment r.now (key₂.encoding e) (prefix_of v) in
    let Same = λ (r : MutBor (PairMap K.Denot V.Denot)) (v : SubTrieMut K.Denot V.Denot NibbleVec). lender_of v ≡ r.ghost_name in
    let Point = λ (r : MutBor (PairMap K.Denot V.Denot)) (e : Q.Denot). IsPoint r.now (key₂.encoding e) in
    let none : Lfts 5 = ([], ([], ([], ([], ([], tt))))) in
    let cn-ended : Ended = cn.ended K V key d equal d' eq d'' in
    hands_on 𝓛 (f.signature K V Q key d equal d' eq d'' key₂ d₂ equal₂ d₂' eq₂ d₂'').outlives K V Q (trie_row (param 0 K) (param 1 V) key eq) 𝓜 𝓡 Opened Told
    (λ κs. result_laws (View κs) open_row (laws κs) open_laws) (λ κs. result_laws (option_row (View κs)) memory_row (option_laws (View κs) (laws κs)) memory_laws)
    (λ κs r e u. rests_if_err (param 0 K) (param 1 V) key eq r u) (λ κs r e u. IfOk u (Map r))
    (λ κs r e u. IfOk u (Path e) ∷ IfOk u (Prefix r e) ∷ IfOk u (Same r) ∷ (IsOk u → Point r e) ∷ IfErr u (λ x. x ≡ opening.Closed → Point r e → ⊥) ∷ (key₂.is_inline e → IfErr u (λ x. x ≡ opening.Closed)) ∷ [])
    (λ κs r e u. rests_if_none (param 0 K) (param 1 V) key eq r u) (λ κs r e u. IfOk u (λ o. IfSome o (Map r)))
    (λ κs r e u. IfOk u (λ o. IfSome o (Path e)) ∷ IfOk u (λ o. IfSome o (Prefix r e)) ∷ IfOk u (λ o. IfSome o (Same r)) ∷ IfOk u (λ o. MatchOption o (Point r e → ⊥) (λ _. Point r e)) ∷ (key₂.is_inline e → IsOk u) ∷ [])
    (λ κs. closed_as_none) (Taken 𝓛) (Left 𝓛) (apart 𝓛) (whole 𝓛) (λ κs r e u. same_loan 𝓛 (param 0 K) (param 1 V) key eq r u)
    (λ κs r e u s. (
      if_opened (Map r) u s.0,
      (
        if_opened (Path e) u s.1.0,
        (
          if_opened (Prefix r e) u s.1.1.0,
          (
            if_opened (Same r) u s.1.1.1.0,
            (point_as_none (Point r e) u s.1.1.1.1.0 s.1.1.1.1.1.0, ok_as_none (key₂.is_inline e) u s.1.1.1.1.1.1),
          ),
        ),
      ),
    ))
    (λ κs u. Lasts cn-ended (κs.0, (κs.1.1.0, (κs.1.1.1.0, tt))) (u, tt)) (λ κs u. lasts cn-ended (κs.0, (κs.1.1.0, (κs.1.1.1.0, tt))) (u, tt))
    _ (layout (Told none)) (layout (Opened none)) _ _ (layout (trie_row (param 0 K) (param 1 V) key eq)) _
    (f.Key.name args) (om.name args) (cn.Key.name (bounded (a_type ∷ a_type ∷ []) (K, (V, tt)) (dcons d (dcons d' (dcons d'' dnil)))))
    (code.unfolded 𝓤 𝓛.H 𝓜 𝓡 wired (K, (V, (Q, tt))) d d' d'' d₂ d₂' d₂'') (λ κs. refl) (λ v typed. typed) (λ κs. refl)
    (open_mut_met 𝓤 𝓛 𝓜 𝓡 (code.calls-radix_trie::trie::Trie::open_mut 𝓡.env wired) K V Q LK LV LQ key d equal d' eq d'' key₂ d₂ equal₂ d₂' eq₂ d₂'' met met' met'' met₂ met₂' met₂'')
    (λ κs qs bounds inK inV u v. via 𝓤 _ (given 𝓛 _ (κs.1.1.0 ⊑ K.lives) ((κs.1.1.1.0 ⊑ V.lives) ∷ []) (inK, inV))
    (closed_as_none_met 𝓤 𝓛 𝓜 𝓡 (code.calls-radix_trie::view::opens::closed_as_none 𝓡.env wired) K V LK LV key d equal d' eq d'' met met' met''
    (((κs.0, (κs.1.1.0, (κs.1.1.1.0, tt))), (qs.0, (qs.1.1.0, (qs.1.1.1.0, tt))), (bounds.0, (bounds.1.0, tt)), (u, tt), (v ∷ [], tt)), tt)))
