-- A call that borrows a struct of a reference and two parts more: it hands on what another call lends of what the reference leads to, at the
-- second part. Assumes `Logic`.
use Rattle.radix_trie.proofs.Steps.{◌≡◌, refl, ℕ, suc, List, [], ◌∷◌, Ura, named, erased, mut, imm, Sym, Ty, ty_ref, ty_struct, tcons, tnil, Fn, Callee, local, value_local, seq, assign, call, return, place, deref, field, copy, addr_of, Fml, Lft, GName, Share, ftrue, flft, ent, sep, ex, emp, id⊢, Model, Closed, Logic, sem, Item, ‵, raw, ◌⊛◌, some, later, ◌$◌, ◌∵◌, !, qed, move, keep, drop, use0, use1, use2, use3, split, split3, join, fsplit3, fjoin, feq_l, pick, await, suffices, frame, done, enter, addr, stop, fld, no_more, and_then, returns, alloc_all, pass_all, free_all, look_at, get, through, sets, lands_as, Body, ◌⊑◌, Lfts, Outlives, AllOutlive, toks, fact, fact_i, Running, tables, RattleType, no, yes, follows, Is, shows, mem, param, layout, Laws, Bor, MutBor, MutRef, ShrRef, mut_vals, mut_Tells, shr_vals, plain, mut_ref_to, shr_ref_to, nothing, peeks, heard, calls_at, Clauses, Ended, Lasts, closing, lasts, Meets, triple_of, framed, Stays, stay_dropped, walk_of, ends_at, Goes-spent_ref, proved}
use Rattle.std.specs.Borrow.{LendsIf, follows_if}
use Rattle.std.specs.Option.{ghost_name_of, option_copied_mut}
use Rattle.std.specs.declared.option.Option.{Option}
use Rattle.std.specs.contracts.option.Option.{the_row as option_row}
use Rattle.std.proofs.option.Option.TheLaws.{the_row_laws as option_laws}
use Rattle.radix_nodes.proofs.LendingLemmas.Lent.{loan_through_part}
use Rattle.radix_trie.proofs.NestedLemmas.{Both, asked, ask, hear_asked}
use Rattle.radix_trie.proofs.NestedLemmas.Found.{mut_laws}
use Rattle.radix_trie.proofs.PartLemmas as parts

-- what such a call runs
abbrev pub through_parts : (outs : List (ℕ × ℕ)) (name : Sym) (τ τs τr τl τm τ₁ τ₂ : Ty) (lend : Callee) → Fn
through_parts outs name τ τs τr τl τm τ₁ τ₂ lend = record {
  lifetimes = 2;
  outlives = outs;
  ty_params = [];
  givens = 0;
  params = 1;
  locals = local τ value_local ∷ local (ty_ref (named 0) mut τs) value_local ∷ local (ty_ref erased mut τr) value_local ∷ local (ty_ref erased imm τl) value_local ∷ [];
  body = seq (assign (place 2 []) (addr_of (place 1 (deref (ty_struct name (tcons (ty_ref erased mut τm) (tcons τ₁ (tcons τ₂ tnil)))) ∷ field 0 ∷ []))))
      (seq (assign (place 3 []) (addr_of (place 1 (deref (ty_struct name (tcons (ty_ref erased mut τm) (tcons τ₁ (tcons τ₂ tnil)))) ∷ field 1 ∷ [])))) (seq (call lend (copy (place 2 []) ∷ copy (place 3 []) ∷ []) (place 0 [])) return));
}

-- Whole: the type of the struct, of whose values trie and list are the reference and the second part, and put changes the reference; R: what the reference leads to; P, Q: the types of the
-- second part and of the third; A, As: what the call asks of its lifetimes; value, with: of what the reference leads to, what stands at the second part, and what it is with a value there
module _ {M : Type 1} {𝓤 : Ura M} (𝓛 : Logic 𝓤) (𝓜 : Model 𝓤 𝓛.H) (𝓡 : Running 𝓤 𝓛.H 𝓜) (m : ℕ) (outs outs' : List (Outlives (suc (suc m)))) (V R P Q : RattleType) (LV : Laws V) (Whole : Lft → RattleType) (name : Sym)
    (trie : (α : Lft) → (Whole α).Denot → MutBor R.Denot) (list : (α : Lft) → (Whole α).Denot → P.Denot) (put : (α : Lft) → (Whole α).Denot → MutBor R.Denot → (Whole α).Denot)
    (A : Lfts (suc (suc m)) → Type 0) (As : Lfts (suc (suc m)) → List (Type 0)) (value : R.Denot → P.Denot → Option V.Denot) (with : R.Denot → P.Denot → V.Denot → R.Denot)
    (Loan : (α : Lft) → MutBor (Whole α).Denot → Option (MutBor V.Denot) → Fml) (Finds : (α : Lft) → (Whole α).Denot → Option (MutBor V.Denot) → Type 0) where
  open 𝓛 use {H, A as 𝓐}

  abbrev n : ℕ
  n = suc (suc m)

  -- the type of the struct's reference
  abbrev Ref : Lft → RattleType
  Ref α = MutRef (named 1) α R

  abbrev Lent : Lft → RattleType
  Lent κ = option_row (MutRef (named 0) κ (param 1 V))

  -- how the call ends
  abbrev whole-ends : Ended
  whole-ends = record { signature = record { lifetimes = n; outlives = outs; params = mut_ref_to (0 ∷ []) tt (plain (λ (κs : Lfts n). Whole κs.1.0)) ∷ []; result = plain (λ (κs : Lfts n). Lent κs.0) }; kept = (no, tt) }

  abbrev whole-lends : Clauses 𝓤 whole-ends
  whole-lends κs a = record { ghost = Unit {0}; requires = λ g. asked 𝓛 (A κs) (As κs); ensures = λ g u e. sep 𝓤 (sem 𝓛 (Loan κs.1.0 a.0 u)) (fact 𝓤 (Finds κs.1.0 a.0.now u)) }

  -- how the call ends that lends through the reference
  abbrev part-ends : Ended
  part-ends = record {
    signature = record { lifetimes = n; outlives = outs'; params = mut_ref_to (0 ∷ []) tt (plain (λ (κs : Lfts n). Ref κs.1.0)) ∷ shr_ref_to (0 ∷ []) tt (plain (λ (κs : Lfts n). P)) ∷ []; result = plain (λ (κs : Lfts n). Lent κs.0) };
    kept = (no, (yes, tt));
  }

  abbrev part-lends : Clauses 𝓤 part-ends
  part-lends κs a = record {
    ghost = Unit {0};
    requires = λ g. asked 𝓛 (A κs) (As κs);
    ensures = λ g u e. sep 𝓤 (sem 𝓛 (LendsIf (MutRef (named 1) [] R) (param 1 V) a.0 u (λ w. record a.0.now { now = with a.0.now.now a.1.0.now w }) a.0.now)) (fact 𝓤 (option_copied_mut u ≡ value a.0.now.now a.1.0.now));
  }

  abbrev stayed : Stays whole-ends.signature.params whole-ends.kept
  stayed = (stay_dropped (mut_ref_to (0 ∷ []) tt (plain (λ (κs : Lfts n). Whole κs.1.0))) no, tt)

  -- the reference and the second part of a borrowed struct
  abbrev ref : (α : Lft) → MutBor (Whole α).Denot → GName → MutBor (MutBor R.Denot)
  ref α r = parts.ref_of (Ref α) P Q r.ref_ptr.0 r.ref_ptr.1 (trie α r.now)

  abbrev second : (α : Lft) → MutBor (Whole α).Denot → Bor P.Denot
  second α r = parts.second_of (Ref α) P Q r.ref_ptr.0 r.ref_ptr.1 (list α r.now)

  -- the reference is borrowed on, the second part is shared, and the struct follows the reference
  abbrev pub Splits : Type 1
  Splits = (α : Lft) (r : MutBor (Whole α).Denot) (κ : Lft) (q : Share) → κ ⊑ P.lives
      → ent 𝓤 (sep 𝓤 (𝓐.obs r.ghost_name ((Whole α).coded.code r.now)) (sep 𝓤 (𝓐.bor κ (Body (mem (Whole α)) r.ref_ptr.0 r.ref_ptr.1 r.ghost_name)) (𝓐.lft κ q)))
      (H.⇛ (ex 𝓤 (λ (γ : GName). sep 𝓤 (sem 𝓛 ((MutRef (named 0) κ (Ref α)).own_val (ref α r γ) (mut_vals (ref α r γ)))) (sep 𝓤 (sem 𝓛 ((ShrRef (named 0) κ P).own_val (second α r) (shr_vals (second α r))))
      (sep 𝓤 (sem 𝓛 (flft κ q)) (sem 𝓛 (follows (Whole α) (Ref α) r.ghost_name γ (put α r.now))))))))

  pub lends_through : Splits → ((κs : Lfts n) → AllOutlive n outs κs → Both (A κs) (As κs) → κs.0 ⊑ P.lives) → ((κs : Lfts n) → AllOutlive n outs κs → AllOutlive n outs' κs)
      → ((α : Lft) (r : MutBor (Whole α).Denot) (u : Option (MutBor V.Denot))
      → ent 𝓤 (sem 𝓛 (follows_if (Whole α) (param 1 V) r.ghost_name (ghost_name_of u) (λ w. put α r.now (record (trie α r.now) { now = with (trie α r.now).now (list α r.now) w })) (put α r.now (trie α r.now)))) (sem 𝓛 (Loan α r u)))
      → ((α : Lft) (x : (Whole α).Denot) (u : Option (MutBor V.Denot)) → option_copied_mut u ≡ value (trie α x).now (list α x) → Finds α x u)
      → (bs : List (ℕ × ℕ)) (τs τr τl τm : Ty) (f lend : Callee)
      → Closed 𝓤 H (tables 𝓤 H 𝓜 𝓡 𝓡.env).C (tables 𝓤 H 𝓜 𝓡 𝓡.env).Λ f (through_parts bs name (layout (Lent [])) τs τr τl τm (layout P) (layout Q) lend)
      → Meets 𝓛 part-ends.signature ((tables 𝓤 H 𝓜 𝓡 𝓡.env).C lend) (closing 𝓛 part-ends part-lends)
      → Meets 𝓛 whole-ends.signature ((tables 𝓤 H 𝓜 𝓡 𝓡.env).C f) (closing 𝓛 whole-ends whole-lends)
  lends_through splits within bounded same tells bs τs τr τl τm f lend closed lends =
      let Vb = triple_of 𝓛 part-ends.signature (closing 𝓛 part-ends part-lends) in
      proved 𝓛 whole-ends stayed whole-lends 𝓜 𝓡 (Goes-spent_ref 𝓛 n (0 ∷ []) tt (plain (λ (κs : Lfts n). Whole κs.1.0)), tt) f (through_parts bs name (layout (Lent [])) τs τr τl τm (layout P) (layout Q) lend) closed
      (λ κs. (mut_vals, tt)) (λ κs. (mut_Tells (named 0) κs.0 (Whole κs.1.0), tt)) (λ κs qs bounds a g are.
      let κ = κs.0 in let α = κs.1.0 in let r = a.0 in let x = r.now in
      let Toks : Item 𝓤 = ‵ (flft κ qs.0) ⊛ raw (toks 𝓛 (suc m) κs.1 qs.1) in
      let W = walk_of 𝓛 whole-ends stayed whole-lends in
      let y' : W.Ghost = ((κs, qs, bounds, a, (mut_vals r, tt)), g) in
      qed 𝓛 ((Toks ⊛ ‵ ((MutRef (named 0) κ (Whole α)).own_val r (mut_vals r)) ⊛ ‵ ftrue) ∷ raw (asked 𝓛 (A κs) (As κs)) ∷ []) ∵
      move ! (1 ∷ []) $ use1 𝓛 (raw (fact 𝓤 (Both (A κs) (As κs)))) (hear_asked 𝓛 (A κs) (As κs)) $ heard ! _ (λ holds.
      split ! $ move ! (1 ∷ []) $ split ! $ keep ! (0 ∷ 2 ∷ []) $
      -- [the struct; the tokens]
      enter ! _ _ _ _ _ $ alloc_all ! (λ l. pass_all ! refl ((tt, tt), tt) $
      sets ! (addr ! (through ! refl (fld ! refl (stop !)))) refl (tt, tt) $
      sets ! (addr ! (through ! refl (fld ! refl (stop !)))) refl (tt, tt) $
      fsplit3 ! $ feq_l ! (λ _. move ! (2 ∷ []) $ split ! $ move ! (2 ∷ 3 ∷ 0 ∷ []) $
      use3 𝓛 (later (some (λ (γ : GName). ‵ ((MutRef (named 0) κ (Ref α)).own_val (ref α r γ) (mut_vals (ref α r γ))) ⊛ ‵ ((ShrRef (named 0) κ P).own_val (second α r) (shr_vals (second α r))) ⊛
      ‵ (flft κ qs.0) ⊛ ‵ (follows (Whole α) (Ref α) r.ghost_name γ (put α x))))) (splits α r κ qs.0 (within κs bounds holds)) $ await ! tt $ pick ! (λ γ.
      split3 ! $ move ! (2 ∷ []) $ split ! $ move ! (0 ∷ 4 ∷ []) $ join ! $
      -- [the tokens; how the struct follows its reference; the reference; the second part]
      let z : Vb.Ghost = ((κs, qs, bounded κs bounds, (ref α r γ, (second α r, tt)), (mut_vals (ref α r γ), (shr_vals (second α r), tt))), tt) in
      nothing ! $ move ! (4 ∷ 0 ∷ []) $ join ! $ move ! (3 ∷ 0 ∷ []) $ join ! $ move ! (1 ∷ 0 ∷ []) $ join ! $
      use0 𝓛 (raw (asked 𝓛 (A κs) (As κs))) (ask 𝓛 (A κs) (As κs) holds) $ move ! (1 ∷ 0 ∷ []) $ use2 𝓛 (raw (Vb.pre z)) (id⊢ 𝓤 _) $
      calls_at ! (framed 𝓤 H 𝓜 (tables 𝓤 H 𝓜 𝓡 𝓡.env)) Vb lends z (and_then ! (get ! refl) (and_then ! (get ! refl) (no_more !))) (λ v.
      use1 𝓛 (later (some (λ (u : Option (MutBor V.Denot)). (Toks ⊛ ‵ ((Lent κ).own_val u (v ∷ []))) ⊛ some (λ (ws : Lasts part-ends κs z.0.3). ‵ (lasts part-ends κs z.0.3 ws) ⊛
      (‵ (LendsIf (Ref α) (param 1 V) (ref α r γ) u (λ w. record (trie α x) { now = with (trie α x).now (list α x) w }) (trie α x)) ⊛ raw (fact 𝓤 (option_copied_mut u ≡ value (trie α x).now (list α x)))))))) (id⊢ 𝓤 _) $
      await ! tt $ pick ! (λ u. split ! $ split ! $ move ! (1 ∷ []) $
      peeks ! (Lent κ) (Is (Lent κ)) (shows 𝓛 (Lent κ)) u (v ∷ []) (λ is.
      lands_as ! refl refl (((option_laws (MutRef (named 0) κ (param 1 V)) (mut_laws V κ LV)).lawful 𝓛).typed u (v ∷ []) is).0 $
      returns ! (look_at ! 0 refl) $ free_all ! refl $
      move ! (2 ∷ []) $ pick ! (λ ws. split ! $ drop ! $ split ! $ move ! (1 ∷ []) $ heard ! _ (λ found.
      -- [how the reference follows the result; the result; the tokens; how the struct follows the reference]
      move ! (3 ∷ 0 ∷ []) $
      use2 𝓛 (‵ (follows_if (Whole α) (param 1 V) r.ghost_name (ghost_name_of u) (λ w. put α x (record (trie α x) { now = with (trie α x).now (list α x) w })) (put α x (trie α x))))
      (loan_through_part 𝓛 (Whole α) (Ref α) (param 1 V) (put α x) r.ghost_name γ (ghost_name_of u) (λ w. record (trie α x) { now = with (trie α x).now (list α x) w }) (trie α x)) $
      use1 𝓛 (‵ (Loan α r u)) (same α r u) $
      suffices ! _ (ends_at 𝓛 whole-ends stayed whole-lends y' v u (tt, tt) (tt, tt)) $
      move ! (1 ∷ []) $ nothing ! $ nothing ! $ fjoin ! $ join ! $ move ! (2 ∷ 0 ∷ []) $ join ! $ frame ! $
      use0 𝓛 (raw (fact 𝓤 (Finds α x u))) (fact_i 𝓤 _ (emp 𝓤) (tells α x u found)) $ move ! (1 ∷ 0 ∷ []) $ done !))))))))))
