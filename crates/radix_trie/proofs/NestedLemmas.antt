-- A call that says another call's result a second way, by a call of its own, hands on what the first one says of the borrow.
-- Assumes `Logic`.
use Rattle.radix_trie.proofs.Steps.{◌≡◌, refl, sym, subst, ℕ, List, [], ◌∷◌, T, Ura, Ty, ty_ref, Fn, Callee, local, value_local, seq, assign, call, return, place, deref, copy, addr_of, mut, imm, named, erased, Val, has_ty, Fml, ftrue, flft, SProp, ent, sep, ex, emp, id⊢, Model, Closed, Logic, sem, ‵, raw, ◌⊛◌, some, later, ◌$◌, ◌∵◌, !, qed, move, drop, use0, use1, use2, use3, split, join, pick, await, suffices, done, enter, addr, stop, no_more, and_then, returns, alloc_all, pass_all, free_all, look_at, get, through, sets, lands_as, ◌⊑◌, Lfts, Shares, Outlives, AllOutlive, fact, fact_i, Running, tables, tables_of, RattleType, no, yes, Typed, Is, shows, param, Laws, MutBor, mut_vals, mut_Tells, shr_vals, shr_Tells, plain, mut_ref_to, shr_ref_to, nothing, peeks, heard, calls_at, calls_from, Clauses, Ended, Lasts, closing, lasts, on_entry, Meets, triple_of, framed, Stays, stay_dropped, walk_of, ends_at, Goes-spent_ref, Goes-dropped, proved}
-- Where the second call says of a value that was looked for what `absent_as_none` does.
pub mod Found

-- all of some facts
abbrev pub Both : Type 0 → List (Type 0) → Type 0
Both A [] = A
Both A (B ∷ Bs) = A × Both B Bs

module _ {M : Type 1} (𝓤 : Ura M) where
  -- the same, side by side
  abbrev pub facts : Type 0 → List (Type 0) → SProp 𝓤
  facts A [] = fact 𝓤 A
  facts A (B ∷ Bs) = sep 𝓤 (fact 𝓤 A) (facts B Bs)

module _ {M : Type 1} {𝓤 : Ura M} (𝓛 : Logic 𝓤) where
  -- facts side by side are a fact
  pub hear : (A : Type 0) (Bs : List (Type 0)) → ent 𝓤 (facts 𝓤 A Bs) (fact 𝓤 (Both A Bs))
  hear A [] = qed 𝓛 (raw (fact 𝓤 A) ∷ []) ∵ done !
  hear A (B ∷ Bs) =
      qed 𝓛 (raw (fact 𝓤 A) ∷ raw (facts 𝓤 B Bs) ∷ []) ∵ heard ! _ (λ a. use1 𝓛 (raw (fact 𝓤 (Both B Bs))) (hear B Bs) $ heard ! _ (λ bs.
      use0 𝓛 (raw (fact 𝓤 (A × Both B Bs))) (fact_i 𝓤 _ (emp 𝓤) (a, bs)) $ done !))

  -- what holds can be said as facts side by side
  pub say : (A : Type 0) (Bs : List (Type 0)) → Both A Bs → ent 𝓤 (emp 𝓤) (facts 𝓤 A Bs)
  say A [] holds = fact_i 𝓤 _ (emp 𝓤) holds
  say A (B ∷ Bs) holds =
      qed 𝓛 [] ∵ use0 𝓛 (raw (facts 𝓤 B Bs)) (say B Bs holds.1) $ use0 𝓛 (raw (fact 𝓤 A)) (fact_i 𝓤 _ (emp 𝓤) holds.0) $ done !

  -- facts that hold stand beside
  abbrev pub asked : Type 0 → List (Type 0) → SProp 𝓤
  asked A [] = sep 𝓤 (fact 𝓤 A) (sem 𝓛 ftrue)
  asked A (B ∷ Bs) = sep 𝓤 (fact 𝓤 A) (asked B Bs)

  pub ask : (A : Type 0) (Bs : List (Type 0)) → Both A Bs → ent 𝓤 (emp 𝓤) (asked A Bs)
  ask A [] holds = qed 𝓛 [] ∵ nothing ! $ use0 𝓛 (raw (fact 𝓤 A)) (fact_i 𝓤 _ (emp 𝓤) holds) $ join ! $ done !
  ask A (B ∷ Bs) holds = qed 𝓛 [] ∵ use0 𝓛 (raw (asked B Bs)) (ask B Bs holds.1) $ use0 𝓛 (raw (fact 𝓤 A)) (fact_i 𝓤 _ (emp 𝓤) holds.0) $ join ! $ done !

  pub hear_asked : (A : Type 0) (Bs : List (Type 0)) → ent 𝓤 (asked A Bs) (fact 𝓤 (Both A Bs))
  hear_asked A [] = qed 𝓛 ((raw (fact 𝓤 A) ⊛ ‵ ftrue) ∷ []) ∵ split ! $ heard ! _ (λ a. drop ! $ use0 𝓛 (raw (fact 𝓤 A)) (fact_i 𝓤 _ (emp 𝓤) a) $ done !)
  hear_asked A (B ∷ Bs) = qed 𝓛 ((raw (fact 𝓤 A) ⊛ raw (asked B Bs)) ∷ []) ∵ split ! $ heard ! _ (λ a. use1 𝓛 (raw (fact 𝓤 (Both B Bs))) (hear_asked B Bs) $ heard ! _ (λ bs.
      use0 𝓛 (raw (fact 𝓤 (A × Both B Bs))) (fact_i 𝓤 _ (emp 𝓤) (a, bs)) $ done !))

  pub given : (P : SProp 𝓤) (A : Type 0) (Bs : List (Type 0)) → Both A Bs → ent 𝓤 P (sep 𝓤 P (asked A Bs))
  given P A Bs holds = qed 𝓛 (raw P ∷ []) ∵ use0 𝓛 (raw (asked A Bs)) (ask A Bs holds) $ move ! (1 ∷ 0 ∷ []) $ join ! $ done !

  -- All: all tokens; Taken: those that the second call takes; Left: the others
  module _ (All Taken Left : SProp 𝓤) where
    -- what the first call leaves
    pub first_leaves : ent 𝓤 All (sep 𝓤 Taken Left) → (own loan : Fml) (X : Type 0) (last : X → Fml) (A : Type 0) (Bs : List (Type 0))
        → ent 𝓤 (sep 𝓤 (sep 𝓤 All (sem 𝓛 own)) (ex 𝓤 (λ (ws : X). sep 𝓤 (sem 𝓛 (last ws)) (sep 𝓤 (sem 𝓛 loan) (facts 𝓤 A Bs)))))
        (sep 𝓤 (sem 𝓛 own) (sep 𝓤 Taken (sep 𝓤 Left (sep 𝓤 (sem 𝓛 loan) (fact 𝓤 (Both A Bs))))))
    first_leaves apart own loan X last A Bs =
        qed 𝓛 (((raw All ⊛ ‵ own) ⊛ some (λ (ws : X). ‵ (last ws) ⊛ ‵ loan ⊛ raw (facts 𝓤 A Bs))) ∷ []) ∵
        split ! $ move ! (1 ∷ []) $ pick ! (λ ws. split ! $ drop ! $ split ! $ move ! (1 ∷ []) $ use1 𝓛 (raw (fact 𝓤 (Both A Bs))) (hear A Bs) $ move ! (1 ∷ 0 ∷ []) $ join ! $
        move ! (1 ∷ []) $ split ! $ use1 𝓛 (raw Taken ⊛ raw Left) apart $ split ! $ move ! (1 ∷ 3 ∷ []) $ join ! $ move ! (1 ∷ 0 ∷ []) $ join ! $ move ! (1 ∷ []) $ done !)

    -- what the second call wants
    pub second_wants : (own : Fml) (R : SProp 𝓤) → ent 𝓤 (sep 𝓤 (sem 𝓛 own) (sep 𝓤 Taken R)) (sep 𝓤 (sep 𝓤 Taken (sep 𝓤 (sem 𝓛 own) (sem 𝓛 ftrue))) R)
    second_wants own R = qed 𝓛 (‵ own ∷ (raw Taken ⊛ raw R) ∷ []) ∵ nothing ! $ move ! (1 ∷ 0 ∷ []) $ join ! $ move ! (1 ∷ []) $ split ! $ move ! (0 ∷ 2 ∷ []) $ join ! $ done !

    -- what the second call leaves
    pub second_leaves : (own : Fml) (X : Type 0) (last : X → Fml) (A : Type 0)
        → ent 𝓤 (sep 𝓤 (sep 𝓤 Taken (sem 𝓛 own)) (ex 𝓤 (λ (ws : X). sep 𝓤 (sem 𝓛 (last ws)) (fact 𝓤 A)))) (sep 𝓤 (sem 𝓛 own) (sep 𝓤 Taken (fact 𝓤 A)))
    second_leaves own X last A =
        qed 𝓛 (((raw Taken ⊛ ‵ own) ⊛ some (λ (ws : X). ‵ (last ws) ⊛ raw (fact 𝓤 A))) ∷ []) ∵
        split ! $ move ! (1 ∷ []) $ pick ! (λ ws. split ! $ drop ! $ move ! (1 ∷ []) $ split ! $ move ! (0 ∷ 2 ∷ []) $ join ! $ move ! (1 ∷ []) $ done !)

    -- what both calls leave is what the contract says
    pub both_leave : ent 𝓤 (sep 𝓤 Taken Left) All → (own loan loan' : Fml) (S A B : Type 0) (Bs : List (Type 0)) → (S → ent 𝓤 (sem 𝓛 loan) (sem 𝓛 loan')) → (S → A → Both B Bs)
        → ent 𝓤 (sep 𝓤 (sem 𝓛 own) (sep 𝓤 (sep 𝓤 Taken (fact 𝓤 S)) (sep 𝓤 Left (sep 𝓤 (sem 𝓛 loan) (fact 𝓤 A)))))
        (sep 𝓤 (sep 𝓤 All (sep 𝓤 (sep 𝓤 (sem 𝓛 ftrue) (sep 𝓤 (sem 𝓛 ftrue) (sem 𝓛 ftrue))) (sem 𝓛 own))) (sep 𝓤 (sem 𝓛 loan') (facts 𝓤 B Bs)))
    both_leave whole own loan loan' S A B Bs same tells =
        qed 𝓛 (‵ own ∷ (raw Taken ⊛ raw (fact 𝓤 S)) ∷ (raw Left ⊛ ‵ loan ⊛ raw (fact 𝓤 A)) ∷ []) ∵
        move ! (1 ∷ []) $ split ! $ move ! (1 ∷ []) $ heard ! _ (λ s. move ! (2 ∷ []) $ split ! $ move ! (1 ∷ []) $ split ! $ move ! (1 ∷ []) $ heard ! _ (λ a.
        -- [the loan; the others; those taken; the result]
        use1 𝓛 (‵ loan') (same s) $ use0 𝓛 (raw (facts 𝓤 B Bs)) (say B Bs (tells s a)) $ move ! (1 ∷ 0 ∷ []) $ join ! $
        move ! (2 ∷ 1 ∷ []) $ join ! $ use1 𝓛 (raw All) whole $ move ! (2 ∷ []) $ nothing ! $ nothing ! $ join ! $ nothing ! $ join ! $ join ! $ move ! (1 ∷ 0 ∷ []) $ join ! $ done !))

-- what such a call runs: find borrows, and say says it a second way
abbrev pub handing : (outs : List (ℕ × ℕ)) (τ τ' τr τd τq : Ty) (find say_at : Callee) → Fn
handing outs τ τ' τr τd τq find say_at = record {
  lifetimes = 2;
  outlives = outs;
  ty_params = [];
  givens = 0;
  params = 2;
  locals = local τ value_local ∷ local (ty_ref (named 0) mut τr) value_local ∷ local (ty_ref (named 1) imm τq) value_local ∷ local τ' value_local ∷ local (ty_ref erased mut τr) value_local ∷ [];
  body = seq (assign (place 4 []) (addr_of (place 1 (deref τd ∷ [])))) (seq (call find (copy (place 4 []) ∷ copy (place 2 []) ∷ []) (place 3 [])) (seq (call say_at (copy (place 3 []) ∷ []) (place 0 [])) return));
}

module _ {M : Type 1} {𝓤 : Ura M} (𝓛 : Logic 𝓤) where
  -- all tokens
  abbrev pub All : Lfts 5 → Shares 5 → SProp 𝓤
  All κs qs = sep 𝓤 (sem 𝓛 (flft κs.0 qs.0)) (sep 𝓤 (sem 𝓛 (flft κs.1.0 qs.1.0)) (sep 𝓤 (sem 𝓛 (flft κs.1.1.0 qs.1.1.0))
      (sep 𝓤 (sem 𝓛 (flft κs.1.1.1.0 qs.1.1.1.0)) (sep 𝓤 (sem 𝓛 (flft κs.1.1.1.1.0 qs.1.1.1.1.0)) (sem 𝓛 ftrue)))))

-- R: what is borrowed; Q: the type of the key
module _ {M : Type 1} {𝓤 : Ura M} (𝓛 : Logic 𝓤) (outs : List (Outlives 5)) (K V Q R : RattleType) where
  abbrev Key : RattleType
  Key = param 2 Q

  -- what is said of what is borrowed, the key and the result
  abbrev pub Says : (Lfts 5 → RattleType) → Type 1 → Type 1
  Says Res X = (κs : Lfts 5) → MutBor R.Denot → Q.Denot → (Res κs).Denot → X

  -- how such a call ends, for its result
  abbrev pub ends : (Lfts 5 → RattleType) → Ended
  ends Res = record {
    signature = record { lifetimes = 5; outlives = outs; params = mut_ref_to (0 ∷ []) tt (plain (λ (κs : Lfts 5). R)) ∷ shr_ref_to (1 ∷ []) tt (plain (λ (κs : Lfts 5). Key)) ∷ []; result = plain Res };
    kept = (no, (yes, tt));
  }

  -- a contract that says what is lent, and facts
  abbrev pub lends : (Res : Lfts 5 → RattleType) → Says Res Fml → Says Res (Type 0) → Says Res (List (Type 0)) → Clauses 𝓤 (ends Res)
  lends Res Loan A As κs a = record {
    ghost = Unit {0};
    requires = λ g. sep 𝓤 (fact 𝓤 (κs.1.1.0 ⊑ K.lives)) (sep 𝓤 (fact 𝓤 (κs.1.1.1.0 ⊑ V.lives)) (sep 𝓤 (fact 𝓤 (κs.1.1.1.1.0 ⊑ Q.lives)) (sem 𝓛 ftrue)));
    ensures = λ g u e. sep 𝓤 (sem 𝓛 (Loan κs a.0 a.1.0.now u)) (facts 𝓤 (A κs a.0 a.1.0.now u) (As κs a.0 a.1.0.now u));
  }

  module _ (𝓜 : Model 𝓤 𝓛.H) (𝓡 : Running 𝓤 𝓛.H 𝓜) (Found Told : Lfts 5 → RattleType) (found_laws : (κs : Lfts 5) → Laws (Found κs)) (told_laws : (κs : Lfts 5) → Laws (Told κs))
      (Loan : Says Found Fml) (A : Says Found (Type 0)) (As : Says Found (List (Type 0)))
      (Loan' : Says Told Fml) (B : Says Told (Type 0)) (Bs : Says Told (List (Type 0)))
      (second : (κs : Lfts 5) → (Found κs).Denot → (Told κs).Denot) where
    open 𝓛 use {H}

    abbrev stayed : Stays (ends Told).signature.params (ends Told).kept
    stayed = (stay_dropped (mut_ref_to (0 ∷ []) tt (plain (λ (κs : Lfts 5). R))) no, (stay_dropped (shr_ref_to (1 ∷ []) tt (plain (λ (κs : Lfts 5). Key))) yes, tt))

    -- Found, Told: the types of the two results; Taken: the tokens that the second call takes; Left: the others
    pub hands_on : (Taken Left : Lfts 5 → Shares 5 → SProp 𝓤) → ((κs : Lfts 5) (qs : Shares 5) → ent 𝓤 (All 𝓛 κs qs) (sep 𝓤 (Taken κs qs) (Left κs qs))) → ((κs : Lfts 5) (qs : Shares 5) → ent 𝓤 (sep 𝓤 (Taken κs qs) (Left κs qs)) (All 𝓛 κs qs))
        → ((κs : Lfts 5) (a : MutBor R.Denot) (e : Q.Denot) (u : (Found κs).Denot) → ent 𝓤 (sem 𝓛 (Loan κs a e u)) (sem 𝓛 (Loan' κs a e (second κs u))))
        → ((κs : Lfts 5) (a : MutBor R.Denot) (e : Q.Denot) (u : (Found κs).Denot) → Both (A κs a e u) (As κs a e u) → Both (B κs a e (second κs u)) (Bs κs a e (second κs u)))
        → (X : (κs : Lfts 5) → (Found κs).Denot → Type 0) (last : (κs : Lfts 5) (u : (Found κs).Denot) → X κs u → Fml)
        → (bs : List (ℕ × ℕ)) (τ τ₁ τ' τr τd τq : Ty) (f find say_at : Callee) → Closed 𝓤 H (tables 𝓤 H 𝓜 𝓡 𝓡.env).C (tables 𝓤 H 𝓜 𝓡 𝓡.env).Λ f (handing bs τ τ' τr τd τq find say_at)
        → ((κs : Lfts 5) → (Found κs).mir ≡ τ₁ ∷ []) → ((v : Val) → T (has_ty τ₁ v) → T (has_ty τ' v)) → ((κs : Lfts 5) → (Told κs).mir ≡ τ ∷ [])
        → Meets 𝓛 (ends Found).signature ((tables 𝓤 H 𝓜 𝓡 𝓡.env).C find) (closing 𝓛 (ends Found) (lends Found Loan A As))
        → ((κs : Lfts 5) (qs : Shares 5) → AllOutlive 5 outs κs → κs.1.1.0 ⊑ K.lives → κs.1.1.1.0 ⊑ V.lives → (u : (Found κs).Denot) (v : Val)
        → ent 𝓤 (sep 𝓤 (Taken κs qs) (sep 𝓤 (sem 𝓛 ((Found κs).own_val u (v ∷ []))) (sem 𝓛 ftrue)))
        ((tables 𝓤 H 𝓜 𝓡 𝓡.env).C say_at (v ∷ []) (λ v₂. H.⇛ (ex 𝓤 (λ (u₂ : (Told κs).Denot). sep 𝓤 (sep 𝓤 (Taken κs qs) (sem 𝓛 ((Told κs).own_val u₂ (v₂ ∷ [])))) (ex 𝓤 (λ (ws : X κs u). sep 𝓤 (sem 𝓛 (last κs u ws)) (fact 𝓤 (u₂ ≡ second κs u)))))))))
        → Meets 𝓛 (ends Told).signature ((tables 𝓤 H 𝓜 𝓡 𝓡.env).C f) (closing 𝓛 (ends Told) (lends Told Loan' B Bs))
    hands_on Taken Left apart whole same tells X last bs τ τ₁ τ' τr τd τq f find say_at closed found_is alike told_is finds says =
        let here : Fn = handing bs τ τ' τr τd τq find say_at in
        let ended : Ended = ends Told in
        let c = lends Told Loan' B Bs in
        let Fm = triple_of 𝓛 (ends Found).signature (closing 𝓛 (ends Found) (lends Found Loan A As)) in
        proved 𝓛 ended stayed c 𝓜 𝓡 (Goes-spent_ref 𝓛 5 (0 ∷ []) tt (plain (λ (κs : Lfts 5). R)), (Goes-dropped 𝓛 5 (shr_ref_to (1 ∷ []) tt (plain (λ (κs : Lfts 5). Key))) yes (λ κs x w. refl), tt)) f here closed
        (λ κs. (mut_vals, (shr_vals, tt))) (λ κs. (mut_Tells (named 0) κs.0 R, (shr_Tells (named 1) κs.1.0 Key, tt))) (λ κs qs bounds a g are.
        let r = a.0 in let e = a.1.0.now in
        let W = walk_of 𝓛 ended stayed c in
        let y' : W.Ghost = ((κs, qs, bounds, a, (mut_vals r, (shr_vals a.1.0, tt))), g) in
        let z : Fm.Ghost = ((κs, qs, bounds, a, (mut_vals r, (shr_vals a.1.0, tt))), tt) in
        let Result₁ : Type 0 = (Found κs).Denot in
        let Result₂ : Type 0 = (Told κs).Denot in
        let all = All 𝓛 κs qs in let taken = Taken κs qs in let left = Left κs qs in
        let First = λ (u : Result₁) (v : Val). sep 𝓤 (sep 𝓤 all (sem 𝓛 ((Found κs).own_val u (v ∷ []))))
        (ex 𝓤 (λ (ws : Lasts (ends Found) κs a). sep 𝓤 (sem 𝓛 (lasts (ends Found) κs a ws)) (sep 𝓤 (sem 𝓛 (Loan κs r e u)) (facts 𝓤 (A κs r e u) (As κs r e u))))) in
        let Kept = λ (u : Result₁). sep 𝓤 left (sep 𝓤 (sem 𝓛 (Loan κs r e u)) (fact 𝓤 (Both (A κs r e u) (As κs r e u)))) in
        let Asked = λ (u : Result₁) (v : Val). sep 𝓤 taken (sep 𝓤 (sem 𝓛 ((Found κs).own_val u (v ∷ []))) (sem 𝓛 ftrue)) in
        let Second = λ (u : Result₁) (u₂ : Result₂) (v₂ : Val). sep 𝓤 (sep 𝓤 taken (sem 𝓛 ((Told κs).own_val u₂ (v₂ ∷ []))))
        (ex 𝓤 (λ (ws : X κs u). sep 𝓤 (sem 𝓛 (last κs u ws)) (fact 𝓤 (u₂ ≡ second κs u)))) in
        qed 𝓛 (raw (on_entry 𝓛 ended.signature κs qs a y'.0.4) ∷ (raw (fact 𝓤 (κs.1.1.0 ⊑ K.lives)) ⊛ raw (fact 𝓤 (κs.1.1.1.0 ⊑ V.lives)) ⊛ raw (fact 𝓤 (κs.1.1.1.1.0 ⊑ Q.lives)) ⊛ ‵ ftrue) ∷ []) ∵
        move ! (1 ∷ []) $ split ! $ heard ! _ (λ inK. split ! $ heard ! _ (λ inV. split ! $ heard ! _ (λ inQ. drop ! $
        nothing ! $ use0 𝓛 (raw (fact 𝓤 (κs.1.1.1.1.0 ⊑ Q.lives))) (fact_i 𝓤 _ (emp 𝓤) inQ) $ join ! $
        use0 𝓛 (raw (fact 𝓤 (κs.1.1.1.0 ⊑ V.lives))) (fact_i 𝓤 _ (emp 𝓤) inV) $ join ! $
        use0 𝓛 (raw (fact 𝓤 (κs.1.1.0 ⊑ K.lives))) (fact_i 𝓤 _ (emp 𝓤) inK) $ join ! $ move ! (1 ∷ 0 ∷ []) $ use2 𝓛 (raw (Fm.pre z)) (id⊢ 𝓤 _) $
        enter ! _ _ _ _ _ $ alloc_all ! (λ l. pass_all ! refl ((tt, tt), ((tt, tt), tt)) $
        sets ! (addr ! (through ! refl (stop !))) refl (tt, tt) $
        calls_at ! (framed 𝓤 H 𝓜 (tables 𝓤 H 𝓜 𝓡 𝓡.env)) Fm finds z (and_then ! (get ! refl) (and_then ! (get ! refl) (no_more !))) (λ v.
        use1 𝓛 (later (some (λ (u : Result₁). raw (First u v)))) (id⊢ 𝓤 _) $ await ! tt $ pick ! (λ u.
        use1 𝓛 (‵ ((Found κs).own_val u (v ∷ [])) ⊛ raw (sep 𝓤 taken (Kept u))) (first_leaves 𝓛 all taken left (apart κs qs) ((Found κs).own_val u (v ∷ [])) (Loan κs r e u) (Lasts (ends Found) κs a) (lasts (ends Found) κs a) (A κs r e u) (As κs r e u)) $ split ! $
        peeks ! (Found κs) (Is (Found κs)) (shows 𝓛 (Found κs)) u (v ∷ []) (λ is.
        let wt = (subst (λ (τs : List Ty). Typed τs (v ∷ [])) (found_is κs) (((found_laws κs).lawful 𝓛).typed u (v ∷ []) is)).0 in
        lands_as ! refl refl (alike v wt.0, wt.1) $
        use2 𝓛 (raw (Asked u v) ⊛ raw (Kept u)) (second_wants 𝓛 all taken left ((Found κs).own_val u (v ∷ [])) (Kept u)) $ split ! $
        calls_from ! (framed 𝓤 H 𝓜 (tables 𝓤 H 𝓜 𝓡 𝓡.env)) (raw (Asked u v)) (v ∷ []) _ (says κs qs bounds inK inV u v) (and_then ! (get ! refl) (no_more !)) (λ v₂.
        use1 𝓛 (later (some (λ (u₂ : Result₂). raw (Second u u₂ v₂)))) (id⊢ 𝓤 _) $ await ! tt $ pick ! (λ u₂.
        use1 𝓛 (‵ ((Told κs).own_val u₂ (v₂ ∷ [])) ⊛ raw (sep 𝓤 taken (fact 𝓤 (u₂ ≡ second κs u)))) (second_leaves 𝓛 all taken left ((Told κs).own_val u₂ (v₂ ∷ [])) (X κs u) (last κs u) (u₂ ≡ second κs u)) $ split ! $
        peeks ! (Told κs) (Is (Told κs)) (shows 𝓛 (Told κs)) u₂ (v₂ ∷ []) (λ is₂.
        lands_as ! refl refl (subst (λ (τs : List Ty). Typed τs (v₂ ∷ [])) (told_is κs) (((told_laws κs).lawful 𝓛).typed u₂ (v₂ ∷ []) is₂)).0 $
        returns ! (look_at ! 0 refl) $ free_all ! refl $
        suffices ! _ (ends_at 𝓛 ended stayed c y' v₂ u₂ (tt, (tt, tt)) (tt, (tt, tt))) $
        use3 𝓛 (raw (sep 𝓤 (sep 𝓤 all (sep 𝓤 (sep 𝓤 (sem 𝓛 ftrue) (sep 𝓤 (sem 𝓛 ftrue) (sem 𝓛 ftrue))) (sem 𝓛 ((Told κs).own_val u₂ (v₂ ∷ [])))))
        (sep 𝓤 (sem 𝓛 (Loan' κs r e u₂)) (facts 𝓤 (B κs r e u₂) (Bs κs r e u₂)))))
        (both_leave 𝓛 all taken left (whole κs qs) ((Told κs).own_val u₂ (v₂ ∷ [])) (Loan κs r e u) (Loan' κs r e u₂) (u₂ ≡ second κs u) (Both (A κs r e u) (As κs r e u)) (B κs r e u₂) (Bs κs r e u₂)
        (λ is. subst (λ (x : Result₂). ent 𝓤 (sem 𝓛 (Loan κs r e u)) (sem 𝓛 (Loan' κs r e x))) (sym is) (same κs r e u))
        (λ is s. subst (λ (x : Result₂). Both (B κs r e x) (Bs κs r e x)) (sym is) (tells κs r e u s))) $
        done !)))))))))))
