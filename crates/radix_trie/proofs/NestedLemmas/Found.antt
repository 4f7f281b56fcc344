-- A call that looks for a value, for writing, and says by `None` what another call says by `Absent`. Assumes `Logic`.
use Rattle.radix_trie.proofs.Steps.{◌≡◌, refl, sym, subst, ℕ, List, [], ◌∷◌, T, Ura, Ty, named, Callee, Val, has_ty, Fml, Lft, ftrue, flft, SProp, ent, sep, via, id⊢, Model, Closed, Logic, sem, ‵, ◌⊛◌, ◌$◌, ◌∵◌, !, qed, move, split, join, done, ◌⊑◌, Lfts, Outlives, fact, Running, tables, RattleType, no, param, layout, Laws, of_field, row_shared, param_laws, mut_ref_shared, NamedLft, MutBor, MutRef, plain, mut_ref_field, mut_ref_laws, Clauses, Ended, Lasts, closing, lasts, Meets}
use Rattle.std.specs.Prelude.{IsOk, IfOk, IfErr, Option, Result, Some, None}
use Rattle.std.specs.Borrow.{LendsIfOk, follows_if}
use Rattle.std.specs.Option.{option_copied_mut}
use Rattle.std.specs.declared.result.Result.TheVariants.{Ok, Err}
use Rattle.std.specs.contracts.option.Option.{the_row as option_row}
use Rattle.std.specs.contracts.result.Result.{the_row as result_row}
use Rattle.std.proofs.option.Option.TheLaws.{the_row_laws as option_laws}
use Rattle.std.proofs.result.Result.TheLaws.{the_row_laws as result_laws}
use Rattle.radix_keys.specs.contracts.nibbles.Memory.{the_row as memory_row}
use Rattle.radix_keys.specs.declared.nibbles.Memory.{Memory}
use Rattle.radix_keys.proofs.nibbles.Memory.TheLaws.{the_row_laws as memory_laws}
use Rattle.radix_trie.specs.Lends.{absent_as_none, name_if_found}
use Rattle.radix_trie.specs.contracts.error.FindError.{the_row as find_row}
use Rattle.radix_trie.specs.declared.error.FindError.{FindError}
use Rattle.radix_trie.specs.declared.error.FindError.TheVariants as find
use Rattle.radix_trie.proofs.error.FindError.TheLaws.{the_row_laws as find_laws}
use Rattle.radix_trie.proofs.NestedLemmas.{Both, Says, ends, lends, given, handing, hands_on}

-- a mutable reference to a lawful type is lawful
pub mut_laws : (V : RattleType) (κ : Lft) → Laws V → Laws (MutRef (named 0) κ (param 1 V))
mut_laws V κ LV =
    let at : NamedLft = record { mir = named 0; lft = κ } in
    of_field (mut_ref_field at (param 1 V) tt) (mut_ref_laws at (param 1 V) tt) refl (mut_ref_shared at (param 1 V) tt (row_shared (param 1 V) (param_laws 1 V LV)))

-- `Memory` isn't `Absent`
memory_is_not_absent : find.Memory ≡ find.Absent → ⊥
memory_is_not_absent e = subst IsMemory e tt
  where
    IsMemory : FindError → Type 0
    IsMemory find.Memory = Unit {0}
    IsMemory find.Absent = ⊥

module _ {V : Type 0} where
  -- what was found, as `None` says it
  found_as_none : (w : Option V) (u : Result (MutBor V) FindError) → IfOk u (λ x. w ≡ Some x.now) → IfErr u (λ e. e ≡ find.Absent → w ≡ None) → IfOk (absent_as_none u) (λ found. option_copied_mut found ≡ w)
  found_as_none w (Ok x) is none = sym is
  found_as_none w (Err find.Memory) is none = tt
  found_as_none w (Err find.Absent) is none = sym (none refl)

  -- where a refusal can be none but `Absent`, there is none
  ok_as_none : (L : Type 0) (u : Result (MutBor V) FindError) → (L → IfErr u (λ e. e ≡ find.Absent)) → L → IsOk (absent_as_none u)
  ok_as_none L (Ok x) inline l = refl
  ok_as_none L (Err find.Memory) inline l = absurd (memory_is_not_absent (inline l))
  ok_as_none L (Err find.Absent) inline l = refl

  -- where one of Ls holds, a refusal can be none but `Absent`
  abbrev pub refused_as_absent : List (Type 0) → Result (MutBor V) FindError → List (Type 0)
  refused_as_absent [] u = []
  refused_as_absent (L ∷ Ls) u = (L → IfErr u (λ e. e ≡ find.Absent)) ∷ refused_as_absent Ls u

  -- where one of Ls holds, nothing is refused
  abbrev pub not_refused : List (Type 0) → Result (Option (MutBor V)) Memory → List (Type 0)
  not_refused [] u = []
  not_refused (L ∷ Ls) u = (L → IsOk u) ∷ not_refused Ls u

  all_as_none : (A B : Type 0) (Ls : List (Type 0)) (u : Result (MutBor V) FindError) → (A → B) → Both A (refused_as_absent Ls u) → Both B (not_refused Ls (absent_as_none u))
  all_as_none A B [] u f s = f s
  all_as_none A B (L ∷ Ls) u f s = (f s.0, all_as_none (L → IfErr u (λ e. e ≡ find.Absent)) (L → IsOk (absent_as_none u)) Ls u (ok_as_none L u) s.1)

-- the loan says the same of both results
same_loan : {M : Type 1} {𝓤 : Ura M} (𝓛 : Logic 𝓤) (R V : RattleType) (t : MutBor R.Denot) (put : V.Denot → R.Denot) (u : Result (MutBor V.Denot) FindError)
    → ent 𝓤 (sem 𝓛 (LendsIfOk R V t u put t.now)) (sem 𝓛 (follows_if R V t.ghost_name (name_if_found (λ x. x.ghost_name) (absent_as_none u)) put t.now))
same_loan {𝓤 = 𝓤} 𝓛 R V t put (Ok x) = id⊢ 𝓤 _
same_loan {𝓤 = 𝓤} 𝓛 R V t put (Err find.Memory) = id⊢ 𝓤 _
same_loan {𝓤 = 𝓤} 𝓛 R V t put (Err find.Absent) = id⊢ 𝓤 _

module _ {M : Type 1} {𝓤 : Ura M} (𝓛 : Logic 𝓤) (t₀ t₁ t₂ t₃ t₄ : Fml) where
  abbrev Taken : SProp 𝓤
  Taken = sep 𝓤 (sem 𝓛 t₀) (sep 𝓤 (sem 𝓛 t₃) (sem 𝓛 ftrue))

  abbrev Left : SProp 𝓤
  Left = sep 𝓤 (sem 𝓛 t₁) (sep 𝓤 (sem 𝓛 t₂) (sem 𝓛 t₄))

  abbrev Whole : SProp 𝓤
  Whole = sep 𝓤 (sem 𝓛 t₀) (sep 𝓤 (sem 𝓛 t₁) (sep 𝓤 (sem 𝓛 t₂) (sep 𝓤 (sem 𝓛 t₃) (sep 𝓤 (sem 𝓛 t₄) (sem 𝓛 ftrue)))))

  apart : ent 𝓤 Whole (sep 𝓤 Taken Left)
  apart =
      qed 𝓛 ((‵ t₀ ⊛ ‵ t₁ ⊛ ‵ t₂ ⊛ ‵ t₃ ⊛ ‵ t₄ ⊛ ‵ ftrue) ∷ []) ∵ split ! $ move ! (1 ∷ []) $ split ! $ move ! (1 ∷ []) $ split ! $ move ! (1 ∷ []) $ split ! $ move ! (1 ∷ []) $ split ! $
      -- [t₄; nothing; t₃; t₂; t₁; t₀]
      move ! (3 ∷ 0 ∷ []) $ join ! $ move ! (3 ∷ 0 ∷ []) $ join ! $ move ! (2 ∷ 1 ∷ []) $ join ! $ move ! (2 ∷ 0 ∷ []) $ join ! $ done !

  whole : ent 𝓤 (sep 𝓤 Taken Left) Whole
  whole =
      qed 𝓛 ((‵ t₀ ⊛ ‵ t₃ ⊛ ‵ ftrue) ∷ (‵ t₁ ⊛ ‵ t₂ ⊛ ‵ t₄) ∷ []) ∵ split ! $ move ! (1 ∷ []) $ split ! $ move ! (3 ∷ []) $ split ! $ move ! (1 ∷ []) $ split ! $
      -- [t₂; t₄; t₁; t₃; nothing; t₀]
      move ! (1 ∷ 4 ∷ []) $ join ! $ move ! (3 ∷ 0 ∷ []) $ join ! $ move ! (1 ∷ 0 ∷ []) $ join ! $ move ! (1 ∷ 0 ∷ []) $ join ! $ move ! (1 ∷ 0 ∷ []) $ join ! $ done !

-- K and V are borrowed for as long as what is looked in, and Q for as long as the key
abbrev outs : List (Outlives 5)
outs = record { long = 2; long_ok = tt; short = named 0; short_ok = tt } ∷ record { long = 3; long_ok = tt; short = named 0; short_ok = tt } ∷ record { long = 4; long_ok = tt; short = named 1; short_ok = tt } ∷ []

-- R: what is looked in; Q: the type of the key; of it, value: what it holds at a key, put: it with a value there, lights: where nothing is refused for memory
module _ {M : Type 1} {𝓤 : Ura M} (𝓛 : Logic 𝓤) (𝓜 : Model 𝓤 𝓛.H) (𝓡 : Running 𝓤 𝓛.H 𝓜) (K V Q R : RattleType) (LV : Laws V)
    (value : R.Denot → Q.Denot → Option V.Denot) (put : R.Denot → Q.Denot → V.Denot → R.Denot) (inlines : Q.Denot → List (Type 0)) where
  open 𝓛 use {H}

  abbrev Ref : Lft → RattleType
  Ref κ = MutRef (named 0) κ (param 1 V)

  abbrev Found : Lfts 5 → RattleType
  Found κs = result_row (Ref κs.0) find_row

  abbrev Told : Lfts 5 → RattleType
  Told κs = result_row (option_row (Ref κs.0)) memory_row

  abbrev Loan : Says 𝓛 outs K V Q R Found Fml
  Loan κs r e u = LendsIfOk R (param 1 V) r u (put r.now e) r.now

  abbrev Loan' : Says 𝓛 outs K V Q R Told Fml
  Loan' κs r e u = follows_if R (param 1 V) r.ghost_name (name_if_found (λ x. x.ghost_name) u) (put r.now e) r.now

  abbrev A : Says 𝓛 outs K V Q R Found (Type 0)
  A κs r e u = IfOk u (λ x. value r.now e ≡ Some x.now)

  abbrev As : Says 𝓛 outs K V Q R Found (List (Type 0))
  As κs r e u = IfErr u (λ x. x ≡ find.Absent → value r.now e ≡ None) ∷ refused_as_absent (inlines e) u

  abbrev B : Says 𝓛 outs K V Q R Told (Type 0)
  B κs r e u = IfOk u (λ found. option_copied_mut found ≡ value r.now e)

  abbrev Bs : Says 𝓛 outs K V Q R Told (List (Type 0))
  Bs κs r e u = not_refused (inlines e) u

  -- what finds the value
  abbrev finding : Clauses 𝓤 (ends 𝓛 outs K V Q R Found)
  finding = lends 𝓛 outs K V Q R Found Loan A As

  -- what says it by `None`
  abbrev telling : Clauses 𝓤 (ends 𝓛 outs K V Q R Told)
  telling = lends 𝓛 outs K V Q R Told Loan' B Bs

  -- the call that says a result by `None`
  abbrev says : Ended
  says = record {
    signature = record {
      lifetimes = 2;
      outlives = record { long = 1; long_ok = tt; short = named 0; short_ok = tt } ∷ [];
      params = plain (λ (κs : Lfts 2). result_row (MutRef (named 0) κs.0 (param 0 V)) find_row) ∷ [];
      result = plain (λ (κs : Lfts 2). result_row (option_row (MutRef (named 0) κs.0 (param 0 V))) memory_row);
    };
    kept = (no, tt);
  }

  abbrev said : Clauses 𝓤 says
  said κs a = record { ghost = Unit {0}; requires = λ g. sep 𝓤 (fact 𝓤 (κs.1.0 ⊑ V.lives)) (sem 𝓛 ftrue); ensures = λ g u e. fact 𝓤 (u ≡ absent_as_none a.0) }

  pub finds_as_none : (bs : List (ℕ × ℕ)) (τ' τr τq : Ty) (f find_at say_at : Callee)
      → Closed 𝓤 H (tables 𝓤 H 𝓜 𝓡 𝓡.env).C (tables 𝓤 H 𝓜 𝓡 𝓡.env).Λ f (handing bs (layout (Told ([], ([], ([], ([], ([], tt))))))) τ' τr (layout R) τq find_at say_at)
      → ((v : Val) → T (has_ty (layout (Found ([], ([], ([], ([], ([], tt))))))) v) → T (has_ty τ' v))
      → Meets 𝓛 (ends 𝓛 outs K V Q R Found).signature ((tables 𝓤 H 𝓜 𝓡 𝓡.env).C find_at) (closing 𝓛 (ends 𝓛 outs K V Q R Found) finding)
      → Meets 𝓛 says.signature ((tables 𝓤 H 𝓜 𝓡 𝓡.env).C say_at) (closing 𝓛 says said)
      → Meets 𝓛 (ends 𝓛 outs K V Q R Told).signature ((tables 𝓤 H 𝓜 𝓡 𝓡.env).C f) (closing 𝓛 (ends 𝓛 outs K V Q R Told) telling)
  finds_as_none bs τ' τr τq f find_at say_at closed alike finds says_it =
      hands_on 𝓛 outs K V Q R 𝓜 𝓡 Found Told (λ κs. result_laws (Ref κs.0) find_row (mut_laws V κs.0 LV) find_laws) (λ κs. result_laws (option_row (Ref κs.0)) memory_row (option_laws (Ref κs.0) (mut_laws V κs.0 LV)) memory_laws)
      Loan A As Loan' B Bs (λ κs. absent_as_none)
      (λ κs qs. Taken 𝓛 (flft κs.0 qs.0) (flft κs.1.0 qs.1.0) (flft κs.1.1.0 qs.1.1.0) (flft κs.1.1.1.0 qs.1.1.1.0) (flft κs.1.1.1.1.0 qs.1.1.1.1.0))
      (λ κs qs. Left 𝓛 (flft κs.0 qs.0) (flft κs.1.0 qs.1.0) (flft κs.1.1.0 qs.1.1.0) (flft κs.1.1.1.0 qs.1.1.1.0) (flft κs.1.1.1.1.0 qs.1.1.1.1.0))
      (λ κs qs. apart 𝓛 (flft κs.0 qs.0) (flft κs.1.0 qs.1.0) (flft κs.1.1.0 qs.1.1.0) (flft κs.1.1.1.0 qs.1.1.1.0) (flft κs.1.1.1.1.0 qs.1.1.1.1.0))
      (λ κs qs. whole 𝓛 (flft κs.0 qs.0) (flft κs.1.0 qs.1.0) (flft κs.1.1.0 qs.1.1.0) (flft κs.1.1.1.0 qs.1.1.1.0) (flft κs.1.1.1.1.0 qs.1.1.1.1.0))
      (λ κs r e u. same_loan 𝓛 R (param 1 V) r (put r.now e) u)
      (λ κs r e u s. all_as_none (IfErr u (λ x. x ≡ find.Absent → value r.now e ≡ None)) (B κs r e (absent_as_none u)) (inlines e) u (found_as_none (value r.now e) u s.0) s.1)
      (λ κs u. Lasts says (κs.0, (κs.1.1.1.0, tt)) (u, tt)) (λ κs u. lasts says (κs.0, (κs.1.1.1.0, tt)) (u, tt))
      bs (layout (Told ([], ([], ([], ([], ([], tt))))))) (layout (Found ([], ([], ([], ([], ([], tt))))))) τ' τr (layout R) τq f find_at say_at closed (λ κs. refl) alike (λ κs. refl) finds
      (λ κs qs bounds inK inV u v. via 𝓤 _ (given 𝓛 _ (κs.1.1.1.0 ⊑ V.lives) [] inV)
      (says_it (((κs.0, (κs.1.1.1.0, tt)), (qs.0, (qs.1.1.1.0, tt)), (bounds.1.0, tt), (u, tt), (v ∷ [], tt)), tt)))
