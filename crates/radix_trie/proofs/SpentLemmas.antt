-- A view for writing that is spent, by two calls: one takes it apart, and the other reads what its trie stores. Assumes `Logic`.
use Rattle.radix_trie.proofs.Steps.{◌≡◌, refl, sym, ap, subst, ◌∙◌, ℕ, List, [], ◌∷◌, ◌++◌, T, Ura, Ty, ty_ref, ty_struct, tcons, tnil, Fn, Callee, local, value_local, seq, assign, call, return, place, deref, field, copy, rv_opd, addr_of, mut, named, erased, Val, WT, has_ty, vptr, vstruct, of_list, Fml, Lft, GName, ftrue, flft, fsep, SProp, ent, sep, ex, emp, id⊢, Model, WpFn, Closed, Logic, sem, ‵, raw, ◌⊛◌, some, later, ◌$◌, ◌∵◌, !, qed, move, drop, use0, use1, use2, split, join, fsplit, fjoin, fpick, feq_l, pick, await, rewrite, show, suffices, updating, at_once, done, enter, of_opd, addr, from, stop, fld, hop, no_more, and_then, returns, whole, sub, alloc_all, pass_all, free_all, look_at, look_in_at, get, get_in, sets, lands_as, ◌⊑◌, Lfts, Outlives, fact, fact_i, Running, tables, no, RattleType, Typed, Is, shows, layout, param, Laws, of_field, row_shared, param_laws, mut_ref_shared, NamedLft, MutBor, MutRef, mut_vals, mut_Tells, plain, mut_ref_to, named_lft, nothing, peeks, heard, only, mut_ref_field, mut_ref_laws, Tuple, tuple_laws, tuple_name, calls_at, Clauses, Ended, Lasts, closing, lasts, on_entry, Meets, triple_of, framed, Stays, stay_dropped, walk_of, ends_at, proved_at}
use Rattle.std.specs.Prelude.{Option}
use Rattle.std.specs.declared.cmp.PartialEq as eqs
use Rattle.std.specs.contracts.option.Option.{the_row as option_row}
use Rattle.std.proofs.option.Option.TheLaws.{the_row_laws as option_laws}
use Rattle.radix_keys.specs.declared.keys.TrieKey as keys
use Rattle.radix_trie.specs.Lends.{stays_as, trie_row}
use Rattle.radix_trie.specs.WriteViews.{kept_path, lender_of, map_behind}
use Rattle.radix_trie.specs.contracts.view.subtrie_mut.SubTrieMut.{the_row as view_row}
use Rattle.radix_trie.proofs.trie.Trie.TheLaws.{the_row_laws as trie_laws}
use Rattle.radix_trie.proofs.view.subtrie_mut.SubTrieMut.TheLaws.{the_row_laws as view_laws}
use Rattle.radix_trie.proofs.NestedLemmas.{Both, facts, hear}

-- a value of one machine type is one machine value
pub single : (τ : Ty) (vs : List Val) → Typed (τ ∷ []) vs → (v : Val) × (vs ≡ v ∷ []) × (T (has_ty τ v) × WT v)
single τ [] t = absurd t
single τ (v ∷ []) t = (v, refl, t.0)
single τ (v ∷ w ∷ vs) t = absurd t.1

module _ {M : Type 1} {𝓤 : Ura M} (𝓛 : Logic 𝓤) (κ : Lft) (R P : RattleType) (one : P.mir ≡ layout P ∷ []) (ref_laws : Laws (MutRef (named 0) κ R)) (LP : Laws P) where
  abbrev pub Pair : RattleType
  Pair = Tuple (MutRef (named 0) κ R ∷ P ∷ [])

  abbrev pub pair_laws : Laws Pair
  pair_laws = tuple_laws (MutRef (named 0) κ R ∷ P ∷ []) (ref_laws, (LP, tt))

  -- the pair, as the machine has it
  abbrev pub paired : MutBor R.Denot × P.Denot → Val → Val
  paired u w = vstruct (of_list (vptr u.0.ref_ptr.0 u.0.ref_ptr.1 ∷ w ∷ []))

  -- what is known of the two machine values
  abbrev pub Known : MutBor R.Denot × P.Denot → Val → Val → Type 0
  Known u v w = (v ≡ paired u w) × (T (has_ty (layout P) w) × WT w) × (T (has_ty (layout Pair) v) × WT v)

  -- a reference and a path that come as a pair are two
  pub two : (u : MutBor R.Denot × P.Denot) (v : Val)
      → ent 𝓤 (sem 𝓛 (Pair.own_val u (v ∷ []))) (ex 𝓤 (λ (w : Val). sep 𝓤 (fact 𝓤 (Known u v w)) (sep 𝓤 (sem 𝓛 ((MutRef (named 0) κ R).own_val u.0 (mut_vals u.0))) (sep 𝓤 (sem 𝓛 (P.own_val u.1 (w ∷ []))) (sem 𝓛 ftrue)))))
  two u v =
      qed 𝓛 (‵ (Pair.own_val u (v ∷ [])) ∷ []) ∵ peeks ! Pair (Is Pair) (shows 𝓛 Pair) u (v ∷ []) (λ is. fpick ! (λ vss. fsplit ! $ feq_l ! (λ e. fsplit ! $
      peeks ! (MutRef (named 0) κ R) (Is (MutRef (named 0) κ R)) (shows 𝓛 (MutRef (named 0) κ R)) u.0 vss.0 (λ is₀. move ! (1 ∷ []) $ fsplit ! $
      peeks ! P (Is P) (shows 𝓛 P) u.1 vss.1.0 (λ is₁.
      let s = single (layout P) vss.1.0 (subst (λ (τs : List Ty). Typed τs vss.1.0) one ((LP.lawful 𝓛).typed u.1 vss.1.0 is₁)) in
      let first = mut_Tells (named 0) κ R u.0 vss.0 is₀ in
      let whole = ap only e ∙ ap (λ (us : List Val). vstruct (of_list (us ++ (vss.1.0 ++ [])))) first ∙ ap (λ (us : List Val). vstruct (of_list (mut_vals u.0 ++ (us ++ [])))) s.1 in
      rewrite ! 0 (λ (us : List Val). ‵ (P.own_val u.1 us)) s.1 refl $ join ! $ move ! (1 ∷ []) $ rewrite ! 0 (λ (us : List Val). ‵ ((MutRef (named 0) κ R).own_val u.0 us)) first refl $ join ! $
      use0 𝓛 (raw (fact 𝓤 (Known u v s.0))) (fact_i 𝓤 _ (emp 𝓤) (whole, s.2, ((pair_laws.lawful 𝓛).typed u (v ∷ []) is).0)) $
      show ! (λ (w : Val). sep 𝓤 (fact 𝓤 (Known u v w)) (sep 𝓤 (sem 𝓛 ((MutRef (named 0) κ R).own_val u.0 (mut_vals u.0))) (sep 𝓤 (sem 𝓛 (P.own_val u.1 (w ∷ []))) (sem 𝓛 ftrue)))) s.0 $ join ! $ done !)))))

  -- what taking the view apart leaves
  pub parts_are_left : (All : SProp 𝓤) (u : MutBor R.Denot × P.Denot) (v : Val) (X : Type 0) (last : X → Fml) (A : Type 0) (Bs : List (Type 0))
      → ent 𝓤 (sep 𝓤 (sep 𝓤 All (sem 𝓛 (Pair.own_val u (v ∷ [])))) (ex 𝓤 (λ (ws : X). sep 𝓤 (sem 𝓛 (last ws)) (facts 𝓤 A Bs))))
      (ex 𝓤 (λ (w : Val). sep 𝓤 (fact 𝓤 (Known u v w × Both A Bs)) (sep 𝓤 All (sep 𝓤 (sem 𝓛 ((MutRef (named 0) κ R).own_val u.0 (mut_vals u.0))) (sep 𝓤 (sem 𝓛 (P.own_val u.1 (w ∷ []))) (sem 𝓛 ftrue))))))
  parts_are_left All u v X last A Bs =
      let Parts = λ (w : Val). sep 𝓤 (sem 𝓛 ((MutRef (named 0) κ R).own_val u.0 (mut_vals u.0))) (sep 𝓤 (sem 𝓛 (P.own_val u.1 (w ∷ []))) (sem 𝓛 ftrue)) in
      qed 𝓛 (((raw All ⊛ ‵ (Pair.own_val u (v ∷ []))) ⊛ some (λ (ws : X). ‵ (last ws) ⊛ raw (facts 𝓤 A Bs))) ∷ []) ∵
      split ! $ move ! (1 ∷ []) $ pick ! (λ ws. split ! $ drop ! $ use1 𝓛 (raw (fact 𝓤 (Both A Bs))) (hear 𝓛 A Bs) $ heard ! _ (λ said. split ! $ move ! (1 ∷ []) $
      use1 𝓛 (some (λ (w : Val). raw (fact 𝓤 (Known u v w)) ⊛ raw (Parts w))) (two u v) $ pick ! (λ w. split ! $ heard ! _ (λ known. move ! (1 ∷ 0 ∷ []) $ join ! $
      use0 𝓛 (raw (fact 𝓤 (Known u v w × Both A Bs))) (fact_i 𝓤 _ (emp 𝓤) (known, said)) $ join ! $
      show ! (λ (w' : Val). sep 𝓤 (fact 𝓤 (Known u v w' × Both A Bs)) (sep 𝓤 All (Parts w'))) w $ done !))))

module _ {M : Type 1} {𝓤 : Ura M} (𝓛 : Logic 𝓤) where
  open 𝓛 use {H}

  -- nothing is left of the three parts of a view
  pub nothing_left : ent 𝓤 (sem 𝓛 ftrue) (H.⇛ (sem 𝓛 (fsep ftrue (fsep ftrue (fsep ftrue ftrue)))))
  nothing_left = qed 𝓛 (‵ ftrue ∷ []) ∵ updating ! $ at_once ! $ nothing ! $ fjoin ! $ nothing ! $ fjoin ! $ nothing ! $ fjoin ! $ done !

  -- what reading leaves
  reading_leaves : (All : SProp 𝓤) (own loan : Fml) (X : Type 0) (last : X → Fml) (A : Type 0)
      → ent 𝓤 (sep 𝓤 (sep 𝓤 All (sem 𝓛 own)) (ex 𝓤 (λ (ws : X). sep 𝓤 (sem 𝓛 (last ws)) (sep 𝓤 (sem 𝓛 loan) (fact 𝓤 A))))) (sep 𝓤 (sem 𝓛 own) (sep 𝓤 All (sep 𝓤 (sem 𝓛 loan) (fact 𝓤 A))))
  reading_leaves All own loan X last A =
      qed 𝓛 (((raw All ⊛ ‵ own) ⊛ some (λ (ws : X). ‵ (last ws) ⊛ ‵ loan ⊛ raw (fact 𝓤 A))) ∷ []) ∵
      split ! $ move ! (1 ∷ []) $ pick ! (λ ws. split ! $ drop ! $ move ! (1 ∷ []) $ split ! $ move ! (0 ∷ 2 ∷ []) $ join ! $ move ! (1 ∷ []) $ done !)

  -- what both calls leave is what the contract says
  spent_leaves : (All : SProp 𝓤) (own loan loan' : Fml) (A B : Type 0) → loan ≡ loan' → (A → B)
      → ent 𝓤 (sep 𝓤 (sem 𝓛 own) (sep 𝓤 All (sep 𝓤 (sem 𝓛 loan) (fact 𝓤 A)))) (sep 𝓤 (sep 𝓤 All (sep 𝓤 (sep 𝓤 (sem 𝓛 ftrue) (sem 𝓛 ftrue)) (sem 𝓛 own))) (sep 𝓤 (sem 𝓛 loan') (fact 𝓤 B)))
  spent_leaves All own loan loan' A B same tells =
      qed 𝓛 (‵ own ∷ (raw All ⊛ ‵ loan ⊛ raw (fact 𝓤 A)) ∷ []) ∵ nothing ! $ nothing ! $ join ! $ join ! $ move ! (1 ∷ []) $ split ! $ move ! (1 ∷ []) $ split ! $ move ! (1 ∷ []) $ heard ! _ (λ a.
      rewrite ! 0 (λ (X : Fml). ‵ X) same refl $ use0 𝓛 (raw (fact 𝓤 B)) (fact_i 𝓤 _ (emp 𝓤) (tells a)) $ move ! (1 ∷ 0 ∷ []) $ join ! $ move ! (1 ∷ 2 ∷ []) $ join ! $ done !)

-- what such a call runs: take takes the view apart, and read reads the trie at the path
abbrev pub spending : (outs : List (ℕ × ℕ)) (τ τv τw τr τd τp : Ty) (take read : Callee) → Fn
spending outs τ τv τw τr τd τp take read = record {
  lifetimes = 1;
  outlives = outs;
  ty_params = [];
  givens = 0;
  params = 1;
  locals = local τ value_local ∷ local τv value_local ∷ local (ty_struct (tuple_name 2) (tcons (ty_ref erased mut τr) (tcons τp tnil))) value_local ∷
      local τw value_local ∷ local (ty_ref erased mut τr) value_local ∷ local τp value_local ∷ [];
  body = seq (assign (place 3 []) (rv_opd (copy (place 1 [])))) (seq (call take (copy (place 3 []) ∷ []) (place 2 []))
      (seq (assign (place 4 []) (addr_of (place 2 (field 0 ∷ deref τd ∷ [])))) (seq (assign (place 5 []) (rv_opd (copy (place 2 (field 1 ∷ [])))))
      (seq (call read (copy (place 4 []) ∷ copy (place 5 []) ∷ []) (place 0 [])) return))));
}

abbrev none : Lfts 4
none = ([], ([], ([], ([], tt))))

-- K and V are borrowed for as long as the view
abbrev outs : List (Outlives 4)
outs = record { long = 1; long_ok = tt; short = named 0; short_ok = tt } ∷ record { long = 2; long_ok = tt; short = named 0; short_ok = tt } ∷ []

module _ {M : Type 1} {𝓤 : Ura M} (𝓛 : Logic 𝓤) (𝓜 : Model 𝓤 𝓛.H) (𝓡 : Running 𝓤 𝓛.H 𝓜) (K V P : RattleType) (LK : Laws K) (LV : Laws V) (LP : Laws P)
    (key : keys.Ghosts K.Denot) (eq : eqs.Ghosts K.Denot) where
  open 𝓛 use {H}

  abbrev R : RattleType
  R = trie_row (param 0 K) (param 1 V) key eq

  abbrev Path : RattleType
  Path = param 2 P

  abbrev ref_laws : (κ : Lft) → Laws (MutRef (named 0) κ R)
  ref_laws κ = let at : NamedLft = record { mir = named 0; lft = κ } in
      of_field (mut_ref_field at R tt) (mut_ref_laws at R tt) refl (mut_ref_shared at R tt (row_shared R (trie_laws (param 0 K) (param 1 V) key eq (param_laws 0 K LK) (param_laws 1 V LV))))

  abbrev view : Lfts 4 → RattleType
  view κs = view_row (named_lft 4 0 tt κs) (param 0 K) (param 1 V) Path key eq

  abbrev view_is_lawful : (κs : Lfts 4) → Laws (view κs)
  view_is_lawful κs = view_laws (named_lft 4 0 tt κs) (param 0 K) (param 1 V) Path key eq (param_laws 0 K LK) (param_laws 1 V LV) (param_laws 2 P LP)

  abbrev stays : GName → R.Denot → Fml
  stays = stays_as (param 0 K) (param 1 V) key eq

  abbrev Requires : Lfts 4 → SProp 𝓤
  Requires κs = sep 𝓤 (fact 𝓤 (κs.1.0 ⊑ K.lives)) (sep 𝓤 (fact 𝓤 (κs.1.1.0 ⊑ V.lives)) (sep 𝓤 (fact 𝓤 (κs.1.1.1.0 ⊑ P.lives)) (sem 𝓛 ftrue)))

  -- the call that takes a view apart
  abbrev taking : Ended
  taking = record { signature = record { lifetimes = 4; outlives = outs; params = plain view ∷ []; result = plain (λ (κs : Lfts 4). Tuple (MutRef (named 0) κs.0 R ∷ Path ∷ [])) }; kept = (no, tt) }

  abbrev taken : Clauses 𝓤 taking
  taken κs a = record {
    ghost = Unit {0};
    requires = λ g. Requires κs;
    ensures = λ g u e. facts 𝓤 (u.0.ghost_name ≡ lender_of a.0) ((u.0.now ≡ map_behind a.0) ∷ (u.1 ≡ kept_path a.0) ∷ []);
  }

  -- Shown: what is read, if there is something; Shows m p r: r is read of m at p
  module _ (Shown : Lft → RattleType) (shown_laws : (κ : Lft) → Laws (Shown κ)) (Shows : (κ : Lft) → R.Denot → P.Denot → Option (Shown κ).Denot → Type 0) where
    abbrev Res : Lft → RattleType
    Res κ = option_row (Shown κ)

    -- the call that reads
    abbrev reading : Ended
    reading = record {
      signature = record { lifetimes = 4; outlives = outs; params = mut_ref_to (0 ∷ []) tt (plain (λ (κs : Lfts 4). R)) ∷ plain (λ (κs : Lfts 4). Path) ∷ []; result = plain (λ (κs : Lfts 4). Res κs.0) };
      kept = (no, (no, tt));
    }

    abbrev read : Clauses 𝓤 reading
    read κs a = record {
      ghost = Unit {0};
      requires = λ g. Requires κs;
      ensures = λ g r e. sep 𝓤 (sem 𝓛 (stays a.0.ghost_name a.0.now)) (fact 𝓤 (Shows κs.0 a.0.now a.1.0 r));
    }

    -- the call that spends the view
    abbrev spends : Ended
    spends = record { signature = record { lifetimes = 4; outlives = outs; params = plain view ∷ []; result = plain (λ (κs : Lfts 4). Res κs.0) }; kept = (no, tt) }

    abbrev spent : Clauses 𝓤 spends
    spent κs a = record {
      ghost = Unit {0};
      requires = λ g. Requires κs;
      ensures = λ g r e. sep 𝓤 (sem 𝓛 (stays (lender_of a.0) (map_behind a.0))) (fact 𝓤 (Shows κs.0 (map_behind a.0) (kept_path a.0) r));
    }

    abbrev stayed : Stays spends.signature.params spends.kept
    stayed = (stay_dropped (plain view) no, tt)

    pub spent_by_reading : (bs : List (ℕ × ℕ)) (τw τr : Ty) (f take read_at : Callee)
        → Closed 𝓤 H (tables 𝓤 H 𝓜 𝓡 𝓡.env).C (tables 𝓤 H 𝓜 𝓡 𝓡.env).Λ f (spending bs (layout (Res [])) (layout (view none)) τw τr (layout R) (layout P) take read_at)
        → ((κ : Lft) → (Res κ).mir ≡ (Res []).mir) → ((v : Val) → T (has_ty (layout (view none)) v) → T (has_ty τw v))
        → Meets 𝓛 taking.signature ((tables 𝓤 H 𝓜 𝓡 𝓡.env).C take) (closing 𝓛 taking taken)
        → Meets 𝓛 reading.signature ((tables 𝓤 H 𝓜 𝓡 𝓡.env).C read_at) (closing 𝓛 reading read)
        → Meets 𝓛 spends.signature ((tables 𝓤 H 𝓜 𝓡 𝓡.env).C f) (closing 𝓛 spends spent)
    spent_by_reading bs τw τr f take read_at closed res_is alike takes reads =
        let 𝓣 = tables 𝓤 H 𝓜 𝓡 𝓡.env in
        let here : Fn = spending bs (layout (Res [])) (layout (view none)) τw τr (layout R) (layout P) take read_at in
        let Ip = triple_of 𝓛 taking.signature (closing 𝓛 taking taken) in
        let Kw = triple_of 𝓛 reading.signature (closing 𝓛 reading read) in
        let W = walk_of 𝓛 spends stayed spent in
        proved_at 𝓛 spends stayed spent 𝓜 𝓡 ((λ κs x w vs ok. nothing_left 𝓛), tt) f here closed (λ y are.
        let κs = y.0.0 in let qs = y.0.1 in let bounds = y.0.2 in let a = y.0.3 in
        let κ = κs.0 in let x = a.0 in
        let s = single (layout (view none)) y.0.4.0 (((view_is_lawful κs).lawful 𝓛).typed x y.0.4.0 are.0) in
        let t₀ = flft κ qs.0 in let t₁ = flft κs.1.0 qs.1.0 in let t₂ = flft κs.1.1.0 qs.1.1.0 in let t₃ = flft κs.1.1.1.0 qs.1.1.1.0 in
        let all = sep 𝓤 (sem 𝓛 t₀) (sep 𝓤 (sem 𝓛 t₁) (sep 𝓤 (sem 𝓛 t₂) (sep 𝓤 (sem 𝓛 t₃) (sem 𝓛 ftrue)))) in
        let L-ref = ref_laws κ in let L-path : Laws Path = param_laws 2 P LP in let Told : RattleType = Res κ in
        let Parts : Type 0 = MutBor R.Denot × P.Denot in
        let Same = λ (u : Parts). u.0.ghost_name ≡ lender_of x in
        let said : Parts → List (Type 0) = λ u. (u.0.now ≡ map_behind x) ∷ (u.1 ≡ kept_path x) ∷ [] in
        let Tells = λ (m : R.Denot) (p : P.Denot) (r : Told.Denot). Shows κ m p r in
        let Loan = λ (u : Parts). stays u.0.ghost_name u.0.now in
        let Kept : Fml = stays (lender_of x) (map_behind x) in
        let First = λ (u : Parts) (v : Val). sep 𝓤 (sep 𝓤 all (sem 𝓛 ((Pair 𝓛 κ R Path refl L-ref L-path).own_val u (v ∷ [])))) (ex 𝓤 (λ (ws : Lasts taking κs a). sep 𝓤 (sem 𝓛 (lasts taking κs a ws)) (facts 𝓤 (Same u) (said u)))) in
        let Second = λ (u : Parts) (r : Told.Denot) (v : Val). sep 𝓤 (sep 𝓤 all (sem 𝓛 (Told.own_val r (v ∷ [])))) (ex 𝓤 (λ (ws : Lasts reading κs (u.0, (u.1, tt))). sep 𝓤 (sem 𝓛 (lasts reading κs (u.0, (u.1, tt)) ws)) (sep 𝓤 (sem 𝓛 (Loan u)) (fact 𝓤 (Tells u.0.now u.1 r))))) in
        let z₂ : Parts → Val → Kw.Ghost = λ u w. ((κs, qs, bounds, (u.0, (u.1, tt)), (mut_vals u.0, (w ∷ [], tt))), tt) in
        let walk : (v₀ : Val) → T (has_ty (layout (view none)) v₀) × WT v₀ → ent 𝓤 (W.pre ((κs, qs, bounds, a, (v₀ ∷ [], tt)), y.1)) (WpFn 𝓤 H 𝓣.C 𝓣.Λ here (v₀ ∷ []) (W.post ((κs, qs, bounds, a, (v₀ ∷ [], tt)), y.1))) = λ v₀ wt.
        let y' : W.Ghost = ((κs, qs, bounds, a, (v₀ ∷ [], tt)), y.1) in
        let z : Ip.Ghost = ((κs, qs, bounds, a, (v₀ ∷ [], tt)), tt) in
        qed 𝓛 (raw (on_entry 𝓛 spends.signature κs qs a y'.0.4) ∷ (raw (fact 𝓤 (κs.1.0 ⊑ K.lives)) ⊛ raw (fact 𝓤 (κs.1.1.0 ⊑ V.lives)) ⊛ raw (fact 𝓤 (κs.1.1.1.0 ⊑ P.lives)) ⊛ ‵ ftrue) ∷ []) ∵
        move ! (1 ∷ []) $ split ! $ heard ! _ (λ inK. split ! $ heard ! _ (λ inV. split ! $ heard ! _ (λ inP. drop ! $
        let given : ent 𝓤 (emp 𝓤) (Requires κs) = qed 𝓛 [] ∵ nothing ! $ use0 𝓛 (raw (fact 𝓤 (κs.1.1.1.0 ⊑ P.lives))) (fact_i 𝓤 _ (emp 𝓤) inP) $ join ! $ use0 𝓛 (raw (fact 𝓤 (κs.1.1.0 ⊑ V.lives))) (fact_i 𝓤 _ (emp 𝓤) inV) $ join ! $ use0 𝓛 (raw (fact 𝓤 (κs.1.0 ⊑ K.lives))) (fact_i 𝓤 _ (emp 𝓤) inK) $ join ! $ done ! in
        use0 𝓛 (raw (Requires κs)) given $ move ! (1 ∷ 0 ∷ []) $ use2 𝓛 (raw (Ip.pre z)) (id⊢ 𝓤 _) $
        enter ! _ _ _ _ _ $ alloc_all ! (λ l. pass_all ! refl (wt, tt) $
        sets ! (of_opd ! (get ! refl)) refl (alike v₀ wt.0, wt.1) $
        calls_at ! (framed 𝓤 H 𝓜 (tables 𝓤 H 𝓜 𝓡 𝓡.env)) Ip takes z (and_then ! (get ! refl) (no_more !)) (λ v.
        use1 𝓛 (later (some (λ (u : Parts). raw (First u v)))) (id⊢ 𝓤 _) $ await ! tt $ pick ! (λ u.
        use1 𝓛 (some (λ (w : Val). raw (fact 𝓤 (Known 𝓛 κ R Path refl L-ref L-path u v w × Both (Same u) (said u))) ⊛ raw (on_entry 𝓛 reading.signature κs qs (u.0, (u.1, tt)) (mut_vals u.0, (w ∷ [], tt)))))
        (parts_are_left 𝓛 κ R Path refl L-ref L-path all u v (Lasts taking κs a) (lasts taking κs a) (Same u) (said u)) $ pick ! (λ w. split ! $ heard ! _ (λ known.
        let is = known.0.0 in
        lands_as ! is refl (subst (λ (v' : Val). T (has_ty (layout (Pair 𝓛 κ R Path refl L-ref L-path)) v') × WT v') is known.0.2) $
        sets ! (addr ! (from ! (fld ! refl (hop ! (look_in_at ! 2 (sub ! 0 refl (whole !))) (stop !))))) refl (tt, tt) $
        sets ! (of_opd ! (get_in ! (fld ! refl (stop !)) (sub ! 1 refl (whole !)))) refl known.0.1 $
        use0 𝓛 (raw (Requires κs)) given $ move ! (1 ∷ 0 ∷ []) $ use2 𝓛 (raw (Kw.pre (z₂ u w))) (id⊢ 𝓤 _) $
        calls_at ! (framed 𝓤 H 𝓜 (tables 𝓤 H 𝓜 𝓡 𝓡.env)) Kw reads (z₂ u w) (and_then ! (get ! refl) (and_then ! (get ! refl) (no_more !))) (λ v₂.
        use1 𝓛 (later (some (λ (r : Told.Denot). raw (Second u r v₂)))) (id⊢ 𝓤 _) $ await ! tt $ pick ! (λ r.
        use1 𝓛 (‵ (Told.own_val r (v₂ ∷ [])) ⊛ raw (sep 𝓤 all (sep 𝓤 (sem 𝓛 (Loan u)) (fact 𝓤 (Tells u.0.now u.1 r))))) (reading_leaves 𝓛 all (Told.own_val r (v₂ ∷ [])) (Loan u) (Lasts reading κs (u.0, (u.1, tt))) (lasts reading κs (u.0, (u.1, tt))) (Tells u.0.now u.1 r)) $ split ! $
        peeks ! Told (Is Told) (shows 𝓛 Told) r (v₂ ∷ []) (λ is₂.
        lands_as ! refl refl (subst (λ (τs : List Ty). Typed τs (v₂ ∷ [])) (res_is κ) (((option_laws (Shown κ) (shown_laws κ)).lawful 𝓛).typed r (v₂ ∷ []) is₂)).0 $
        returns ! (look_at ! 0 refl) $ free_all ! refl $
        suffices ! _ (ends_at 𝓛 spends stayed spent y' v₂ r ((tt, (tt, (tt, tt))), tt) (tt, tt)) $
        use2 𝓛 (raw (sep 𝓤 (sep 𝓤 all (sep 𝓤 (sep 𝓤 (sem 𝓛 ftrue) (sem 𝓛 ftrue)) (sem 𝓛 (Told.own_val r (v₂ ∷ []))))) (sep 𝓤 (sem 𝓛 Kept) (fact 𝓤 (Tells (map_behind x) (kept_path x) r)))))
        (spent_leaves 𝓛 all (Told.own_val r (v₂ ∷ [])) (Loan u) Kept (Tells u.0.now u.1 r) (Tells (map_behind x) (kept_path x) r)
        (ap (λ (γ : GName). stays γ u.0.now) known.1.0 ∙ ap (stays (lender_of x)) known.1.1.0)
        (λ shown. subst (λ (p : P.Denot). Tells (map_behind x) p r) known.1.1.1 (subst (λ (m : R.Denot). Tells m u.1 r) known.1.1.0 shown))) $
        done !))))))))))) in
        subst (λ (vs : List Val). ent 𝓤 (W.pre ((κs, qs, bounds, a, (vs, tt)), y.1)) (WpFn 𝓤 H 𝓣.C 𝓣.Λ here (vs ++ []) (W.post ((κs, qs, bounds, a, (vs, tt)), y.1)))) (sym s.1) (walk s.0 s.2))
