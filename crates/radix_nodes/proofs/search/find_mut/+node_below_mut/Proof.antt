-- `node_below_mut` borrows the node at a key's path from the tree, by recursion on what is left of the key. Assumes `Logic`.
use mathlib.Core.Path.{◌≡◌, refl, sym, ap, ◌∙◌, subst}
use Prim.Native.Nat.{ℕ, ◌≤◌, ◌<◌, ◌^◌, ◌-◌}
use native.Mathlib.Omega.{arith}
use mathlib.Core.List.{List, [], ◌∷◌, ◌++◌}
use lib.ListN.{length, drop as drop_n, get_or}
use lib.WfN.{lt-wf_rel}
use mir.Syntax.{w64, named, Fn, a_type}
use mir.MapTy.{inst_fn}
use mir.Val.{Val, vint, vstruct, of_list}
use base.Logic.{ent, sep, emp, id⊢}
use base.Fml.{Fml, Lft, ftrue, flft}
use prog.Wp.{Tables, WpFn}
use types.Logic.{sem}
use types.Kit.{Item, Sq, ‵, raw, ◌⊛◌, some, later, at_ret, prop, mean, ◌$◌, ◌∵◌, !, qed, move, keep, drop, use0, use1, use2, use3, split, join, fsplit, fjoin, fpick, feq_l, pick, await, rewrite, suffices, frame, done}
use types.Part.{whole, sub}
use types.Run.{enter, of_opd, bin, addr, stop, fld, no_more, and_then, first, branches, skips, exec, returns, returns_within}
use types.ByLocal.{alloc_all, pass_all, free_all, look_at, get, get_in, through, sets, lands_as, env}
use contract.Monad.{fact, fact_i}
use contract.BorrowLft.{◌⊑◌}
use contract.Running.{tables, tables_of}
use sound.WpLaws.{WpFn-mono, FmC, fm_of}
use denote.RattleType.{RattleType}
use denote.Builtin.{usize}
use denote.Exit.{yes, no}
use denote.Laws.{Is, shows}
use denote.Plain.{uint_vals, uint_Tells, uint_Makes}
use denote.Ref.{NamedLft, MutBor, MutRef, ShrRef, mut_vals, mut_Tells, shr_vals, shr_Tells, shr_Lawful, shr_copy}
use denote.Signature.{plain, mut_ref_to, shr_ref_to}
use denote.Steps.{nothing, owned, facts, peeks, heard, only}
use denote.Struct.Field.{mut_ref_field}
use denote.Struct.Laws.{mut_ref_laws}
use denote.Struct.Tuple.{Tuple}
use denote.Param.{param, layouts}
use denote.Param.Laws.{Laws, of_field, row_shared, param_laws}
use denote.Param.Shared.{mut_ref_shared}
use denote.Triple.Call.{calls_at, calls_from}
use denote.Triple.Clauses.{lasts, Ended}
use denote.Triple.Cycle.{Stated, measured, at_on, mutual_elim}
use denote.Triple.Spec.{triple_of}
use denote.Triple.Table.{framed}
use denote.Triple.Walked.{Stays, stay_dropped, walk_of, ends_at, walked_at, walk_meets_at, Goes-dropped, Goes-spent_ref}
use Rattle.std.specs.Prelude.{vec_len}
use Rattle.std.specs.Option.{ghost_name_of, IfSome}
use Rattle.std.specs.Borrow.{LendsSo}
use Rattle.std.specs.Box.{with_value}
use Rattle.std.specs.declared.option.Option.{Option}
use Rattle.std.specs.declared.boxed.Box.{Box}
use Rattle.std.specs.declared.alloc.Global.{Global}
use Rattle.std.specs.contracts.option.Option.{the_row as option_row}
use Rattle.std.proofs.option.Option.TheLaws.{the_row_laws as option_laws}
use Rattle.std.proofs.VecSteps.Shapes.{after}
use Rattle.radix_nodes.proofs.LendingLemmas.Lent.{promise_through_part, less_by_eqb, equal_by_eqb}
use Rattle.masked_tree.specs.Tree.{IsTreePlaced}
use Rattle.masked_tree.specs.Paths.{IsStuck}
use Rattle.radix_keys.specs.contracts.nibbles.NibbleVec.{the_row as list_row}
use Rattle.radix_keys.proofs.nibbles.NibbleVec.TheLaws.{the_row_laws as list_laws}
use Rattle.radix_nodes.proofs.LendingLemmas.Writes.{if_some_implies, replaced_through_child, kept_through_child}
use Rattle.radix_nodes.proofs.EditLemmas.Insertion.{boxed_child_is_placed}
use Rattle.radix_nodes.specs.Nodes.{tree_of, fragment_of, IsStep}
use Rattle.radix_nodes.specs.Lending.{Succeeds, KeepsNode}
use Rattle.radix_nodes.specs.Loans.{LendsChildBox, LendsUnboxed, LendsNode, node_box, with_child_box}
use Rattle.radix_nodes.specs.declared.trie_node.TrieNode.{TrieNode, out-TrieNode}
use Rattle.radix_nodes.specs.contracts.trie_node.TrieNode.{the_row}
use Rattle.radix_nodes.specs.contracts.search.find_mut.node_below_mut as f
use Rattle.radix_nodes.specs.contracts.search.find_mut.look as lk
use Rattle.radix_nodes.specs.contracts.search.find_mut.here as he
use Rattle.radix_nodes.specs.contracts.search.find_mut.child_box as cb
use Rattle.radix_nodes.specs.contracts.search.find_mut.unbox as ub
use Rattle.radix_nodes.proofs.trie_node.TrieNode.TheLaws.{the_row_laws as node_laws}
use Rattle.radix_nodes.proofs.search.find_mut.look.Met.{met as look_met}
use Rattle.radix_nodes.proofs.search.find_mut.here.Met.{met as here_met}
use Rattle.radix_nodes.proofs.search.find_mut.child_box.Met.{met as child_box_met}
use Rattle.radix_nodes.proofs.search.find_mut.unbox.Met.{met as unbox_met}
use Rattle.radix_nodes.proofs.search.find_mut.+node_below_mut as cycle
use Rattle.radix_nodes.proofs.search.find_mut.+node_below_mut.{statement}
use Rattle.radix_nodes.proofs.search.find_mut.+node_below_mut.Code as code

module _ (K V : RattleType) where
  abbrev N : RattleType
  N = the_row (param 0 K) (param 1 V)

  abbrev B : RattleType
  B = node_box (param 0 K) (param 1 V)

  -- the type of references to a node obeys the laws, if the key's and the value's types do
  mut_laws : (κ : Lft) → Laws K → Laws V → Laws (MutRef (named 0) κ N)
  mut_laws κ LK LV =
      let at : NamedLft = record { mir = named 0; lft = κ } in
      of_field (mut_ref_field at N tt) (mut_ref_laws at N tt) refl (mut_ref_shared at N tt (row_shared N (node_laws (param 0 K) (param 1 V) (param_laws 0 K LK) (param_laws 1 V LV))))

  abbrev fn' : Fn
  fn' = inst_fn (layouts (a_type ∷ a_type ∷ []) (K, (V, tt))) code.node_below_mut-function

  abbrev T' : Ended
  T' = f.ended K V

  abbrev stayed : Stays T'.signature.params T'.kept
  stayed = (stay_dropped (mut_ref_to (0 ∷ []) tt (plain (λ _. B))) no, (stay_dropped (shr_ref_to (1 ∷ []) tt (plain (λ _. list_row))) yes, (stay_dropped (plain (λ _. usize)) yes, tt)))

-- a step further along a list leaves less of it
less_is_left : (n depth next : ℕ) → depth < next → next ≤ n → n - next < n - depth
less_is_left n depth next lt le = omega arith

pub +node_below_mut_spec : {M : Type 1} → statement M
unfolding tables_of
+node_below_mut_spec 𝓤 𝓛 𝓜 𝓡 wired K V LK LV =
    let 𝓣 : Tables 𝓤 𝓛.H = tables_of 𝓤 𝓛.H 𝓜 (tables 𝓤 𝓛.H 𝓜 𝓡 𝓡.env) in
    let fm : FmC 𝓤 𝓛.H 𝓛.laws 𝓣.C = fm_of 𝓤 𝓛.H 𝓛.laws 𝓣 in
    let S = f.signature K V in
    let spec = f.spec K V 𝓛 𝓜.mem 𝓡.returns in
    let c = f.clauses K V 𝓛 𝓜.mem 𝓡.returns in
    let W = walk_of 𝓛 (T' K V) (stayed K V) c in
    let Self = triple_of 𝓛 S spec in
    let key = f.Key.name (layouts (a_type ∷ a_type ∷ []) (K, (V, tt))) in
    let this : Stated 𝓤 = record { signature = S; run = 𝓡.run (𝓡.env key); spec = spec } in
    let run = WpFn 𝓤 𝓛.H 𝓣.C 𝓣.Λ (fn' K V) in
    let μ : Self.Ghost → ℕ = λ y. length y.0.3.1.0.now - y.0.3.1.1.0 in
    mutual_elim 𝓛 (cycle.functions 𝓛 K V 𝓜.mem 𝓡.run 𝓡.returns 𝓡.env) ◌<◌ lt-wf_rel.wf (measured 𝓛 this μ) (λ t smaller.
    at_on 𝓛 S spec run (𝓣.C key) (code.node_below_mut-unfolded 𝓤 𝓛.H 𝓜 𝓡 wired (K, (V, tt))) μ t (λ y e.
    walk_meets_at 𝓛 (T' K V) (stayed K V)
    (Goes-spent_ref 𝓛 4 (0 ∷ []) tt (plain (λ _. B K V)), (Goes-dropped 𝓛 4 (shr_ref_to (1 ∷ []) tt (plain (λ _. list_row))) yes (λ κs x w. refl), (Goes-dropped 𝓛 4 (plain (λ _. usize)) yes (λ κs x w. refl), tt)))
    c run (WpFn-mono 𝓤 𝓛.H 𝓛.laws 𝓣 (fn' K V)) y
    (walked_at 𝓛 (T' K V) (stayed K V) c run y (mut_vals, (shr_vals, (uint_vals w64, tt)))
    (mut_Tells (named 0) y.0.0.0 (B K V), (shr_Tells (named 1) y.0.0.1.0 list_row, (uint_Tells w64, tt))) (λ are.
    let κs = y.0.0 in let qs = y.0.1 in let κ = κs.0 in let a = y.0.3 in
    let r = a.0 in let nib = a.1.0 in let depth = a.1.1.0 in
    let Node : RattleType = MutRef (named 0) κ (N K V) in
    let Top : RattleType = MutRef (named 0) κ (B K V) in
    let Nibs : RattleType = ShrRef (named 1) κs.1.0 list_row in
    let ns = shr_vals nib in
    let fits = are.1.1.0.1 in
    let Toks : Item 𝓤 = ‵ (flft κ qs.0) ⊛ ‵ (flft κs.1.0 qs.1.0) ⊛ ‵ (flft κs.1.1.0 qs.1.1.0) ⊛ ‵ (flft κs.1.1.1.0 qs.1.1.1.0) ⊛ ‵ ftrue in
    let Toks₃ : Item 𝓤 = ‵ (flft κ qs.0) ⊛ ‵ (flft κs.1.1.0 qs.1.1.0) ⊛ ‵ (flft κs.1.1.1.0 qs.1.1.1.0) ⊛ ‵ ftrue in
    let path : TrieNode K.Denot V.Denot → List ℕ = λ m. fragment_of m ++ drop_n depth nib.now in
    let Lends' : ℕ → Box (TrieNode K.Denot V.Denot) Global → Option (MutBor (TrieNode K.Denot V.Denot)) → Fml = λ g m x. LendsNode (param 0 K) (param 1 V) (record { ref_ptr = r.ref_ptr; ghost_name = g; now = m }) (path m.value) x in
    let y' : W.Ghost = ((κs, qs, y.0.2, a, (mut_vals r, (ns, (vint w64 depth ∷ [], tt)))), y.1) in
    let Lent : RattleType = option_row Node in
    let lent_laws : Laws Lent = option_laws Node (mut_laws K V κ LK LV) in
    let Three : RattleType = Tuple (Top ∷ usize ∷ usize ∷ []) in
    -- the end of each arm
    let out : (v : Val) (x : Option (MutBor (TrieNode K.Denot V.Denot))) → Sq 𝓛 (‵ (Lends' r.ghost_name r.now x) ∷ ‵ (Lent.own_val x (v ∷ [])) ∷ Toks ∷ []) (prop (W.post y' v)) = λ v x.
    suffices ! _ (ends_at 𝓛 (T' K V) (stayed K V) c y' v x (tt, (tt, (tt, tt))) (tt, (tt, (tt, tt)))) $
    move ! (1 ∷ []) $ nothing ! $ nothing ! $ fjoin ! $ nothing ! $ fjoin ! $ nothing ! $ fjoin ! $ join ! $ move ! (2 ∷ 0 ∷ []) $ join ! $ frame ! $ done ! in
    -- what a call with the node's own parameters asks
    let at : MutBor (Box (TrieNode K.Denot V.Denot) Global) → ℕ → Self.Ghost = λ x d. ((κs, qs, y.0.2, (x, (nib, (d, tt))), (mut_vals x, (ns, (vint w64 d ∷ [], tt)))), tt) in
    qed 𝓛 ((Toks ⊛ ‵ (Top.own_val r (mut_vals r)) ⊛ ‵ (Nibs.own_val nib ns) ⊛ ‵ (usize.own_val depth (vint w64 depth ∷ [])) ⊛ ‵ ftrue) ∷
    (raw (fact 𝓤 (κs.1.1.0 ⊑ K.lives)) ⊛ raw (fact 𝓤 (κs.1.1.1.0 ⊑ V.lives)) ⊛ raw (fact 𝓤 (depth ≤ length nib.now)) ⊛ raw (fact 𝓤 (IsTreePlaced (tree_of r.now.value)))) ∷ []) ∵
    move ! (1 ∷ []) $ split ! $ heard ! _ (λ inK. split ! $ heard ! _ (λ inV. split ! $ heard ! _ (λ within. heard ! _ (λ placed.
    let asks : (x : MutBor (Box (TrieNode K.Denot V.Denot) Global)) (d : ℕ) → d < 2 ^ 64 → d ≤ length nib.now → IsTreePlaced (tree_of x.now.value)
    → ent 𝓤 (sep 𝓤 (sem 𝓛 (Top.own_val x (mut_vals x))) (sep 𝓤 (sem 𝓛 (Nibs.own_val nib ns)) (mean 𝓛 Toks))) (Self.pre (at x d)) = λ x d ok le good.
    qed 𝓛 (‵ (Top.own_val x (mut_vals x)) ∷ ‵ (Nibs.own_val nib ns) ∷ Toks ∷ []) ∵
    nothing ! $ owned ! usize _ (uint_Makes 𝓛 w64) d _ (refl, ok) $ join ! $ move ! (2 ∷ 0 ∷ []) $ join ! $ move ! (1 ∷ 0 ∷ []) $ join ! $ move ! (1 ∷ 0 ∷ []) $ join ! $
    use0 𝓛 (raw (fact 𝓤 (IsTreePlaced (tree_of x.now.value)))) (fact_i 𝓤 _ (emp 𝓤) good) $
    use0 𝓛 (raw (fact 𝓤 (d ≤ length nib.now))) (fact_i 𝓤 _ (emp 𝓤) le) $ join ! $ use0 𝓛 (raw (fact 𝓤 (κs.1.1.1.0 ⊑ V.lives))) (fact_i 𝓤 _ (emp 𝓤) inV) $ join ! $
    use0 𝓛 (raw (fact 𝓤 (κs.1.1.0 ⊑ K.lives))) (fact_i 𝓤 _ (emp 𝓤) inK) $ join ! $ move ! (1 ∷ 0 ∷ []) $ done ! in
    let He = triple_of 𝓛 (he.signature K V) (he.spec K V 𝓛 𝓜.mem 𝓡.returns) in
    let asks_here : (x : MutBor (Box (TrieNode K.Denot V.Denot) Global)) → IsTreePlaced (tree_of x.now.value) → IsStuck (tree_of x.now.value) (drop_n depth nib.now)
    → ent 𝓤 (sep 𝓤 (sem 𝓛 (Top.own_val x (mut_vals x))) (sep 𝓤 (sem 𝓛 (Nibs.own_val nib ns)) (mean 𝓛 Toks))) (He.pre (at x depth)) = λ x good off.
    qed 𝓛 (‵ (Top.own_val x (mut_vals x)) ∷ ‵ (Nibs.own_val nib ns) ∷ Toks ∷ []) ∵
    nothing ! $ owned ! usize _ (uint_Makes 𝓛 w64) depth _ (refl, fits) $ join ! $ move ! (2 ∷ 0 ∷ []) $ join ! $ move ! (1 ∷ 0 ∷ []) $ join ! $ move ! (1 ∷ 0 ∷ []) $ join ! $
    use0 𝓛 (raw (fact 𝓤 (IsStuck (tree_of x.now.value) (drop_n depth nib.now)))) (fact_i 𝓤 _ (emp 𝓤) off) $
    use0 𝓛 (raw (fact 𝓤 (IsTreePlaced (tree_of x.now.value)))) (fact_i 𝓤 _ (emp 𝓤) good) $ join ! $
    use0 𝓛 (raw (fact 𝓤 (depth ≤ length nib.now))) (fact_i 𝓤 _ (emp 𝓤) within) $ join ! $ use0 𝓛 (raw (fact 𝓤 (κs.1.1.1.0 ⊑ V.lives))) (fact_i 𝓤 _ (emp 𝓤) inV) $ join ! $
    use0 𝓛 (raw (fact 𝓤 (κs.1.1.0 ⊑ K.lives))) (fact_i 𝓤 _ (emp 𝓤) inK) $ join ! $ move ! (1 ∷ 0 ∷ []) $ done ! in
    split ! $ move ! (1 ∷ []) $ split ! $ move ! (1 ∷ []) $ split ! $ keep ! (2 ∷ 0 ∷ 3 ∷ []) $
    -- [the node; the nibbles; the tokens]
    enter ! _ _ _ _ _ $ alloc_all ! (λ l. pass_all ! refl ((tt, tt), (((shr_Lawful 𝓛 (named 1) κs.1.0 list_row).typed nib ns are.1.0).0, ((tt, record { fits = fits }), tt))) $
    move ! (1 ∷ []) $ use1 𝓛 (‵ (Nibs.own_val nib ns) ⊛ ‵ (Nibs.own_val nib ns)) ((shr_copy 𝓛 (named 1) κs.1.0 list_row list_laws.shr_laws).twice nib ns) $ split ! $ move ! (2 ∷ 0 ∷ 3 ∷ []) $
    sets ! (addr ! (through ! refl (stop !))) refl (tt, tt) $
    let Lk = triple_of 𝓛 (lk.signature K V) (lk.spec K V 𝓛 𝓜.mem 𝓡.returns) in
    use3 𝓛 (raw (Lk.pre (at r depth))) (asks r depth fits within placed) $
    calls_at ! (framed 𝓤 𝓛.H 𝓜 (tables 𝓤 𝓛.H 𝓜 𝓡 𝓡.env)) Lk (look_met 𝓤 𝓛 𝓜 𝓡 (code.calls-radix_nodes::search::find_mut::look 𝓡.env wired) K V LK LV) (at r depth)
    (and_then ! (get ! refl) (and_then ! (get ! refl) (and_then ! (get ! refl) (no_more !)))) (λ v.
    use1 𝓛 (later (some (λ (p : MutBor (Box (TrieNode K.Denot V.Denot) Global) × ℕ × ℕ). (Toks ⊛ ‵ (Three.own_val p (v ∷ []))) ⊛
    some (λ (ws : Unit {0} × (Unit {0} × (Unit {0} × Unit {0}))). ‵ (lasts (lk.ended K V) κs a ws) ⊛
    (raw (fact 𝓤 (p.0.ghost_name ≡ r.ghost_name)) ⊛ raw (fact 𝓤 (p.0.now ≡ r.now)) ⊛
    raw (fact 𝓤 ((depth ≤ p.2) × (p.2 ≤ length nib.now))) ⊛ raw (fact 𝓤 (depth < p.2 → IsStep r.now.value nib.now depth p.1 p.2)) ⊛
    raw (fact 𝓤 (p.2 ≡ depth → IsStuck (tree_of r.now.value) (drop_n depth nib.now)))))))) (id⊢ 𝓤 _) $
    await ! tt $ pick ! (λ p. split ! $ split ! $ move ! (2 ∷ []) $ pick ! (λ ws. split ! $ drop ! $ split ! $ heard ! _ (λ name. split ! $ heard ! _ (λ same. split ! $ heard ! _ (λ said. split ! $ heard ! _ (λ steps. heard ! _ (λ off.
    let placed₀ : IsTreePlaced (tree_of p.0.now.value) = subst (λ (m : Box (TrieNode K.Denot V.Denot) Global). IsTreePlaced (tree_of m.value)) (sym same) placed in
    -- [the tokens; the three results; the nibbles]
    move ! (1 ∷ []) $ fpick ! (λ vss. fsplit ! $ feq_l ! (λ is. fsplit ! $
    peeks ! Top (Is Top) (shows 𝓛 Top) p.0 vss.0 (λ is₀. rewrite ! 0 (λ (us : List Val). ‵ (Top.own_val p.0 us)) is₀.0 refl $
    move ! (1 ∷ []) $ fsplit ! $ facts ! usize (Is usize) (shows 𝓛 usize) p.1 vss.1.0 (λ is₁. fsplit ! $ facts ! usize (Is usize) (shows 𝓛 usize) p.2 vss.1.1.0 (λ is₂. drop ! $
    let three : List Val → List Val → List Val → List Val = λ x i n. vstruct (of_list (x ++ (i ++ (n ++ [])))) ∷ [] in
    lands_as ! (ap only (is ∙ ap (λ (us : List Val). three us vss.1.0 vss.1.1.0) is₀.0 ∙ ap (λ (us : List Val). three (mut_vals p.0) us vss.1.1.0) is₁.0
    ∙ ap (λ (us : List Val). three (mut_vals p.0) (vint w64 p.1 ∷ []) us) is₂.0)) refl (tt, (tt, (record { fits = is₁.1 }, (record { fits = is₂.1 }, tt)))) $
    sets ! (of_opd ! (get_in ! (fld ! refl (stop !)) (sub ! 0 refl (whole !)))) refl (tt, tt) $
    sets ! (of_opd ! (get_in ! (fld ! refl (stop !)) (sub ! 1 refl (whole !)))) refl (tt, record { fits = is₁.1 }) $
    sets ! (of_opd ! (get_in ! (fld ! refl (stop !)) (sub ! 2 refl (whole !)))) refl (tt, record { fits = is₂.1 }) $
    sets ! (bin ! (get ! refl) (get ! refl) tt) refl (tt, tt) $
    move ! (0 ∷ 2 ∷ 1 ∷ []) $
    -- [the node; the nibbles; the tokens]
    first ! $ branches ! (get ! refl)
    (λ ends. sets ! (addr ! (through ! refl (stop !))) refl (tt, tt) $
    let off₀ : IsStuck (tree_of p.0.now.value) (drop_n depth nib.now) = subst (λ (m : Box (TrieNode K.Denot V.Denot) Global). IsStuck (tree_of m.value) (drop_n depth nib.now)) (sym same) (off (equal_by_eqb p.2 depth ends)) in
    use3 𝓛 (raw (He.pre (at p.0 depth))) (asks_here p.0 placed₀ off₀) $
    calls_at ! (framed 𝓤 𝓛.H 𝓜 (tables 𝓤 𝓛.H 𝓜 𝓡 𝓡.env)) He (here_met 𝓤 𝓛 𝓜 𝓡 (code.calls-radix_nodes::search::find_mut::here 𝓡.env wired) K V LK LV) (at p.0 depth)
    (and_then ! (get ! refl) (and_then ! (get ! refl) (and_then ! (get ! refl) (no_more !)))) (λ v₁.
    use1 𝓛 (later (some (λ (x : Option (MutBor (TrieNode K.Denot V.Denot))). (Toks ⊛ ‵ (Lent.own_val x (v₁ ∷ []))) ⊛
    some (λ (ws : Unit {0} × (Unit {0} × (Unit {0} × Unit {0}))). ‵ (lasts (he.ended K V) κs (at p.0 depth).0.3 ws) ⊛ ‵ (Lends' p.0.ghost_name p.0.now x))))) (id⊢ 𝓤 _) $
    await ! tt $ pick ! (λ x. split ! $ split ! $ move ! (1 ∷ []) $
    peeks ! Lent (Is Lent) (shows 𝓛 Lent) x (v₁ ∷ []) (λ is₃.
    lands_as ! refl refl ((lent_laws.lawful 𝓛).typed x (v₁ ∷ []) is₃).0 $
    returns_within ! (W.post y') refl (look_at ! 0 refl) $ free_all ! refl $
    move ! (2 ∷ []) $ pick ! (λ ws₁. split ! $ drop ! $
    rewrite ! 0 (λ (g : ℕ). ‵ (Lends' g p.0.now x)) name refl $ rewrite ! 0 (λ (m : Box (TrieNode K.Denot V.Denot) Global). ‵ (Lends' r.ghost_name m x)) same refl $
    out v₁ x)))))
    (λ goes. skips ! $ exec ! 𝓣.C 𝓣.Λ (env (fn' K V).locals l) (after 7 (fn' K V).body) (at_ret _ (W.post y')) $
    let further : depth < p.2 = less_by_eqb p.2 depth goes said.0 in
    sets ! (addr ! (through ! refl (stop !))) refl (tt, tt) $
    move ! (2 ∷ []) $ split ! $ move ! (1 ∷ []) $ split ! $ move ! (2 ∷ 1 ∷ []) $ join ! $
    -- [the tokens but the nibbles'; the nibbles' token; the box; the nibbles]
    let Ub = triple_of 𝓛 (ub.signature K V) (ub.spec K V 𝓛 𝓜.mem 𝓡.returns) in
    let z₂ : Ub.Ghost = (((κ, (κs.1.1.0, (κs.1.1.1.0, tt))), (qs.0, (qs.1.1.0, (qs.1.1.1.0, tt))), y.0.2, (p.0, tt), (mut_vals p.0, tt)), tt) in
    nothing ! $ move ! (3 ∷ 0 ∷ []) $ join ! $ move ! (1 ∷ 0 ∷ []) $ join ! $
    nothing ! $ use0 𝓛 (raw (fact 𝓤 (κs.1.1.1.0 ⊑ V.lives))) (fact_i 𝓤 _ (emp 𝓤) inV) $ join ! $
    use0 𝓛 (raw (fact 𝓤 (κs.1.1.0 ⊑ K.lives))) (fact_i 𝓤 _ (emp 𝓤) inK) $ join ! $ move ! (1 ∷ 0 ∷ []) $ use2 𝓛 (raw (Ub.pre z₂)) (id⊢ 𝓤 _) $
    calls_at ! (framed 𝓤 𝓛.H 𝓜 (tables 𝓤 𝓛.H 𝓜 𝓡 𝓡.env)) Ub (unbox_met 𝓤 𝓛 𝓜 𝓡 (code.calls-radix_nodes::search::find_mut::unbox 𝓡.env wired) K V LK LV) z₂
    (and_then ! (get ! refl) (no_more !)) (λ v₂.
    use1 𝓛 (later (some (λ (n : MutBor (TrieNode K.Denot V.Denot)). (Toks₃ ⊛ ‵ (Node.own_val n (v₂ ∷ []))) ⊛
    some (λ (ws : Unit {0} × Unit {0}). ‵ (lasts (ub.ended K V) z₂.0.0 z₂.0.3 ws) ⊛
    (‵ (LendsUnboxed (param 0 K) (param 1 V) p.0 n) ⊛ raw (fact 𝓤 (n.now ≡ p.0.now.value))))))) (id⊢ 𝓤 _) $
    await ! tt $ pick ! (λ n. split ! $ split ! $ move ! (1 ∷ []) $
    peeks ! Node (Is Node) (shows 𝓛 Node) n (v₂ ∷ []) (λ is₃.
    rewrite ! 0 (λ (us : List Val). ‵ (Node.own_val n us)) is₃.0 refl $
    lands_as ! (ap only is₃.0) refl (tt, tt) $
    move ! (2 ∷ []) $ pick ! (λ ws₂. split ! $ drop ! $ split ! $ move ! (1 ∷ []) $ heard ! _ (λ inside.
    -- [how the box follows the node; the node; the tokens but the nibbles'; the nibbles' token; the nibbles]
    let step : IsStep n.now nib.now depth p.1 p.2 = subst (λ (m : TrieNode K.Denot V.Denot). IsStep m nib.now depth p.1 p.2) (sym (inside ∙ ap (λ (b : Box (TrieNode K.Denot V.Denot) Global). b.value) same)) (steps further) in
    let placedₙ : IsTreePlaced (tree_of n.now) = subst (λ (m : TrieNode K.Denot V.Denot). IsTreePlaced (tree_of m)) (sym inside) placed₀ in
    let Cb = triple_of 𝓛 (cb.signature K V) (cb.spec K V 𝓛 𝓜.mem 𝓡.returns) in
    let z₃ : Cb.Ghost = (((κ, (κs.1.1.0, (κs.1.1.1.0, tt))), (qs.0, (qs.1.1.0, (qs.1.1.1.0, tt))), y.0.2, (n, (p.1, tt)), (mut_vals n, (vint w64 p.1 ∷ [], tt))), tt) in
    nothing ! $ owned ! usize _ (uint_Makes 𝓛 w64) p.1 _ (refl, is₁.1) $ join ! $ move ! (2 ∷ 0 ∷ []) $ join ! $ move ! (2 ∷ 0 ∷ []) $ join ! $
    use0 𝓛 (raw (fact 𝓤 (p.1 < vec_len (out-TrieNode K.Denot V.Denot n.now).children))) (fact_i 𝓤 _ (emp 𝓤) step.within) $ use0 𝓛 (raw (fact 𝓤 (κs.1.1.1.0 ⊑ V.lives))) (fact_i 𝓤 _ (emp 𝓤) inV) $ join ! $
    use0 𝓛 (raw (fact 𝓤 (κs.1.1.0 ⊑ K.lives))) (fact_i 𝓤 _ (emp 𝓤) inK) $ join ! $ move ! (1 ∷ 0 ∷ []) $ use2 𝓛 (raw (Cb.pre z₃)) (id⊢ 𝓤 _) $
    calls_at ! (framed 𝓤 𝓛.H 𝓜 (tables 𝓤 𝓛.H 𝓜 𝓡 𝓡.env)) Cb (child_box_met 𝓤 𝓛 𝓜 𝓡 (code.calls-radix_nodes::search::find_mut::child_box 𝓡.env wired) K V LK LV) z₃
    (and_then ! (get ! refl) (and_then ! (get ! refl) (no_more !))) (λ v₃.
    use1 𝓛 (later (some (λ (x : MutBor (Box (TrieNode K.Denot V.Denot) Global)). (Toks₃ ⊛ ‵ (Top.own_val x (v₃ ∷ []))) ⊛
    some (λ (ws : Unit {0} × (Unit {0} × Unit {0})). ‵ (lasts (cb.ended K V) z₃.0.0 z₃.0.3 ws) ⊛
    (‵ (LendsChildBox (param 0 K) (param 1 V) n p.1 x) ⊛ raw (fact 𝓤 (x.now ≡ get_or (out-TrieNode K.Denot V.Denot n.now).children.items p.1 x.now))))))) (id⊢ 𝓤 _) $
    await ! tt $ pick ! (λ x. split ! $ split ! $ move ! (1 ∷ []) $
    peeks ! Top (Is Top) (shows 𝓛 Top) x (v₃ ∷ []) (λ is₄.
    rewrite ! 0 (λ (us : List Val). ‵ (Top.own_val x us)) is₄.0 refl $
    lands_as ! (ap only is₄.0) refl (tt, tt) $
    move ! (2 ∷ []) $ pick ! (λ ws₃. split ! $ drop ! $ split ! $ move ! (1 ∷ []) $ heard ! _ (λ boxed.
    -- [how the node follows the child's box; that box; the tokens but the nibbles'; how the box follows the node; the nibbles' token; the nibbles]
    move ! (2 ∷ []) $ split ! $ move ! (5 ∷ 1 ∷ []) $ join ! $ move ! (1 ∷ 0 ∷ []) $ join ! $ move ! (2 ∷ 4 ∷ 0 ∷ []) $
    let lt : p.1 < length (out-TrieNode K.Denot V.Denot n.now).children.items = subst (λ (k : ℕ). p.1 < k) (out-TrieNode K.Denot V.Denot n.now).children.ok.0 step.within in
    use3 𝓛 (raw (Self.pre (at x p.2))) (asks x p.2 is₂.1 said.1 (boxed_child_is_placed n.now p.1 x.now placedₙ lt (sym boxed)).1) $
    calls_from ! fm (raw (Self.pre (at x p.2))) (Self.args (at x p.2)) (Self.post (at x p.2))
    (smaller (length nib.now - p.2) (subst (λ (u : ℕ). length nib.now - p.2 < u) e (less_is_left (length nib.now) depth p.2 further said.1)) (at x p.2) refl)
    (and_then ! (get ! refl) (and_then ! (get ! refl) (and_then ! (get ! refl) (no_more !)))) (λ v₄.
    let below : List ℕ = fragment_of x.now.value ++ drop_n p.2 nib.now in
    use1 𝓛 (later (some (λ (x₄ : Option (MutBor (TrieNode K.Denot V.Denot))). (Toks ⊛ ‵ (Lent.own_val x₄ (v₄ ∷ []))) ⊛
    some (λ (ws : Unit {0} × (Unit {0} × (Unit {0} × Unit {0}))). ‵ (lasts (T' K V) κs (at x p.2).0.3 ws) ⊛ ‵ (LendsNode (param 0 K) (param 1 V) x below x₄))))) (id⊢ 𝓤 _) $
    await ! tt $ pick ! (λ x₄. split ! $ split ! $ move ! (1 ∷ []) $
    peeks ! Lent (Is Lent) (shows 𝓛 Lent) x₄ (v₄ ∷ []) (λ is₅.
    lands_as ! refl refl ((lent_laws.lawful 𝓛).typed x₄ (v₄ ∷ []) is₅).0 $
    returns ! (look_at ! 0 refl) $ free_all ! refl $
    move ! (2 ∷ []) $ pick ! (λ ws₄. split ! $ drop ! $
    -- [how the child's box follows the result; the result; the tokens; how the node follows the child's box; how the box follows the node]
    let Put : List ℕ → (m m' w : TrieNode K.Denot V.Denot) → Type 0 = λ o m m' w. IfSome x₄ (λ u. Succeeds o (tree_of u.now) (tree_of w) (tree_of m) (tree_of m')) in
    move ! (3 ∷ 0 ∷ []) $ use2 𝓛 (‵ (LendsSo (N K V) (N K V) n x₄ (λ m w. Put (path n.now) n.now m w) (λ m. KeepsNode x₄ (path n.now) (tree_of n.now) (tree_of m))))
    (promise_through_part 𝓛 (N K V) (B K V) (N K V) (with_child_box n.now p.1) n.ghost_name x.ghost_name
    (λ w b. Put below x.now.value b.value w) (λ b. KeepsNode x₄ below (tree_of x.now.value) (tree_of b.value)) (λ w m. Put (path n.now) n.now m w) (λ m. KeepsNode x₄ (path n.now) (tree_of n.now) (tree_of m))
    (λ w b s. if_some_implies x₄ (λ u h. replaced_through_child n.now p.1 x.now nib.now depth p.2 placedₙ step (sym boxed) b (tree_of u.now) (tree_of w) h) s)
    (λ b s. kept_through_child n.now p.1 x.now nib.now depth p.2 placedₙ step (sym boxed) x₄ b s) (ghost_name_of x₄)) $
    move ! (3 ∷ 0 ∷ []) $ use2 𝓛 (‵ (Lends' p.0.ghost_name p.0.now x₄))
    (promise_through_part 𝓛 (B K V) (N K V) (N K V) (with_value p.0.now) p.0.ghost_name n.ghost_name
    (λ w m. Put (path n.now) n.now m w) (λ m. KeepsNode x₄ (path n.now) (tree_of n.now) (tree_of m)) (λ w b. Put (path p.0.now.value) p.0.now.value b.value w)
    (λ b. KeepsNode x₄ (path p.0.now.value) (tree_of p.0.now.value) (tree_of b.value))
    (λ w m s. subst (λ (z : TrieNode K.Denot V.Denot). Put (path z) z m w) inside s) (λ m s. subst (λ (z : TrieNode K.Denot V.Denot). KeepsNode x₄ (path z) (tree_of z) (tree_of m)) inside s) (ghost_name_of x₄)) $
    rewrite ! 0 (λ (g : ℕ). ‵ (Lends' g p.0.now x₄)) name refl $ rewrite ! 0 (λ (m : Box (TrieNode K.Denot V.Denot) Global). ‵ (Lends' r.ghost_name m x₄)) same refl $
    out v₄ x₄)))))))))))))))))))))))))))))))))))))
