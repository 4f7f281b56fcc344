-- The logic's own names, for the proofs by hand that go through code step by step.
pub use mathlib.Core.List.{List, [], ◌∷◌, ◌++◌}
pub use mathlib.Core.Path.{◌≡◌, refl, sym, subst, ap, ◌∙◌}
pub use Prim.Native.Nat.{ℕ, suc}
pub use lib.Dec.{T}
pub use seplogic.Ra.Ura.{Ura}
pub use base.Fml.{Fml, ftrue, flft, Lft, GName, Share, fsep}
pub use base.Logic.{SProp, ent, sep, ex, emp, id⊢, via}
pub use mir.Syntax.{Ty, ty_ref, Fn, Callee, local, value_local, seq, assign, call, return, place, deref, copy, addr_of, mut, imm, named, erased, Sym, ty_struct, tcons, tnil, field, rv_opd}
pub use mir.Val.{Val, has_ty, WT, vptr, vstruct, of_list}
pub use prog.Model.{Model}
pub use prog.Wp.{Closed, WpFn}
pub use types.ByLocal.{alloc_all, pass_all, free_all, look_at, get, through, sets, lands_as, look_in_at, get_in}
pub use types.Kit.{‵, raw, ◌⊛◌, some, later, ◌$◌, ◌∵◌, !, qed, move, drop, use0, use1, use2, use3, split, join, pick, await, suffices, done, Item, keep, split3, fsplit3, fjoin, feq_l, frame, fsplit, fpick, rewrite, show, updating, now as at_once}
pub use types.Logic.{Logic, sem}
pub use types.Part.{whole, sub}
pub use types.Run.{enter, addr, stop, no_more, and_then, returns, fld, of_opd, from, hop}
pub use types.SemTy.{Body}
pub use contract.BorrowLft.{◌⊑◌}
pub use contract.Lifetimes.{Lfts, Shares, Outlives, AllOutlive, toks}
pub use contract.Monad.{fact, fact_i}
pub use contract.Running.{Running, tables, tables_of}
pub use denote.Exit.{no, yes}
pub use denote.Follow.{follows}
pub use denote.Laws.{Typed, Is, shows}
pub use denote.Memory.{mem}
pub use denote.Param.{param, layout}
pub use denote.Param.Laws.{Laws, of_field, row_shared, param_laws}
pub use denote.Param.Shared.{mut_ref_shared}
pub use denote.RattleType.{RattleType}
pub use denote.Ref.{MutBor, mut_vals, mut_Tells, shr_vals, shr_Tells, NamedLft, MutRef, Bor, ShrRef}
pub use denote.Signature.{plain, mut_ref_to, shr_ref_to, named_lft}
pub use denote.Steps.{nothing, peeks, heard, only}
pub use denote.Struct.Field.{mut_ref_field}
pub use denote.Struct.Laws.{mut_ref_laws}
pub use denote.Struct.Tuple.{Tuple, tuple_laws, tuple_name}
pub use denote.Triple.Call.{calls_at, calls_from}
pub use denote.Triple.Clauses.{Clauses, Ended, Lasts, closing, lasts}
pub use denote.Triple.Entry.{on_entry}
pub use denote.Triple.Spec.{Meets, triple_of}
pub use denote.Triple.Table.{framed}
pub use denote.Triple.Walked.{Stays, stay_dropped, walk_of, ends_at, Goes-spent_ref, Goes-dropped}
pub use Rattle.std.proofs.raw_atomic.Walks.{proved, proved_at}
