use Rattle.std.proofs.Common.{rules, refl, inl, inr, arith, ap, length}
use Rattle.radix_trie.proofs.CommandLemmas.{view_steps_moved}
use Rattle.radix_trie.proofs.commands.within.Goals as goal

pub returns-in_default : goal.returns-in_default
returns-in_default g c = inr (inr (
  (refl, search rules),
  λ _ o. elim o [
    | inl closed ↦ closed (c.in-Ok.ensures.point refl)
    | inr none ↦ (let empty = c.in_default.ensures.succeeds (omega (arith, c.len.ensures, c.args.list.ok.0, ap length none)) in cc empty)
  ],
))

pub returns-in-Ok : goal.returns-in-Ok
returns-in-Ok g c =
    inl (c.in-Ok.ensures.point refl, _, refl, view_steps_moved _ _ _ _ _ _ _ _ _ _ c.run_view.ensures.steps c.in-Ok.ensures.path c.in-Ok.ensures.map (search rules))
