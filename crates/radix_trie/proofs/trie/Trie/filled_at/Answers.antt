use Rattle.std.proofs.Common.{ap, sym, refl, subst, ◌∙◌}
use Rattle.std.specs.Option.{UnwrapsOrElse, option_copied_mut}
use Rattle.nibble_map.specs.Maps.{value_at}
use Rattle.nibble_map.proofs.MapLemmas.Edits.{not_None, same_Some}
use Rattle.radix_trie.proofs.ChangeLemmas.Filled.{value_at-filled, with_value-filled}
use Rattle.radix_trie.proofs.ChangeLemmas.Written.{same_after}
use Rattle.radix_trie.proofs.trie.Trie.filled_at.Goals as goal

pub unreachable-requires : goal.unreachable-requires
unreachable-requires g c =
    let filled = c.in_ok-fill.ensures.filled in
    let stands = value_at-filled c.args.self.now c.args.list.now c.args.key filled.0 c.fill.new.self filled.2 _ filled.1 in
    not_None _ (ap option_copied_mut (sym c.in-None.is) ∙ c.at_mut.ensures.value ∙ stands)

pub returns : goal.returns
returns g c =
    let m = c.args.self.now in
    let list = c.args.list.now in
    let filled = c.in_ok-fill.ensures.filled in
    let stands = value_at-filled m list c.args.key filled.0 c.fill.new.self filled.2 _ filled.1 in
    let same = same_Some _ _ (ap option_copied_mut (sym c.in-Some.is) ∙ c.at_mut.ensures.value ∙ stands) in (
      same_after _ _ _ (λ w. with_value-filled m list c.args.key filled.0 c.fill.new.self filled.2 w),
      record {
        writes_back = tt;
        value = subst (UnwrapsOrElse (value_at m list) (goal.F-post g c.args.default)) (sym same) filled.1;
        handed_back = tt;
        stored = λ _. refl;
        room = c.in_ok-fill.ensures.room;
        why = tt;
      },
    )
