use Rattle.std.proofs.Common.{◌≡◌, Some, ap, sym, refl, ◌∙◌}
use Rattle.std.specs.Option.{option_copied_mut}
use Rattle.nibble_map.specs.Maps.{value_at}
use Rattle.radix_trie.proofs.ChangeLemmas.Written.{match_some}
use Rattle.radix_trie.proofs.trie.Trie.change_at.Goals as goal

pub returns-in-Some : goal.returns-in-Some
returns-in-Some g c =
    let w = c.f.new.arg2 in
    let stored : value_at c.args.self.now c.args.list.now ≡ Some c.in-Some.value.now = sym c.at_mut.ensures.value ∙ ap option_copied_mut c.in-Some.is in
    match_some _ c.in-Some.value.now _ _ stored (refl, w, record { shown = _; shows = refl; left = _; met = c.f.ensures; leaves = refl }, refl)
