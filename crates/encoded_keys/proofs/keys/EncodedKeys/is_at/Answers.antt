use Rattle.std.proofs.Common.{nat_eq, ap, sym, ◌∙◌}
use Rattle.std.specs.Cmp.Lexicographic.{pointwise}
use Rattle.encoded_keys.proofs.CodeLemmas.Slots.{decides_lists}
use Rattle.encoded_keys.proofs.keys.EncodedKeys.is_at.Goals as goal

pub returns-in-Some-as_nibbles : goal.returns-in-Some-as_nibbles
returns-in-Some-as_nibbles g c =
    let own = c.in-Some-as_nibbles.ensures.nibbles ∙ sym (c.requires.keyed c.args.at c.in-Some.field-0.now c.in-Some.ensures.lookup.3.0 (c.in-Some.ensures.lookup.3.1 _)) in
    decides_lists _ _ _ (c.eq.ensures ∙ ap (λ xs. pointwise nat_eq xs c.args.list.now) own)
