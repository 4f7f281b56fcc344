use Rattle.std.proofs.Common.{ap, reverse, subst, sym, ◌∙◌}
use Rattle.radix_trie.specs.Walks.{HasFullRows, left_in, left_rows}
use Rattle.radix_trie.proofs.WalkLemmas.Back.{full-reverse, left-reverse}
use Rattle.radix_trie.proofs.iter.back.CursorBack.of.Goals as goal

pub invariant_of-result : goal.invariant_of-result
invariant_of-result g c =
    subst (λ rs. HasFullRows (left_rows rs)) (sym c.reverse.ensures.items ∙ c.in-Some.ensures.items) (full-reverse c.args.frames.items c.requires.full)

pub returns-in-Some : goal.returns-in-Some
returns-in-Some g c =
    ap (λ rs. reverse (left_in rs)) (sym c.in-Some.ensures.items ∙ c.reverse.ensures.items) ∙ ap reverse (left-reverse c.args.frames.items)
