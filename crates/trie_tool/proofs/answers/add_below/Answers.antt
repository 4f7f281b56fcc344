use Rattle.std.proofs.Common.{◌≡◌, ◌++◌, ◌∙◌, [], ap, sym, subst, List, ℕ, rules, codes}
use Rattle.std.specs.Fmt.{digits}
use Rattle.std.specs.Option.{IfNone}
use Rattle.nibble_map.specs.Nibbles.{nibbles}
use Rattle.radix_trie.specs.Views.{pairs_below}
use Rattle.trie_tool.specs.Request.{below_answer}
use Rattle.trie_tool.proofs.answers.add_below.Goals as goal

pub returns-in_ok-extend_from_slice-in-None-clause-text : goal.returns-in_ok-extend_from_slice-in-None-clause-text
unfolding digits
returns-in_ok-extend_from_slice-in-None-clause-text c =
    let e = nibbles c.args.key.now in
    let before : List ℕ = c.args.out.now.items in
    let none : pairs_below c.args.numbers.now e ≡ [] = subst (λ o. IfNone o (pairs_below c.args.numbers.now e ≡ [])) c.in-None.is c.in_ok-rows.ensures.none in
    let added : c.extend_from_slice.new.self.items ≡ before ++ codes "0\n" = search rules in
    added ∙ ap (λ l. before ++ l) (sym (ap below_answer none))
