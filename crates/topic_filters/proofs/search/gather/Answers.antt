use Rattle.std.proofs.Common.{◌≡◌, ◌∙◌, [], ◌∷◌, ◌++◌, ap, arith, rules, sym}
use Rattle.radix_trie.specs.Walks.{deref_pairs}
use Rattle.topic_filters.proofs.SearchLemmas.{all_turns-push, all_wanted-push}
use Rattle.topic_filters.specs.Search.{all_turns, all_wanted}
use Rattle.topic_filters.proofs.search.gather.Goals as goal

pub loop-next-smaller : goal.loop-next-smaller
loop-next-smaller g c =
    let popped : c.loop-next.pending.items ≡ c.pop.new.self.items ++ c.in-Some.next ∷ [] = search rules in
    let before = ap all_turns popped ∙ all_turns-push c.pop.new.self.items c.in-Some.next in
    omega (arith, before, c.in_ok-turn.ensures.turns)

pub loop-next-preserved : goal.loop-next-preserved
loop-next-preserved g c =
    let popped : c.loop-next.pending.items ≡ c.pop.new.self.items ++ c.in-Some.next ∷ [] = search rules in
    let before = ap all_wanted popped ∙ all_wanted-push c.pop.new.self.items c.in-Some.next in
    c.in_ok-turn.ensures.found ∙ sym (ap (λ xs. deref_pairs c.loop-next.found.items ++ xs) before) ∙ c.loop-next.invariant
