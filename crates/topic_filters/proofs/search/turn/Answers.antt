use Rattle.std.proofs.Common.{◌≡◌, ◌∙◌, [], ◌∷◌, ◌++◌, ap, append_assoc, rules, sym}
use Rattle.std.proofs.lemmas.Result.{IfOk-weaker}
use Rattle.nibble_map.proofs.ListLemmas.Cut.{empty_of_length}
use Rattle.radix_trie.specs.Walks.{deref_pairs}
use Rattle.topic_filters.proofs.SearchLemmas.{held-on, held_behind-on}
use Rattle.topic_filters.specs.Filters.{any_level, any_rest}
use Rattle.topic_filters.specs.Search.{all_wanted, held, held_behind, level_list, wanted}
use Rattle.topic_filters.proofs.search.turn.Goals as goal

pub returns-in_default-split_first-clause-found : goal.returns-in_default-split_first-clause-found
returns-in_default-split_first-clause-found g c =
    let m = c.args.next.at in
    let old = deref_pairs c.args.found.now.items in
    let later = all_wanted c.args.pending.now.items in
    let rest = level_list any_rest in
    let none : c.in-Some.levels.now ≡ [] = empty_of_length c.in-Some.levels.now c.in_default-split_first.ensures.cases in
    let is : wanted m c.args.next.levels ≡ held m [] ++ held m rest = ap (wanted m) c.in-Some.is ∙ ap (held_behind m []) none in
    let last : held c.below-rest_of_all.result [] ≡ held m rest =
    held-on m c.below-rest_of_all.result c.args.wildcards.now.any_rest c.below-rest_of_all.ensures ∙ ap (held m) c.requires.any_rest in
    IfOk-weaker c.take-in_default-split_first-2.result _ _
    (λ _ e. ap (λ xs. xs ++ later) (e ∙ (λ i. c.in_ok-take.ensures i ++ last i) ∙ append_assoc old (held m []) (held m rest))
    ∙ append_assoc old (held m [] ++ held m rest) later ∙ ap (λ xs. old ++ (xs ++ later)) (sym is))
    c.take-in_default-split_first-2.ensures

pub returns-clause-found : goal.returns-clause-found
returns-clause-found g c =
    let m = c.args.next.at in
    let old = deref_pairs c.args.found.now.items in
    let later = all_wanted c.args.pending.now.items in
    let level = c.in-Some-split_first.level.now in
    let levels = c.in-Some-split_first.rest.now in
    let split : c.in-Some.levels.now ≡ level ∷ levels = search rules in
    let same = held_behind m level levels in
    let any = held_behind m (level_list any_level) levels in
    let rest = held m (level_list any_rest) in
    let is : wanted m c.args.next.levels ≡ same ++ (any ++ rest) = ap (wanted m) c.in-Some.is ∙ ap (held_behind m []) split in
    let by_rest : all_wanted c.add.new.pending.items ≡ rest ++ later =
    c.in_ok-add.ensures.wanted
    ∙ ap (λ xs. xs ++ later) (held-on m c.below-rest_of_all.result c.args.wildcards.now.any_rest c.below-rest_of_all.ensures ∙ ap (held m) c.requires.any_rest) in
    let by_any : all_wanted c.add-2.new.pending.items ≡ any ++ (rest ++ later) =
    c.in_ok-add-2.ensures.wanted
    ∙ (λ i. (held_behind-on m c.below.result c.args.wildcards.now.any_level c.below.ensures levels ∙ ap (λ q. held_behind m q levels) c.requires.any_level) i ++ by_rest i) in
    IfOk-weaker c.add-3.result _ _
    (λ _ e. ap (λ xs. old ++ xs)
    (e ∙ (λ i. held_behind-on m c.below-2.result level c.below-2.ensures levels i ++ by_any i)
    ∙ ap (λ xs. same ++ xs) (sym (append_assoc any rest later)) ∙ sym (append_assoc same (any ++ rest) later) ∙ ap (λ xs. xs ++ later) (sym is)))
    c.add-3.ensures.wanted
