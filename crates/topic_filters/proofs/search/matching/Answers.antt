use Rattle.std.proofs.Common.{◌≡◌, ◌∙◌, [], ◌∷◌, false, rules, true}
use Rattle.std.proofs.lemmas.Result.{IfOk-weaker}
use Rattle.topic_filters.proofs.SearchLemmas.{held_behind-on, plain_topic, reserved_topic}
use Rattle.topic_filters.specs.Filters.{is_reserved}
use Rattle.topic_filters.specs.Search.{held_behind, level_lists}
use Rattle.topic_filters.proofs.search.matching.Goals as goal

pub returns-then-not-is_server_own : goal.returns-then-not-is_server_own
returns-then-not-is_server_own g c =
    let topic = c.args.topic.now in
    let plain : is_reserved topic ≡ false = search rules in
    let lists : c.as_slice.result.now ≡ level_lists topic = c.as_slice.ensures.value ∙ c.in_ok-levels.ensures in
    IfOk-weaker c.gather.result _ _
    (λ _ e. e ∙ (λ i. held_behind (c.descent-top.ensures i) [] (lists i)) ∙ plain_topic c.args.filters.now topic plain)
    c.gather.ensures

pub returns-in-Some : goal.returns-in-Some
returns-in-Some g c =
    let topic = c.args.topic.now in
    let first = c.in-Some.first.now in
    let rest = c.in-Some.rest.now in
    let own : is_reserved topic ≡ true = search rules in
    let lists : first ∷ rest ≡ level_lists topic = search rules in
    IfOk-weaker c.gather-in-Some.result _ _
    (λ _ e. e ∙ held_behind-on c.descent-top.result c.below.result first c.below.ensures rest
    ∙ (λ i. held_behind (c.descent-top.ensures i) first rest) ∙ reserved_topic c.args.filters.now topic first rest own lists)
    c.gather-in-Some.ensures
