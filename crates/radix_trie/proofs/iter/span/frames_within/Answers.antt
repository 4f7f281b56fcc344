use Rattle.std.proofs.Common.{◌≡◌, ◌++◌, ap, subst, sym, ◌∙◌}
use Rattle.radix_trie.specs.Walks.{HasFullRows, bound_now, left_in, left_of, left_rows, stacked, way_high, way_low}
use Rattle.radix_trie.proofs.PathLemmas.Loci.{false_is_not_true}
use Rattle.radix_trie.proofs.WalkLemmas.Stacks.{all_bare, full-reverse, stacked-reverse}
use Rattle.radix_trie.proofs.iter.span.frames_within.Goals as goal
use Rattle.radix_trie.proofs.iter.span.frames_within.Goals.{in-Some+in_ok-push_earlier, in_default, in-Some-low+in_ok-push_later, in_default-low}

pub returns-in_err-push_earlier-clause-none : goal.returns-in_err-push_earlier-clause-none
returns-in_err-push_earlier-clause-none g c = λ none.
    let high = bound_now c.args.high in
    let p = c.part-parting in
    absurd (false_is_not_true (c.in_err-push_earlier.ensures.none (ap (way_high high) (sym c.in-Some.is) ∙ (all_bare (bound_now c.args.low) high p.result p.ensures.pairs none).2)))

pub push_frame-requires-clause-rows : goal.push_frame-requires-clause-rows
push_frame-requires-clause-rows g c = elim c.match-parting.branch [
  | in-Some+in_ok-push_earlier w ↦ subst (λ rs. HasFullRows (left_rows rs)) (sym (ap (λ s. s.items) w.stack-is ∙ w.reverse.ensures.items)) (full-reverse w.push_earlier.new.list.items w.in_ok-push_earlier.ensures.rows)
  | in_default w ↦ subst (λ rs. HasFullRows (left_rows rs)) (sym (ap (λ s. s.items) w.stack-is ∙ c.new-stack.ensures.items)) tt
]

pub returns-in_err-push_frame-clause-none : goal.returns-in_err-push_frame-clause-none
returns-in_err-push_frame-clause-none g c = λ none.
    let p = c.part-parting in
    absurd (false_is_not_true (c.in_err-push_frame.ensures.none (all_bare (bound_now c.args.low) (bound_now c.args.high) p.result p.ensures.pairs none).1))

pub returns-in_err-push_later-clause-none : goal.returns-in_err-push_later-clause-none
returns-in_err-push_later-clause-none g c = λ none.
    let low = bound_now c.args.low in
    let p = c.part-parting in
    absurd (false_is_not_true (c.in_err-push_later.ensures.none (ap (way_low low) (sym c.in-Some-low.is) ∙ (all_bare low (bound_now c.args.high) p.result p.ensures.pairs none).0)))

pub returns-clause-pairs : goal.returns-clause-pairs
returns-clause-pairs g c =
    let low = bound_now c.args.low in
    let high = bound_now c.args.high in
    let p = c.part-parting in
    let left = stacked c.push_frame.new.stack.items in
    let behind : stacked c.match-parting.stack.items ≡ way_high high p.result.high = elim c.match-parting.branch [
      | in-Some+in_ok-push_earlier w ↦ ap (λ s. stacked s.items) w.stack-is ∙ ap stacked w.reverse.ensures.items ∙ stacked-reverse w.push_earlier.new.list.items
          ∙ w.in_ok-push_earlier.ensures.pairs ∙ (λ k. left_in (c.new-stack.ensures.items k) ++ way_high high (sym w.in-Some.is k))
      | in_default w ↦ ap (λ s. stacked s.items) w.stack-is ∙ ap stacked c.new-stack.ensures.items ∙ ap (way_high high) (sym w.in_default.is)
    ] in
    let all : stacked c.match-parting-2.stack.items ≡ way_low low p.result.low ++ left = elim c.match-parting-2.branch [
      | in-Some-low+in_ok-push_later w ↦ ap (λ s. stacked s.items) w.stack-is ∙ w.in_ok-push_later.ensures.pairs ∙ ap (λ way. way_low low way ++ left) (sym w.in-Some-low.is)
      | in_default-low w ↦ ap (λ s. stacked s.items) w.stack-is ∙ ap (λ way. way_low low way ++ left) (sym w.in_default-low.is)
    ] in
    all ∙ ap (λ ps. way_low low p.result.low ++ ps) (c.in_ok-push_frame.ensures.last ∙ ap (λ ps. left_of p.result.rest ++ ps) behind) ∙ sym p.ensures.pairs
