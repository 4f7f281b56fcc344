use Rattle.std.proofs.Common.{◌≡◌, ◌≤◌, ◌<◌, [], All, AllPairs, map as each, nat_cmp, w64, Less, sym, subst}
use Rattle.std.proofs.lemmas.List.Elements.{All-contains_itself, All-take, All-weaker}
use Rattle.std.proofs.lemmas.Map.Keys.{le_from_is_le}
use Rattle.std.proofs.lemmas.Result.{IfOk-weaker}
use Rattle.std.specs.Cmp.{ranked}
use Rattle.std.specs.List.{Contains}
use Rattle.std.specs.declared.ops.Bound.TheVariants.{Included, Excluded}
use Rattle.radix_trie.specs.Integers.{unsigned_key}
use Rattle.radix_trie.proofs.LawLemmas.Pages.{pairs_of_page}
use Rattle.radix_trie.specs.Views.{pairs_within}
use Rattle.trie_examples.proofs.log_lines.lines_between.Goals as goal

pub returns-clause-times : goal.returns-clause-times
returns-clause-times g c =
    let from = c.args.from in
    let to = c.args.to in
    let pairs = pairs_within c.args.log.now [] (Included (unsigned_key w64 from)) (Excluded (unsigned_key w64 to)) in
    let held = c.keys_of_ranges_rise.ensures.within nat_cmp (c.numbers_keep_their_order.ensures w64) c.args.log.now c.requires [] (Included from) (Excluded to) c.ranges.from.fits c.ranges.to.fits in
    let all = All-weaker (Contains pairs) (λ p. (from ≤ p.0) × (p.0 < to))
    (λ p h. (let at = (held p).0 h in (le_from_is_le from p.0 at.1, ranked p.0 to Less (sym at.2)))) pairs (All-contains_itself pairs) in
    let page = All-take (λ p. (from ≤ p.0) × (p.0 < to)) c.args.most c.in_ok-range.field-0
    (subst (All (λ p. (from ≤ p.0) × (p.0 < to))) (sym (c.in_ok-range.ensures.walk tt)) all) in
    IfOk-weaker c.first_pairs.result _ _ (λ lines is. subst (All (λ p. (from ≤ p.0) × (p.0 < to))) (sym is) page) c.first_pairs.ensures

pub returns-clause-rising : goal.returns-clause-rising
returns-clause-rising g c =
    let rising = c.keys_of_ranges_rise.ensures.rising nat_cmp (c.numbers_keep_their_order.ensures w64) c.args.log.now c.requires []
    (Included (unsigned_key w64 c.args.from)) (Excluded (unsigned_key w64 c.args.to)) in
    let page = pairs_of_page (λ p. p.0) (λ x y. nat_cmp x y ≡ Less) c.args.most c.in_ok-range.field-0
    (subst (λ ps. AllPairs (λ x y. nat_cmp x y ≡ Less) (each (λ p. p.0) ps)) (sym (c.in_ok-range.ensures.walk tt)) rising) in
    IfOk-weaker c.first_pairs.result _ _ (λ lines is. subst (λ ps. AllPairs (λ x y. nat_cmp x y ≡ Less) (each (λ p. p.0) ps)) (sym is) page) c.first_pairs.ensures
