use Rattle.std.proofs.Common.{◌≤◌, ap, subst, sym}
use Rattle.sorted_tables.specs.Tables.{IsPartedAt}
use Rattle.flat_routes.specs.declared.head.SpanPlan.{SpanPlan}
use Rattle.flat_routes.specs.Images.{IsImage, span_count, start_in}
use Rattle.flat_routes.specs.SpanLaws.{SpansOf}
use Rattle.flat_routes.proofs.search.find.Goals as goal

pub returns-clause-row : goal.returns-clause-row
returns-clause-row c = λ image.
    let wide = c.args.wide in
    let bs = c.args.image.now in
    let a = c.args.number in
    let n = c.count_in_front-count.result in
    let parted = subst (λ (s : SpansOf). IsImage s.wide s.bytes → IsPartedAt (λ k. start_in s.wide s.bytes k ≤ a) (λ k. start_in s.wide s.bytes k ≤ a → ⊥) (span_count s.wide s.bytes) n)
    c.of-spans.ensures c.count_in_front-count.ensures.count image in
    c.answer_before.ensures.row a c.requires.fits image
    (subst (λ m. IsPartedAt (λ k. start_in wide bs k ≤ a) (λ k. start_in wide bs k ≤ a → ⊥) m n) (sym (ap (λ (s : SpanPlan). s.count) c.requires.plan.spans)) parted)

pub returns-clause-last : goal.returns-clause-last
returns-clause-last c = λ image.
    let wide = c.args.wide in
    let bs = c.args.image.now in
    let a = c.args.number in
    let n = c.count_in_front-count.result in
    let parted = subst (λ (s : SpansOf). IsImage s.wide s.bytes → IsPartedAt (λ k. start_in s.wide s.bytes k ≤ a) (λ k. start_in s.wide s.bytes k ≤ a → ⊥) (span_count s.wide s.bytes) n)
    c.of-spans.ensures c.count_in_front-count.ensures.count image in
    c.answer_before.ensures.last a c.requires.fits image
    (subst (λ m. IsPartedAt (λ k. start_in wide bs k ≤ a) (λ k. start_in wide bs k ≤ a → ⊥) m n) (sym (ap (λ (s : SpanPlan). s.count) c.requires.plan.spans)) parted)
