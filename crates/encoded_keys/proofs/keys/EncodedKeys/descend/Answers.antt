use Rattle.std.proofs.Common.{ℕ, ◌+◌, ◌-◌, ◌*◌, Bool, length, sym, ap, subst, ◌∙◌, arith}
use Rattle.std.proofs.lemmas.Bool.{eqb-false}
use Rattle.encoded_keys.specs.Blocks.{IsCounted}
use Rattle.encoded_keys.specs.Heads.{AreNibbles, bound_of}
use Rattle.encoded_keys.proofs.CodeLemmas.Levels.{block_within, further_in_block, reached, sought_in_block}
use Rattle.encoded_keys.proofs.keys.EncodedKeys.descend.Goals as goal
use Rattle.encoded_keys.proofs.keys.EncodedKeys.descend.Goals.{else-is_empty, then-is_empty}

pub part-requires-clause-order : goal.part-requires-clause-order
part-requires-clause-order c =
    let within = block_within c.args.sought.now.is_through c.args.sought.now.list.now c.args.self.now c.requires.rising c.args.level.0 c.args.level.1.now c.args.level.2.now c.requires.level c.args.at c.requires.around in
    omega (arith, c.min-to.ensures, within)

pub count_in-requires-clause-sought : goal.count_in-requires-clause-sought
count_in-requires-clause-sought c =
    sought_in_block c.args.sought.now.is_through c.args.sought.now.list.now c.args.self.now c.requires.rising c.args.level.0 c.args.level.1.now c.args.level.2.now c.requires.level c.args.at c.requires.around
    c.min-to.result c.requires.counted c.min-to.ensures c.skip_at.result c.skip_at.ensures (omega arith) c.part.result.now c.head_of-head.result c.part.ensures
    (c.head_of-head.ensures.head ∙ ap (bound_of c.args.sought.now.is_through) c.behind.ensures) (subst (AreNibbles 15) c.behind.ensures (λ k _. c.head_of-head.ensures.nibbles k))

pub count_in_both-requires-clause-sought : goal.count_in_both-requires-clause-sought
count_in_both-requires-clause-sought c =
    sought_in_block c.args.sought.now.is_through c.args.sought.now.list.now c.args.self.now c.requires.rising c.args.level.0 c.args.level.1.now c.args.level.2.now c.requires.level c.args.at c.requires.around
    c.min-to.result c.requires.counted c.min-to.ensures c.skip_at.result c.skip_at.ensures (omega arith) c.part.result.now c.head_of-head.result c.part.ensures
    (c.head_of-head.ensures.head ∙ ap (bound_of c.args.sought.now.is_through) c.behind.ensures) (subst (AreNibbles 15) c.behind.ensures (λ k _. c.head_of-head.ensures.nibbles k))

pub part-requires-else-is_empty-clause-within : goal.part-requires-else-is_empty-clause-within
part-requires-else-is_empty-clause-within c =
    let further = c.requires.more (omega (arith, eqb-false _ _ (sym c.is_empty.ensures ∙ c.if-is_empty.false))) in
    omega (arith, c.min-to.ensures, further.many)

pub part-requires-else-is_empty-clause-order : goal.part-requires-else-is_empty-clause-order
part-requires-else-is_empty-clause-order c =
    let within = block_within c.args.sought.now.is_through c.args.sought.now.list.now c.args.self.now c.requires.rising c.args.level.0 c.args.level.1.now c.args.level.2.now c.requires.level c.args.at c.requires.around in
    omega (arith, c.min-to.ensures, within)

pub count_in_both-requires-clause-more : goal.count_in_both-requires-clause-more
count_in_both-requires-clause-more c =
    (further_in_block c.args.sought.now.is_through c.args.sought.now.list.now c.args.self.now c.requires.rising c.args.level.0 c.args.level.1.now c.args.level.2.now c.requires.level c.args.at c.requires.around
    c.min-to.result c.requires.counted c.min-to.ensures c.skip_at.result c.skip_at.ensures (omega arith) c.args.more.now c.part-else-is_empty.result.now
    (c.requires.more (omega (arith, eqb-false _ _ (sym c.is_empty.ensures ∙ c.if-is_empty.false)))) c.part-else-is_empty.ensures).0

pub count_in_both-requires-clause-many : goal.count_in_both-requires-clause-many
count_in_both-requires-clause-many c =
    (further_in_block c.args.sought.now.is_through c.args.sought.now.list.now c.args.self.now c.requires.rising c.args.level.0 c.args.level.1.now c.args.level.2.now c.requires.level c.args.at c.requires.around
    c.min-to.result c.requires.counted c.min-to.ensures c.skip_at.result c.skip_at.ensures (omega arith) c.args.more.now c.part-else-is_empty.result.now
    (c.requires.more (omega (arith, eqb-false _ _ (sym c.is_empty.ensures ∙ c.if-is_empty.false)))) c.part-else-is_empty.ensures).1 ∙ sym (ap length c.part.ensures)

pub returns : goal.returns
returns c =
    let t = c.args.sought.now.is_through in
    let q = c.args.sought.now.list.now in
    let S = c.args.level.0 in
    let first = S * (16 * c.args.at + 1) - 1 in
    let Counted : ℕ × Bool → Type 0 = λ r. IsCounted t q c.args.self.now first S (length c.part.result.now) r.0 r.1 in
    let counted : Counted c.if-is_empty.count = elim c.if-is_empty.branch [
      | then-is_empty w ↦ subst Counted (sym w.count-is) w.count_in.ensures
      | else-is_empty w ↦ subst Counted (sym w.count-is) w.count_in_both.ensures
    ] in
    reached c.args.sought.now.is_through c.args.sought.now.list.now c.args.self.now c.requires.rising c.args.level.0 c.args.level.1.now c.args.level.2.now c.requires.level c.args.at c.requires.around
    c.min-to.result c.requires.counted c.min-to.ensures c.if-is_empty.count.0 c.if-is_empty.count.1
    (subst (λ hs. IsCounted t q c.args.self.now first S (length hs) c.if-is_empty.count.0 c.if-is_empty.count.1) c.part.ensures counted)
