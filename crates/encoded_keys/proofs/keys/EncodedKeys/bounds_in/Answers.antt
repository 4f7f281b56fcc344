use Rattle.std.proofs.Common.{◌≡◌, ◌*◌, true, false, sym, ◌∙◌, arith}
use Rattle.encoded_keys.proofs.CodeLemmas.Narrowing.{block_heads_rise, narrowed_through, narrowed_to_none, narrowed_to_one, narrowed_to_some}
use Rattle.encoded_keys.proofs.keys.EncodedKeys.bounds_in.Goals as goal
use Rattle.encoded_keys.proofs.keys.EncodedKeys.bounds_in.Goals.{else-not-sought-via-else-not-sought, else-not-sought-via-then-not-sought+else-head-lt15, else-sought-via-else-sought, else-sought-via-then-sought+else-len-block-le15, then-from-heads-via-then-from-heads, then-from-heads-via-else-from-heads+then-heads-from}

pub count_below-from-requires : goal.count_below-from-requires
count_below-from-requires c =
    block_heads_rise c.args.sought.now.is_through c.args.sought.now.list.now c.args.self.now c.requires.rising c.args.block.now.heads.now c.args.block.now.first c.args.block.now.step
    (2 * c.args.block.now.skip) c.args.head c.requires.sought

pub count_up_to-to-requires : goal.count_up_to-to-requires
count_up_to-to-requires c =
    block_heads_rise c.args.sought.now.is_through c.args.sought.now.list.now c.args.self.now c.requires.rising c.args.block.now.heads.now c.args.block.now.first c.args.block.now.step
    (2 * c.args.block.now.skip) c.args.head c.requires.sought

pub returns-then-from-heads : goal.returns-then-from-heads
returns-then-from-heads c =
    let from = c.count_below-from.ensures in
    narrowed_to_none c.args.sought.now.is_through c.args.sought.now.list.now c.args.self.now c.requires.rising c.args.block.now.heads.now c.args.block.now.first c.args.block.now.step
    (2 * c.args.block.now.skip) c.args.head c.requires.sought c.count_below-from.result from.within from.below from.others (λ l. elim c.then-from-heads.branch [
      | then-from-heads-via-then-from-heads w ↦ absurd (omega (arith, l, w.if-from-heads.true))
      | then-from-heads-via-else-from-heads+then-heads-from w ↦ w.if-heads-from.true
    ])

pub returns-then-head-lt15 : goal.returns-then-head-lt15
returns-then-head-lt15 c =
    let from = c.count_below-from.ensures in
    narrowed_to_one c.args.sought.now.is_through c.args.sought.now.list.now c.args.self.now c.requires.rising c.args.block.now.heads.now c.args.block.now.first c.args.block.now.step
    (2 * c.args.block.now.skip) c.args.head c.requires.sought c.count_below-from.result from.within from.below from.others (omega (arith, c.if-from-heads.false, from.within)) c.if-heads-from.false c.if-not-sought.true c.if-head-lt15.true

pub returns-then-len-block-le15 : goal.returns-then-len-block-le15
returns-then-len-block-le15 c =
    let from = c.count_below-from.ensures in
    let to = c.count_up_to-to.ensures in
    narrowed_through c.args.sought.now.is_through c.args.sought.now.list.now c.args.self.now c.requires.rising c.args.block.now.heads.now c.args.block.now.first c.args.block.now.step
    (2 * c.args.block.now.skip) c.args.head c.requires.sought c.count_below-from.result from.within from.below c.count_up_to-to.result to.within to.below to.others c.if-sought.true (omega (arith, c.if-len-block-le15.true, c.len.ensures))

pub returns : goal.returns
returns c =
    let from = c.count_below-from.ensures in
    let to = c.count_up_to-to.ensures in
    narrowed_to_some c.args.sought.now.is_through c.args.sought.now.list.now c.args.self.now c.requires.rising c.args.block.now.heads.now c.args.block.now.first c.args.block.now.step
    (2 * c.args.block.now.skip) c.args.head c.requires.sought c.count_below-from.result from.within from.below c.count_up_to-to.result to.within to.below to.others
    from.others (omega (arith, c.if-from-heads.false, from.within)) c.if-heads-from.false
    (λ through. elim c.else-sought.branch [
      | else-sought-via-then-sought+else-len-block-le15 w ↦ omega (arith, w.if-len-block-le15.false, w.len.ensures)
      | else-sought-via-else-sought w ↦ absurd (let no : true ≡ false = sym through ∙ w.if-sought.false in cc no)
    ])
    (λ plain. elim c.else-not-sought.branch [
      | else-not-sought-via-then-not-sought+else-head-lt15 w ↦ omega (arith, w.if-head-lt15.false)
      | else-not-sought-via-else-not-sought w ↦ absurd (let no : true ≡ false = sym w.if-not-sought.false ∙ plain in cc no)
    ])
