use Rattle.std.proofs.Common.{◌-◌, drop, length, take, ap, arith, ◌∙◌}
use Rattle.std.proofs.lemmas.List.{length-drop, take_all}
use Rattle.std.specs.Int.{w32, from_le_bytes}
use Rattle.image_parts.proofs.ByteLemmas.{u32_part}
use Rattle.image_parts.proofs.loads.u32_at.Goals as goal

pub returns : goal.returns
returns c =
    let bs = c.args.bytes.now in
    let at = c.args.at in
    let rest = take_all (length bs - at) (drop at bs) (omega (arith, length-drop at bs)) in
    c.from_le_bytes.ensures ∙ ap (from_le_bytes w32) (c.in-Some.ensures.cases.same ∙ ap (take 4) rest) ∙ u32_part bs at c.requires
