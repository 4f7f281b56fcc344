use Rattle.std.proofs.Common.{arith}
use Rattle.flat_routes.proofs.MergeLemmas.{link_change, link_others, link_own, link_plan, link_rows}
use Rattle.flat_routes.proofs.merging.put_link.Goals as goal

pub returns-clause-plan : goal.returns-clause-plan
returns-clause-plan c =
    link_plan c.args.wide c.args.out.now c.put_u32.new.out c.args.plan c.args.at _ c.requires.plan c.requires.place c.requires.within
    (omega (arith, c.size_of_rows.ensures.value, c.link_place.ensures.value)) c.put_u32.ensures.before c.put_u32.ensures.behind c.put_u32.ensures.length

pub returns-clause-rows : goal.returns-clause-rows
returns-clause-rows c =
    link_rows c.args.wide c.args.out.now c.put_u32.new.out c.args.plan c.args.at _ c.requires.plan c.requires.place c.requires.within
    (omega (arith, c.size_of_rows.ensures.value, c.link_place.ensures.value)) c.put_u32.ensures.before c.put_u32.ensures.behind c.put_u32.ensures.length

pub returns-clause-link : goal.returns-clause-link
returns-clause-link c =
    link_own c.args.wide c.args.out.now c.put_u32.new.out c.args.plan c.args.at _ c.requires.plan c.requires.place c.requires.within
    (omega (arith, c.size_of_rows.ensures.value, c.link_place.ensures.value)) c.put_u32.ensures.before c.put_u32.ensures.behind c.put_u32.ensures.length c.args.link c.put_u32.ensures.number

pub returns-clause-others : goal.returns-clause-others
returns-clause-others c =
    link_others c.args.wide c.args.out.now c.put_u32.new.out c.args.plan c.args.at _ c.requires.plan c.requires.place c.requires.within
    (omega (arith, c.size_of_rows.ensures.value, c.link_place.ensures.value)) c.put_u32.ensures.before c.put_u32.ensures.behind c.put_u32.ensures.length

pub returns-clause-change : goal.returns-clause-change
returns-clause-change c =
    link_change c.args.wide c.args.out.now c.put_u32.new.out c.args.plan c.args.at _ c.requires.plan c.requires.place c.requires.within
    (omega (arith, c.size_of_rows.ensures.value, c.link_place.ensures.value)) c.put_u32.ensures.before c.put_u32.ensures.behind c.put_u32.ensures.length
