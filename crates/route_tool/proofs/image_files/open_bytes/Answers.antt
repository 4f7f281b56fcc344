-- The routes of one family are those of the image, or all is as before.
use Rattle.std.proofs.Common.{◌≢◌, Err}
use Rattle.route_tool.specs.Answers.{open_answer}
use Rattle.route_tool.specs.declared.images.OpenFault.TheVariants.{Memory}
use Rattle.route_tool.proofs.AnswerLemmas.{answered}
use Rattle.route_tool.proofs.LoadLemmas.{after_error}
use Rattle.route_tool.proofs.OpenLemmas.{ipv4_left, ipv4_opened, ipv6_left, ipv6_opened}
use Rattle.route_tool.proofs.image_files.open_bytes.Goals as goal

pub returns-then-starts_with-clause-answer : goal.returns-then-starts_with-clause-answer
returns-then-starts_with-clause-answer c =
    let t = c.args.table.now in
    let routes = c.open_family-outcome.new.routes in
    let outcome = c.open_family-outcome.result in
    answered c.add_opened.result c.args.out.now.items c.add_opened.new.out.items (open_answer c.len.result outcome) (outcome ≢ Err Memory) _
    (ipv6_opened c.args.bytes.now t routes c.len.result c.len.ensures outcome c.open_family-outcome.ensures.opened c.open_family-outcome.ensures.fault c.open_family-outcome.ensures.unchanged)
    c.add_opened.ensures.text c.add_opened.ensures.told

pub returns-then-starts_with-clause-left : goal.returns-then-starts_with-clause-left
returns-then-starts_with-clause-left c =
    let routes = c.open_family-outcome.new.routes in
    after_error c.add_opened.result _
    (ipv6_left c.args.bytes.now c.args.table.now routes c.len.result c.len.ensures c.open_family-outcome.result c.open_family-outcome.ensures.opened c.open_family-outcome.ensures.unchanged)

pub returns-else-starts_with-clause-answer : goal.returns-else-starts_with-clause-answer
returns-else-starts_with-clause-answer c =
    let t = c.args.table.now in
    let routes = c.open_family-outcome-else-starts_with.new.routes in
    let outcome = c.open_family-outcome-else-starts_with.result in
    answered c.add_opened-else-starts_with.result c.args.out.now.items c.add_opened-else-starts_with.new.out.items (open_answer c.len-else-starts_with.result outcome) (outcome ≢ Err Memory) _
    (ipv4_opened c.args.bytes.now t routes c.len-else-starts_with.result c.len-else-starts_with.ensures outcome c.open_family-outcome-else-starts_with.ensures.opened c.open_family-outcome-else-starts_with.ensures.fault c.open_family-outcome-else-starts_with.ensures.unchanged)
    c.add_opened-else-starts_with.ensures.text c.add_opened-else-starts_with.ensures.told

pub returns-else-starts_with-clause-left : goal.returns-else-starts_with-clause-left
returns-else-starts_with-clause-left c =
    let routes = c.open_family-outcome-else-starts_with.new.routes in
    after_error c.add_opened-else-starts_with.result _
    (ipv4_left c.args.bytes.now c.args.table.now routes c.len-else-starts_with.result c.len-else-starts_with.ensures c.open_family-outcome-else-starts_with.result c.open_family-outcome-else-starts_with.ensures.opened c.open_family-outcome-else-starts_with.ensures.unchanged)
