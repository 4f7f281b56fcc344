use Rattle.flat_routes.specs.Images.{bases, links, sizes, width}
use Rattle.flat_routes.proofs.ImageLemmas.{linked_less}
use Rattle.flat_routes.proofs.turns.begun_at.Goals as goal

pub returns-clause-begun : goal.returns-clause-begun
returns-clause-begun c = λ a le first last.
    let w = width c.args.wide in
    let fs = bases c.args.wide c.args.image.now in
    let bs = sizes c.args.wide c.args.image.now in
    let count = c.count_up_to-count.ensures.count in
    record {
      count = count;
      around = c.follow_on-around.ensures.last a le
          (linked_less w fs bs (links c.args.wide c.args.image.now) c.count_up_to-count.result c.args.plan.rows c.requires.linked c.count_up_to-count.ensures.most)
          first count.before last;
    }
