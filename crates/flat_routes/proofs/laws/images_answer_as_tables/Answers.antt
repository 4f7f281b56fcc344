use Rattle.std.proofs.Common.{map as each, option_map}
use Rattle.frozen_routes.proofs.RouteLemmas.Nearest.{one_longest}
use Rattle.flat_routes.specs.Images.{numbered_row}
use Rattle.flat_routes.proofs.TableLemmas.{longest_there, numbered_order}
use Rattle.flat_routes.proofs.laws.images_answer_as_tables.Goals as goal

pub returns : goal.returns
returns g c = λ w number rows n found other rising own there.
    one_longest w (λ m. m) (each (numbered_row number) rows) (numbered_order number w rows rising) n other (option_map (numbered_row number) found) there
    (longest_there w number rows n found own)
