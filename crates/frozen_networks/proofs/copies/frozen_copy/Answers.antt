-- The rows of a trie are in order.
use Rattle.std.proofs.Common.{[], arith, ◌∙◌}
use Rattle.frozen_networks.proofs.RowLemmas.{count_rows, no_copy_out_of_order}
use Rattle.frozen_networks.proofs.copies.frozen_copy.Goals as goal

pub returns-in-Memory-clause-none : goal.returns-in-Memory-clause-none
returns-in-Memory-clause-none g c = λ none. c.in-Err.ensures.none (count_rows c.args.trie.now c.in-Ok.rows.items c.in-Ok.ensures.rows ∙ none)

pub returns-in-Full-clause-full : goal.returns-in-Full-clause-full
returns-in-Full-clause-full g c = λ told.
    omega (arith, c.in-Err.ensures.full c.in-Full.is, count_rows c.args.trie.now c.in-Ok.rows.items c.in-Ok.ensures.rows)

pub returns-in-Full-clause-none : goal.returns-in-Full-clause-none
returns-in-Full-clause-none g c = λ none. c.in-Err.ensures.none (count_rows c.args.trie.now c.in-Ok.rows.items c.in-Ok.ensures.rows ∙ none)

pub unreachable-requires : goal.unreachable-requires
unreachable-requires g c =
    no_copy_out_of_order g.A.Address.BITS g.A.Address.number c.args.trie.now c.in-Ok.rows.items c.in-OutOfOrder.field-0 c.in-Ok.ensures.rows c.in-Ok.ensures.networks
    (c.keys_stand_at_their_encodings.ensures.rising []) (c.in-Err.ensures.unsorted c.in-OutOfOrder.field-0 c.in-OutOfOrder.is)
