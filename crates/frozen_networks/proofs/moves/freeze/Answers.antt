-- The rows of a trie are in order, and there is room for them.
use Rattle.std.proofs.Common.{[], arith, ap, subst, sym, ◌∙◌}
use Rattle.std.specs.FinMap as fin
use Rattle.nibble_map.specs.Lists.{IsRising}
use Rattle.radix_trie.proofs.PathLemmas.Loci.{below-nil}
use Rattle.frozen_trie.specs.Frozen.{codes_of}
use Rattle.frozen_networks.specs.Networks.{network_code}
use Rattle.frozen_networks.proofs.RowLemmas.{count_rows}
use Rattle.frozen_networks.proofs.moves.freeze.Goals as goal

pub in_room-requires-clause-room : goal.in_room-requires-clause-room
in_room-requires-clause-room g c =
    omega (arith, count_rows c.args.trie c.in-Ok-into_pairs.rows.items c.in-Ok-into_pairs.ensures.pairs, c.in-Ok.ensures.rows, c.len.ensures, c.if-len.false, c.len-2.ensures)

pub in_room-requires-clause-rising : goal.in_room-requires-clause-rising
in_room-requires-clause-rising g c =
    subst (λ ps. IsRising (codes_of (network_code g.A.Address.BITS g.A.Address.number) ps)) (sym c.in-Ok-into_pairs.ensures.pairs) (c.keys_stand_at_their_encodings.ensures.rising [])

pub returns-in-Err-clause-none : goal.returns-in-Err-clause-none
returns-in-Err-clause-none g c = λ none. c.in-Err.ensures.none (ap fin.len (below-nil c.args.trie) ∙ none)
