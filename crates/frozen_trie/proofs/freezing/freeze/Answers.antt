use Rattle.std.proofs.Common.{[], ap, sym, subst, ◌∙◌}
use Rattle.std.specs.FinMap as fin
use Rattle.radix_trie.proofs.PathLemmas.Loci.{below-nil}
use Rattle.frozen_trie.specs.Frozen.{IsFrozen, map_of_pairs}
use Rattle.frozen_trie.proofs.FrozenLemmas.Whole.{whole_again}
use Rattle.frozen_trie.proofs.freezing.freeze.Goals as goal

pub from_parts-requires : goal.from_parts-requires
from_parts-requires g c =
    subst (λ ps. IsFrozen g.K.TrieKey.encoding c.in-Ok.codes ps c.in-Ok.parents.items) (sym c.in-Ok-into_pairs.ensures.pairs) c.in-Ok.ensures.ok

pub returns-in-Ok-into_pairs-clause-same : goal.returns-in-Ok-into_pairs-clause-same
returns-in-Ok-into_pairs-clause-same g c =
    let enc = g.K.TrieKey.encoding in
    c.from_parts.ensures ∙ ap (map_of_pairs enc) c.in-Ok-into_pairs.ensures.pairs
    ∙ whole_again c.args.trie enc (c.keys_stand_at_their_encodings.ensures.rising []) (c.split_part_goes_back.ensures.same [])

pub returns-in-Err-into_pairs-clause-none : goal.returns-in-Err-into_pairs-clause-none
returns-in-Err-into_pairs-clause-none g c = λ none. c.in-Err-into_pairs.ensures.none (ap fin.len (below-nil c.args.trie) ∙ none)
