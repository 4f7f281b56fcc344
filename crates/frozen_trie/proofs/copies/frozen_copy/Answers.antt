use Rattle.std.proofs.Common.{[], sym, subst, ◌∙◌}
use Rattle.nibble_map.specs.Copies.{IsMapCopy, IsPairClone}
use Rattle.radix_trie.specs.Views.{pairs_below}
use Rattle.radix_trie.proofs.ChangeLemmas.Keyed.{keyed_copied}
use Rattle.frozen_trie.specs.Frozen.{map_of_pairs}
use Rattle.frozen_trie.proofs.FrozenLemmas.Copied.{codes_copied, map_of_copies}
use Rattle.frozen_trie.proofs.FrozenLemmas.Whole.{whole_again}
use Rattle.frozen_trie.proofs.copies.frozen_copy.Goals as goal

pub from_parts-requires : goal.from_parts-requires
from_parts-requires g c =
    let R = IsPairClone g.K.Clone.is_clone g.V.Clone.is_clone in
    record {
      keyed = c.in_ok-codes.ensures.ok.keyed ∙ sym (codes_copied g.K.TrieKey.encoding R (pairs_below c.args.trie.now []) c.in-Ok.pairs.items c.in-Ok.ensures.copies);
      linked = c.in_ok-codes.ensures.ok.linked;
    }

pub returns-in-Ok-clause-copy : goal.returns-in-Ok-clause-copy
returns-in-Ok-clause-copy g c =
    let enc = g.K.TrieKey.encoding in
    let R = IsPairClone g.K.Clone.is_clone g.V.Clone.is_clone in
    let ps = pairs_below c.args.trie.now [] in
    let rises = c.keys_stand_at_their_encodings.ensures.rising [] in
    rw c.from_parts.ensures (subst (λ m. IsMapCopy R m (map_of_pairs enc c.in-Ok.pairs.items))
    (whole_again c.args.trie.now enc rises (c.split_part_goes_back.ensures.same [])) (map_of_copies enc R ps c.in-Ok.pairs.items rises c.in-Ok.ensures.copies))

pub returns-in-Ok-clause-keyed : goal.returns-in-Ok-clause-keyed
returns-in-Ok-clause-keyed g c = λ values.
    let enc = g.K.TrieKey.encoding in
    let R = IsPairClone g.K.Clone.is_clone g.V.Clone.is_clone in
    let ps = pairs_below c.args.trie.now [] in
    let rises = c.keys_stand_at_their_encodings.ensures.rising [] in
    keyed_copied enc g.K.TrieKey.is_value R (λ p q s i. (c.requires.same_encoding p.0 q.0 s.0, values p.0 q.0 s.0 i)) c.args.trie.now _
    (rw c.from_parts.ensures (subst (λ m. IsMapCopy R m (map_of_pairs enc c.in-Ok.pairs.items))
    (whole_again c.args.trie.now enc rises (c.split_part_goes_back.ensures.same [])) (map_of_copies enc R ps c.in-Ok.pairs.items rises c.in-Ok.ensures.copies)))
