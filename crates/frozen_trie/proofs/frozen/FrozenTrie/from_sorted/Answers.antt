use Rattle.std.proofs.Common.{All, Err, sym, ap, subst, ◌∙◌}
use Rattle.std.specs.FinMap as fin
use Rattle.nibble_map.specs.Lists.{IsRising}
use Rattle.radix_trie.specs.Keys.{IsKeyed}
use Rattle.radix_trie.proofs.ChangeLemmas.Keyed.{keyed_empty, keyed_extended}
use Rattle.frozen_trie.specs.Frozen.{IsFirstListOutOfOrder, codes_of}
use Rattle.frozen_trie.proofs.FrozenLemmas.Whole.{map_of_is_stored}
use Rattle.frozen_trie.proofs.frozen.FrozenTrie.from_sorted.Goals as goal

pub returns-in-Ok-clause-pairs : goal.returns-in-Ok-clause-pairs
returns-in-Ok-clause-pairs g c =
    let rises = subst IsRising c.in-Ok.ensures.ok.keyed c.in-Ok.ensures.ok.linked.rising in
    c.from_parts.ensures ∙ sym (map_of_is_stored g.K.TrieKey.encoding c.args.pairs.items (rw c.deref.ensures.value at rises))

pub returns-in-Err-clause-unsorted : goal.returns-in-Err-clause-unsorted
returns-in-Err-clause-unsorted g c = λ i e.
    subst (λ ps. IsFirstListOutOfOrder (codes_of g.K.TrieKey.encoding ps) i) c.deref.ensures.value (c.in-Err.ensures.unsorted i (ap (λ w. Err w) e))

pub returns-in-Ok-clause-keyed : goal.returns-in-Ok-clause-keyed
returns-in-Ok-clause-keyed g c =
    let enc = g.K.TrieKey.encoding in
    let is = g.K.TrieKey.is_value in
    let ps = c.args.pairs.items in
    let rises = subst IsRising c.in-Ok.ensures.ok.keyed c.in-Ok.ensures.ok.linked.rising in
    subst (IsKeyed enc is) (map_of_is_stored enc ps (rw c.deref.ensures.value at rises) ∙ sym c.from_parts.ensures)
    (keyed_extended enc is fin.empty ps (keyed_empty enc is) (subst (All (λ p. is p.0)) c.deref.ensures.value c.in-Ok.ensures.values))
