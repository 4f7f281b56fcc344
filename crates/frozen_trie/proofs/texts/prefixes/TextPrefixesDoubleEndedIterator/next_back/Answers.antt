use Rattle.std.proofs.Common.{◌≡◌, suc, ◌+◌, ◌-◌, [], ◌∷◌, reverse, take, refl, sym, ap, ◌∙◌, arith}
use Rattle.std.proofs.lemmas.List.{reverse-append}
use Rattle.nibble_map.specs.Nibbles.{nibbles}
use Rattle.radix_trie.specs.Walks.{deref_pair}
use Rattle.frozen_trie.specs.Frozen.{prefixes_up}
use Rattle.sorted_tables.proofs.TableLemmas.Ups.{some_left}
use Rattle.frozen_trie.proofs.texts.prefixes.TextPrefixesDoubleEndedIterator.next_back.Goals as goal

pub returns-clause-steps : goal.returns-clause-steps
returns-clause-steps g c =
    let parents = prefixes_up nibbles c.self.inside.texts.now in
    let last = c.self.inside.last in
    let left = c.self.inside.left in
    let some = some_left parents refl (parents last) 0 last refl (omega (arith, c.if-self-eq0.false, c.self.invariant.1)) in
    let back : last ≡ last - 1 + 1 = omega (arith, some) in
    let whole : left ≡ suc (left - 1) = omega (arith, c.if-self-eq0.false) in
    sym c.self.view_is ∙ ap (λ n. reverse (take n (parents last))) whole
    ∙ ap (λ pairs. reverse (take (suc (left - 1)) pairs)) (ap parents back ∙ c.step_up-link.ensures.walk)
    ∙ reverse-append (deref_pair c.step_up-link.result.0 ∷ []) (take (left - 1) (parents c.step_up-link.result.1))
