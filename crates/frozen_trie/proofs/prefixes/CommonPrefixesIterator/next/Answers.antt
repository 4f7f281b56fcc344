use Rattle.std.proofs.Common.{◌≡◌, ◌+◌, ◌-◌, [], ◌∷◌, reverse, take, refl, sym, ap, ◌∙◌, arith}
use Rattle.std.proofs.lemmas.List.{reverse-append}
use Rattle.radix_trie.specs.Walks.{deref_pair}
use Rattle.frozen_trie.specs.Frozen.{prefixes_up}
use Rattle.sorted_tables.proofs.TableLemmas.Ups.{last_up, one_up, some_left}
use Rattle.frozen_trie.proofs.prefixes.CommonPrefixesIterator.next.Goals as goal

pub overflow_sub-at : goal.overflow_sub-at
overflow_sub-at g c =
    let parents = prefixes_up g.K.TrieKey.encoding c.self.inside.frozen.now in
    let some = some_left parents refl (parents c.self.inside.last) c.loop-up._up c.loop-up.at c.loop-up.invariant.rest (omega (arith, c.loop-up-test.true, c.self.invariant.1)) in
    omega (arith, some)

pub step_up-requires : goal.step_up-requires
step_up-requires g c =
    let parents = prefixes_up g.K.TrieKey.encoding c.self.inside.frozen.now in
    let some = some_left parents refl (parents c.self.inside.last) c.loop-up._up c.loop-up.at c.loop-up.invariant.rest (omega (arith, c.loop-up-test.true, c.self.invariant.1)) in
    omega (arith, some, c.loop-up.invariant.within)

pub loop-up-preserved : goal.loop-up-preserved
loop-up-preserved g c =
    let parents = prefixes_up g.K.TrieKey.encoding c.self.inside.frozen.now in
    let some = some_left parents refl (parents c.self.inside.last) c.loop-up._up c.loop-up.at c.loop-up.invariant.rest (omega (arith, c.loop-up-test.true, c.self.invariant.1)) in
    let back : c.loop-up.at ≡ c.loop-up.at - 1 + 1 = omega (arith, some) in
    record {
      rest = one_up parents refl (parents c.self.inside.last) c.loop-up._up c.loop-up.at c.step_up.result.1 (deref_pair c.step_up.result.0) c.loop-up.invariant.rest (ap parents back ∙ c.step_up.ensures.walk);
      within = omega (arith, c.step_up.ensures.within, c.loop-up.invariant.within);
    }

pub overflow_sub-at-2 : goal.overflow_sub-at-2
overflow_sub-at-2 g c =
    let parents = prefixes_up g.K.TrieKey.encoding c.self.inside.frozen.now in
    let some = some_left parents refl (parents c.self.inside.last) c.loop-up._up c.loop-up.at c.loop-up.invariant.rest (omega (arith, c.loop-up.auto._up-end, c.if-self-eq0.false, c.self.invariant.1)) in
    omega (arith, some)

pub step_up-requires-2 : goal.step_up-requires-2
step_up-requires-2 g c =
    let parents = prefixes_up g.K.TrieKey.encoding c.self.inside.frozen.now in
    let some = some_left parents refl (parents c.self.inside.last) c.loop-up._up c.loop-up.at c.loop-up.invariant.rest (omega (arith, c.loop-up.auto._up-end, c.if-self-eq0.false, c.self.invariant.1)) in
    omega (arith, some, c.loop-up.invariant.within)

pub returns-clause-steps : goal.returns-clause-steps
returns-clause-steps g c =
    let parents = prefixes_up g.K.TrieKey.encoding c.self.inside.frozen.now in
    let all = parents c.self.inside.last in
    let i = c.loop-up._up in
    let at = c.loop-up.at in
    let some = some_left parents refl all i at c.loop-up.invariant.rest (omega (arith, c.loop-up.auto._up-end, c.if-self-eq0.false, c.self.invariant.1)) in
    let back : at ≡ at - 1 + 1 = omega (arith, some) in
    let whole : c.self.inside.left ≡ i + 1 = omega (arith, c.loop-up.auto._up-end, c.loop-up-test.false, c.if-self-eq0.false) in
    let last : i ≡ c.self.inside.left - 1 = omega (arith, whole) in
    let p = deref_pair c.step_up-2.result.0 in
    sym c.self.view_is ∙ ap (λ n. reverse (take n all)) whole
    ∙ ap reverse (last_up parents refl all i at c.step_up-2.result.1 p c.loop-up.invariant.rest (ap parents back ∙ c.step_up-2.ensures.walk))
    ∙ reverse-append (take i all) (p ∷ [])
    ∙ ap (λ n. p ∷ reverse (take n all)) last
