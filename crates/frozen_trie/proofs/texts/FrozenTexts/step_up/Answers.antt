use Rattle.std.proofs.Common.{◌≡◌, ◌<◌, Some, [], length, slice_get, sym, ap, subst, arith}
use Rattle.std.proofs.lemmas.List.{get_or_read}
use Rattle.std.specs.FinMap as fin
use Rattle.radix_trie.specs.Views.{pairs_below}
use Rattle.radix_trie.specs.Walks.{deref_pair}
use Rattle.encoded_keys.specs.Codes.{IsLastPrefix, code_at}
use Rattle.frozen_trie.proofs.TextLemmas.Pairs.{code_count, text_step}
use Rattle.frozen_trie.proofs.texts.FrozenTexts.step_up.Goals as goal

pub index-requires : goal.index-requires
index-requires g c =
    omega (arith, c.requires, code_count _ _ _ c.self.invariant, ap fin.len c.self.view_is, c.self.inside.parents.ok.0, c.self.invariant.frozen.linked.linked)

pub returns-clause-walk : goal.returns-clause-walk
returns-clause-walk g c =
    let cs = c.self.inside.codes in
    let parents = c.self.inside.parents.items in
    let at = c.args.at in
    let r = c.index.result.now in
    let x = deref_pair c.pair_at.result in
    let inside : at < length cs = omega (arith, c.requires, code_count _ _ _ c.self.invariant, ap fin.len c.self.view_is) in
    let linked : at < length parents = omega (arith, inside, c.self.invariant.frozen.linked.linked) in
    let link = subst (IsLastPrefix cs at (code_at cs at)) (sym (get_or_read parents at r linked c.index.ensures 0)) (c.self.invariant.frozen.linked.links at linked) in
    rw (← c.self.view_is) (text_step _ _ _ c.self.invariant at r x inside (subst (λ m. slice_get (pairs_below m []) at ≡ Some x) (sym c.self.view_is) c.pair_at.ensures.pair) link)

pub returns-clause-within : goal.returns-clause-within
returns-clause-within g c =
    let parents = c.self.inside.parents.items in
    let at = c.args.at in
    let linked : at < length parents =
    omega (arith, c.requires, code_count _ _ _ c.self.invariant, ap fin.len c.self.view_is, c.self.invariant.frozen.linked.linked) in
    let link = (c.self.invariant.frozen.linked.links at linked).within in
    omega (arith, link, get_or_read parents at c.index.result.now linked c.index.ensures 0)
