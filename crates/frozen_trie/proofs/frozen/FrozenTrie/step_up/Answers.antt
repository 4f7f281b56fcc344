use Rattle.std.proofs.Common.{◌≡◌, ◌+◌, ◌<◌, suc, length, get_or, refl, sym, ap, subst, ◌∙◌, arith}
use Rattle.std.proofs.lemmas.List.{get_or_read}
use Rattle.std.proofs.lemmas.Option.{slice_get_read}
use Rattle.std.specs.FinMap as fin
use Rattle.nibble_map.specs.Lists.{IsRising}
use Rattle.radix_trie.specs.Walks.{deref_pair}
use Rattle.encoded_keys.specs.Codes.{IsLastPrefix, code_at}
use Rattle.frozen_trie.specs.Frozen.{prefixes_up, map_of_pairs}
use Rattle.frozen_trie.proofs.FrozenLemmas.Prefixes.{step_up}
use Rattle.frozen_trie.proofs.FrozenLemmas.Queries.{as_many}
use Rattle.frozen_trie.proofs.FrozenLemmas.Rows.{len_is}
use Rattle.frozen_trie.proofs.frozen.FrozenTrie.step_up.Goals as goal

pub entry_at-requires : goal.entry_at-requires
entry_at-requires g c =
    omega (
      arith,
      c.requires,
      ap length c.deref.ensures.value,
      len_is g.K.TrieKey.encoding c.self.inside.pairs.items (subst IsRising c.self.invariant.keyed c.self.invariant.linked.rising),
      ap fin.len c.self.view_is,
    )

pub index-requires : goal.index-requires
index-requires g c =
    let enc = g.K.TrieKey.encoding in
    let ps = c.self.inside.pairs.items in
    let rises = subst IsRising c.self.invariant.keyed c.self.invariant.linked.rising in
    omega (
      arith,
      c.requires,
      c.self.inside.parents.ok.0,
      c.self.invariant.linked.linked,
      ap length c.self.invariant.keyed,
      as_many enc ps rises,
      len_is enc ps rises,
      ap fin.len c.self.view_is,
    )

pub returns-clause-walk : goal.returns-clause-walk
returns-clause-walk g c =
    let enc = g.K.TrieKey.encoding in
    let ps = c.self.inside.pairs.items in
    let cs = c.self.inside.codes in
    let parents = c.self.inside.parents.items in
    let at = c.args.at in
    let r = c.index.result.now in
    let x = deref_pair c.entry_at.result in
    let rises = subst IsRising c.self.invariant.keyed c.self.invariant.linked.rising in
    let inside : at < length ps = omega (arith, c.requires, len_is enc ps rises, ap fin.len c.self.view_is) in
    let linked : at < length parents = omega (arith, inside, c.self.invariant.linked.linked, ap length c.self.invariant.keyed, as_many enc ps rises) in
    let link = subst (IsLastPrefix cs at (code_at cs at)) (sym (get_or_read parents at r linked c.index.ensures 0)) (c.self.invariant.linked.links at linked) in
    let more : at + 1 ≡ suc at = omega arith in
    rw (← c.self.view_is) (ap (prefixes_up enc (map_of_pairs enc ps)) more
    ∙ step_up enc ps rises at r x inside
    (slice_get_read ps (length ps) at x refl inside (c.entry_at.ensures ∙ ap (λ l. get_or l at x) c.deref.ensures.value))
    (subst (λ ds. IsLastPrefix ds at (code_at ds at) r) c.self.invariant.keyed link))

pub returns-clause-within : goal.returns-clause-within
returns-clause-within g c =
    let enc = g.K.TrieKey.encoding in
    let ps = c.self.inside.pairs.items in
    let parents = c.self.inside.parents.items in
    let at = c.args.at in
    let rises = subst IsRising c.self.invariant.keyed c.self.invariant.linked.rising in
    let linked : at < length parents =
    omega (
      arith,
      c.requires,
      len_is enc ps rises,
      ap fin.len c.self.view_is,
      c.self.invariant.linked.linked,
      ap length c.self.invariant.keyed,
      as_many enc ps rises,
    ) in
    let link = (c.self.invariant.linked.links at linked).within in
    omega (arith, link, get_or_read parents at c.index.result.now linked c.index.ensures 0)
