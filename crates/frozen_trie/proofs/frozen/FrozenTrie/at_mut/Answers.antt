use Rattle.std.proofs.Common.{◌≡◌, ℕ, ◌<◌, Some, inr, length, option_map, subst, sym, ap, ◌∙◌, arith}
use Rattle.nibble_map.specs.Lists.{IsRising}
use Rattle.radix_trie.proofs.ChangeLemmas.Written.{same_after}
use Rattle.encoded_keys.specs.Codes.{code_at}
use Rattle.encoded_keys.specs.Index.{AreKeys}
use Rattle.frozen_trie.proofs.FrozenLemmas.Queries.{as_many}
use Rattle.frozen_trie.proofs.FrozenLemmas.Rows.{get_at, get_none, keys_of_codes}
use Rattle.frozen_trie.proofs.FrozenLemmas.Written.{codes_written, map_written}
use Rattle.frozen_trie.proofs.frozen.FrozenTrie.at_mut.Goals as goal

pub index_of-requires-clause-keyed : goal.index_of-requires-clause-keyed
index_of-requires-clause-keyed g c =
    subst (λ ps. AreKeys g.K.TrieKey.encoding ps c.self.inside.codes) (sym c.deref.ensures.value) (keys_of_codes g.K.TrieKey.encoding _ _ c.self.invariant.keyed)

pub invariant_of-self-lent : goal.invariant_of-self-lent
invariant_of-self-lent g c w = record {
  keyed = c.self.invariant.keyed ∙ codes_written g.K.TrieKey.encoding c.self.inside.pairs.items c.in-Some.at c.index_mut.result.now w c.index_mut.ensures.value;
  linked = c.self.invariant.linked;
}

pub returns-in-Some : goal.returns-in-Some
returns-in-Some g c =
    let enc = g.K.TrieKey.encoding in
    let ps = c.self.inside.pairs.items in
    let list = c.args.list.now in
    let x = c.index_mut.result.now in
    let rises = subst IsRising c.self.invariant.keyed c.self.invariant.linked.rising in
    let inside : c.in-Some.at < length ps = omega (arith, c.in-Some.ensures.0, ap length c.self.invariant.keyed, as_many enc ps rises) in
    let code = subst (λ cs. code_at cs c.in-Some.at ≡ list) c.self.invariant.keyed c.in-Some.ensures.1 in (
      same_after _ _ _ (λ w. rw (← c.self.view_is) (map_written enc ps list c.in-Some.at x w rises inside c.index_mut.ensures.value code)),
      record {
        writes_back = tt;
        value = rw (← c.self.view_is) (ap Some c.second.ensures.value ∙ ap (option_map (λ p. p.1)) (sym (get_at enc ps list c.in-Some.at x rises inside c.index_mut.ensures.value code)));
      },
    )

pub returns-in-None : goal.returns-in-None
returns-in-None g c =
    let enc = g.K.TrieKey.encoding in
    let rises = subst IsRising c.self.invariant.keyed c.self.invariant.linked.rising in
    let absent = subst (λ cs. (k : ℕ) → k < length cs → code_at cs k ≡ c.args.list.now → ⊥) c.self.invariant.keyed c.in-None.ensures in (
      ap inr c.self.view_is,
      record {
        writes_back = tt;
        value = rw (← c.self.view_is) (ap (option_map (λ p. p.1)) (sym (get_none enc c.self.inside.pairs.items c.args.list.now rises absent)));
      },
    )
