use Rattle.std.proofs.Common.{◌≡◌, ℕ, ◌<◌, inr, length, ap, subst, ◌∙◌, arith}
use Rattle.nibble_map.specs.Nibbles.{nibbles}
use Rattle.radix_trie.proofs.ChangeLemmas.Written.{same_after}
use Rattle.encoded_keys.specs.Codes.{code_at}
use Rattle.frozen_trie.proofs.TextLemmas.Pairs.{no_value, value_found}
use Rattle.frozen_trie.proofs.TextLemmas.Written.{text_map_written, texts_written}
use Rattle.frozen_trie.proofs.texts.FrozenTexts.get_mut.Goals as goal

pub index_mut-requires : goal.index_mut-requires
index_mut-requires g c = omega (arith, c.in-Some.ensures.0, c.self.inside.values.ok.0, c.self.invariant.valued)

pub invariant_of-self-lent : goal.invariant_of-self-lent
invariant_of-self-lent g c w =
    texts_written _ _ _ c.self.invariant c.in-Some.at c.index_mut.result.now w c.in-Some.ensures.0 c.index_mut.ensures.value

pub returns-in-Some : goal.returns-in-Some
returns-in-Some g c =
    let list = nibbles c.args.key.now in
    let v = c.index_mut.result.now in
    let code = c.in-Some.ensures.1 ∙ c.from_bytes.ensures in (
      same_after _ _ _ (λ w. rw (← c.self.view_is) (text_map_written _ _ _ c.self.invariant c.in-Some.at v w c.in-Some.ensures.0 c.index_mut.ensures.value list code)),
      record {
        writes_back = tt;
        value = rw (← c.self.view_is) (value_found _ _ _ c.self.invariant list c.in-Some.at v c.in-Some.ensures.0 c.index_mut.ensures.value code);
      },
    )

pub returns-in-None : goal.returns-in-None
returns-in-None g c =
    let cs = c.self.inside.codes in (
      ap inr c.self.view_is,
      record {
        writes_back = tt;
        value = rw (← c.self.view_is) (no_value _ _ _ c.self.invariant (nibbles c.args.key.now) (subst (λ q. (k : ℕ) → k < length cs → code_at cs k ≡ q → ⊥) c.from_bytes.ensures c.in-None.ensures));
      },
    )
