use Rattle.std.proofs.Common.{◌≡◌, ℕ, ◌<◌, length, subst, ◌∙◌, arith}
use Rattle.nibble_map.specs.Nibbles.{nibbles}
use Rattle.encoded_keys.specs.Codes.{code_at}
use Rattle.frozen_trie.proofs.TextLemmas.Pairs.{no_value, value_found}
use Rattle.frozen_trie.proofs.texts.FrozenTexts.get.Goals as goal

pub index-requires : goal.index-requires
index-requires g c = omega (arith, c.in-Some.ensures.0, c.self.inside.values.ok.0, c.self.invariant.valued)

pub returns-in-Some : goal.returns-in-Some
returns-in-Some g c = record {
  value = rw (← c.self.view_is) (value_found _ _ _ c.self.invariant (nibbles c.args.key.now) c.in-Some.at c.index.result.now c.in-Some.ensures.0 c.index.ensures (c.in-Some.ensures.1 ∙ c.from_bytes.ensures));
}

pub returns-in-None : goal.returns-in-None
returns-in-None g c =
    let cs = c.self.inside.codes in
    record {
      value = rw (← c.self.view_is) (no_value _ _ _ c.self.invariant (nibbles c.args.key.now)
          (subst (λ q. (k : ℕ) → k < length cs → code_at cs k ≡ q → ⊥) c.from_bytes.ensures c.in-None.ensures));
    }
