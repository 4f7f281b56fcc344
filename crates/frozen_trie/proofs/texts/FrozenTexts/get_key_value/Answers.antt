use Rattle.std.proofs.Common.{◌≡◌, ℕ, ◌<◌, [], Some, length, slice_get, subst, sym, ap, ◌∙◌, arith}
use Rattle.std.specs.FinMap as fin
use Rattle.nibble_map.specs.Nibbles.{nibbles}
use Rattle.radix_trie.specs.Views.{pairs_below}
use Rattle.radix_trie.specs.Walks.{deref_pair}
use Rattle.encoded_keys.specs.Codes.{code_at}
use Rattle.frozen_trie.proofs.TextLemmas.Pairs.{code_count, no_pair, pair_got}
use Rattle.frozen_trie.proofs.texts.FrozenTexts.get_key_value.Goals as goal

pub pair_at-requires : goal.pair_at-requires
pair_at-requires g c = omega (arith, c.in-Some.ensures.0, code_count _ _ _ c.self.invariant, ap fin.len c.self.view_is)

pub returns-in-Some : goal.returns-in-Some
returns-in-Some g c =
    let x = deref_pair c.pair_at.result in
    record {
      pair = rw (← c.self.view_is) (pair_got _ _ _ c.self.invariant (nibbles c.args.key.now) c.in-Some.at x c.in-Some.ensures.0
          (subst (λ m. slice_get (pairs_below m []) c.in-Some.at ≡ Some x) (sym c.self.view_is) c.pair_at.ensures.pair)
          (c.in-Some.ensures.1 ∙ c.from_bytes.ensures));
    }

pub returns-in-None : goal.returns-in-None
returns-in-None g c =
    let cs = c.self.inside.codes in
    record {
      pair = rw (← c.self.view_is) (no_pair _ _ _ c.self.invariant (nibbles c.args.key.now)
          (subst (λ q. (k : ℕ) → k < length cs → code_at cs k ≡ q → ⊥) c.from_bytes.ensures c.in-None.ensures));
    }
