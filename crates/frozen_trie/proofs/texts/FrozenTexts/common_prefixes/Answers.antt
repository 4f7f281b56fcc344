use Rattle.std.proofs.Common.{length, ap, subst, ◌∙◌, arith}
use Rattle.std.specs.FinMap as fin
use Rattle.nibble_map.specs.Nibbles.{nibbles}
use Rattle.encoded_keys.specs.Codes.{IsLastPrefix}
use Rattle.frozen_trie.proofs.TextLemmas.Pairs.{code_count, texts_above}
use Rattle.frozen_trie.proofs.texts.FrozenTexts.common_prefixes.Goals as goal

pub new-requires : goal.new-requires
new-requires g c = omega (arith, c.last_prefix.ensures.within, code_count _ _ _ c.self.invariant, ap fin.len c.self.view_is)

pub returns : goal.returns
returns g c =
    let cs = c.self.inside.codes in
    let r = c.last_prefix.result in
    let last = subst (λ q. IsLastPrefix cs (length cs) q r) c.from_bytes.ensures c.last_prefix.ensures in
    record { walk = c.new.ensures ∙ rw (← c.self.view_is) (texts_above _ _ _ c.self.invariant (nibbles c.args.key.now) r last) }
