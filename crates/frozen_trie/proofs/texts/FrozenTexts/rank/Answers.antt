use Rattle.std.proofs.Common.{subst}
use Rattle.nibble_map.specs.Nibbles.{nibbles}
use Rattle.encoded_keys.specs.Codes.{IsCut, is_before}
use Rattle.frozen_trie.proofs.TextLemmas.Pairs.{texts_before}
use Rattle.frozen_trie.proofs.texts.FrozenTexts.rank.Goals as goal

pub returns : goal.returns
returns g c =
    let cs = c.self.inside.codes in
    let low = subst (λ q. IsCut (λ x. is_before x q) cs c.lower.result) c.from_bytes.ensures c.lower.ensures in
    record { count = rw (← c.self.view_is) (texts_before _ _ _ c.self.invariant (nibbles c.args.key.now) c.lower.result low) }
