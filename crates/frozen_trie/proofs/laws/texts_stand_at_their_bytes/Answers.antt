use Rattle.std.proofs.Common.{ap, nat_cmp, sym, ◌∙◌}
use Rattle.std.specs.Cmp.Lexicographic.{slice_cmp}
use Rattle.nibble_map.specs.Lists.{is_prefix}
use Rattle.nibble_map.specs.Nibbles.{nibbles}
use Rattle.radix_keys.proofs.KeyLemmas.Prefixes.{nibbles_prefix}
use Rattle.radix_trie.proofs.LawLemmas.Asked.{above_holds, below_holds, keys_of_part_rise}
use Rattle.radix_trie.proofs.LawLemmas.Orders.{texts_kept}
use Rattle.encoded_keys.specs.Laid.{packed_bytes}
use Rattle.frozen_trie.proofs.FrozenLemmas.Laws.{at_encodings}
use Rattle.encoded_keys.proofs.CodeLemmas.Bytes.{packed_bytes-nibbles}
use Rattle.frozen_trie.proofs.laws.texts_stand_at_their_bytes.Goals as goal

pub returns : goal.returns
returns g c =
    let m = c.args.texts.now in
    let at = at_encodings nibbles m c.is_of_its_pairs.ensures.mapped c.is_of_its_pairs.ensures.rising in
    record {
      stored = at;
      found = λ bytes p h. sym (packed_bytes-nibbles p.0) ∙ ap packed_bytes (sym (at (nibbles bytes) p h)) ∙ packed_bytes-nibbles bytes;
      below = λ start p.
          let held = below_holds nibbles m at (nibbles start) p in
          let begins = nibbles_prefix start p.0 in
          (λ h. (let both = held.0 h in (begins.0 both.0, both.1)), λ h. held.1 (begins.1 h.0, h.1));
      above = λ bytes p.
          let held = above_holds nibbles m at (nibbles bytes) p in
          let begins = nibbles_prefix p.0 bytes in
          (λ h. (let both = held.0 h in (begins.0 both.0, both.1)), λ h. held.1 (begins.1 h.0, h.1));
      rising = λ start. keys_of_part_rise nibbles (λ _. Unit {0}) (slice_cmp nat_cmp) (texts_kept (λ b. b)) m (λ e p h. (at e p h, tt)) (is_prefix (nibbles start));
    }
