-- Byte strings by the pairs of texts.
use Rattle.std.proofs.Common.{◌≡◌, ℕ, List, [], ◌∷◌, length, String, string_bytes, refl, sym, ap, subst, ◌∙◌, arith}
use Rattle.std.proofs.lemmas.List.{length-map}
use Rattle.std.specs.declared.alloc.Global.{Global}
use Rattle.nibble_map.specs.Lists.{IsRising}
use Rattle.nibble_map.specs.Nibbles.{nibbles}
use Rattle.radix_trie.specs.Building.{pairs_in_order}
use Rattle.frozen_trie.specs.Frozen.{IsFrozen, codes_of, map_of_pairs}
use Rattle.frozen_trie.specs.Texts.{AreTexts, byte_pairs, text_map, text_pairs}
use Rattle.frozen_trie.proofs.FrozenLemmas.Whole.{map_of_is_stored}
use Rattle.encoded_keys.proofs.CodeLemmas.Bytes.{packed_bytes-nibbles}
use Rattle.frozen_trie.proofs.TextLemmas.Growth.{values_of}

module _ {V : Type 0} where
  -- texts are encoded by their bytes
  pub text_codes : (ps : List (String Global × V)) → codes_of (λ s. nibbles (string_bytes s)) ps ≡ codes_of nibbles (byte_pairs ps)
  text_codes [] = refl
  text_codes (p ∷ ps) = ap (λ cs. nibbles (string_bytes p.0) ∷ cs) (text_codes ps)

  -- the bytes of their codes, with their values
  pub pairs_of_texts : (ps : List (String Global × V)) → text_pairs (codes_of nibbles (byte_pairs ps)) (values_of ps) ≡ byte_pairs ps
  pairs_of_texts [] = refl
  pairs_of_texts (p ∷ ps) =
      ap (λ b. (b, p.1) ∷ text_pairs (codes_of nibbles (byte_pairs ps)) (values_of ps)) (packed_bytes-nibbles (string_bytes p.0))
      ∙ ap (λ xs. (string_bytes p.0, p.1) ∷ xs) (pairs_of_texts ps)

  module _ (ps : List (String Global × V)) (cs : List (List ℕ)) (vs : List V) (parents : List ℕ) (kept : IsFrozen (λ s. nibbles (string_bytes s)) cs ps parents) (are : vs ≡ values_of ps) where
    -- their codes and values
    parts_are : text_pairs cs vs ≡ byte_pairs ps
    parts_are = ap (text_pairs cs) are ∙ ap (λ ds. text_pairs ds (values_of ps)) (kept.keyed ∙ text_codes ps) ∙ pairs_of_texts ps

    -- make a map of byte strings
    pub texts_of_pairs : AreTexts cs vs parents
    texts_of_pairs = record {
      frozen = record { keyed = kept.keyed ∙ text_codes ps ∙ ap (codes_of nibbles) (sym parts_are); linked = kept.linked };
      valued = omega (arith, ap length are, length-map ps (λ (p : String Global × V). p.1), ap length kept.keyed, length-map ps (λ (p : String Global × V). nibbles (string_bytes p.0)));
    }

    -- the keys rise
    pub text_codes_rise : IsRising (codes_of nibbles (byte_pairs ps))
    text_codes_rise = subst IsRising (kept.keyed ∙ text_codes ps) kept.linked.rising

    -- and it is the map of storing them one by one
    pub map_of_texts : text_map cs vs ≡ pairs_in_order nibbles (byte_pairs ps)
    map_of_texts = ap (map_of_pairs nibbles) parts_are ∙ sym (map_of_is_stored nibbles (byte_pairs ps) text_codes_rise)
