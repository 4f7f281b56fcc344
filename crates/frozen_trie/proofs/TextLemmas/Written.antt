-- One value written: the byte strings stay, and the map has it in the place of the old one.
use Rattle.std.proofs.Common.{◌≡◌, ℕ, zero, suc, ◌<◌, List, [], ◌∷◌, length, set, get_or, refl, sym, ap, subst, ◌∙◌, arith}
use Rattle.std.proofs.lemmas.List.{length-set}
use Rattle.std.proofs.lemmas.Option.{get_or_from_slice_get}
use Rattle.nibble_map.specs.Maps.{with_value}
use Rattle.nibble_map.specs.Nibbles.{nibbles}
use Rattle.encoded_keys.specs.Codes.{code_at}
use Rattle.frozen_trie.specs.Frozen.{codes_of, map_of_pairs}
use Rattle.encoded_keys.specs.Laid.{packed_bytes}
use Rattle.frozen_trie.specs.Texts.{AreTexts, text_map, text_pairs}
use Rattle.frozen_trie.proofs.FrozenLemmas.Written.{codes_written, map_written}
use Rattle.frozen_trie.proofs.TextLemmas.Pairs.{length-text_pairs, text_found, texts_rise}

-- the pairs with another value
text_pairs-set : {V : Type 0} (cs : List (List ℕ)) (vs : List V) (k : ℕ) (w : V) → text_pairs cs (set vs k w) ≡ set (text_pairs cs vs) k (packed_bytes (code_at cs k), w)
text_pairs-set [] vs k w = refl
text_pairs-set (c ∷ cs) [] k w = refl
text_pairs-set (c ∷ cs) (v ∷ vs) zero w = refl
text_pairs-set (c ∷ cs) (v ∷ vs) (suc k) w = ap (λ ps. (packed_bytes c, v) ∷ ps) (text_pairs-set cs vs k w)

module _ {V : Type 0} (cs : List (List ℕ)) (vs : List V) (parents : List ℕ) (kept : AreTexts cs vs parents) (k : ℕ) (v w : V) (inside : k < length cs) (at : v ≡ get_or vs k v) where
  -- the pair that stands there
  stood : (packed_bytes (code_at cs k), v) ≡ get_or (text_pairs cs vs) k (packed_bytes (code_at cs k), v)
  stood = sym (get_or_from_slice_get (text_pairs cs vs) k (packed_bytes (code_at cs k), v) (packed_bytes (code_at cs k), v) (text_found cs vs k v inside kept.valued at))

  -- byte strings with another value
  pub texts_written : AreTexts cs (set vs k w) parents
  texts_written = record {
    frozen = record {
      keyed = kept.frozen.keyed ∙ codes_written nibbles (text_pairs cs vs) k (packed_bytes (code_at cs k), v) w stood ∙ ap (codes_of nibbles) (sym (text_pairs-set cs vs k w));
      linked = kept.frozen.linked;
    };
    valued = omega (arith, length-set vs k w, kept.valued);
  }

  -- their map
  pub text_map_written : (q : List ℕ) → code_at cs k ≡ q → text_map cs (set vs k w) ≡ with_value (text_map cs vs) q w
  text_map_written q code =
      ap (map_of_pairs nibbles) (text_pairs-set cs vs k w)
      ∙ map_written nibbles (text_pairs cs vs) q k (packed_bytes (code_at cs k), v) w (texts_rise cs vs parents kept)
      (omega (arith, inside, length-text_pairs cs vs kept.valued)) stood (subst (λ ds. code_at ds k ≡ q) kept.frozen.keyed code)
