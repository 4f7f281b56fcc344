-- Values that stand among an image's own bytes.
use Rattle.std.proofs.Common.{◌≡◌, ℕ, ◌+◌, ◌^◌, ◌<◌, List, [], ◌∷◌, ◌++◌, length, take, drop, get_or, refl, sym, ap, ◌∙◌, arith}
use Rattle.std.specs.Int.{w32, to_le_bytes}
use Rattle.std.specs.List.{AllZip}
use Rattle.std.proofs.lemmas.List.{append_assoc, drop-append-le, drop_at, flat_map_more, get_or_append_left, length-append, length-drop, take-append-le, take_all, take_at}
use Rattle.std.proofs.lemmas.List.Sums.{sum_by-cons, sum_by_push}
use Rattle.image_parts.specs.Parts.{u32_in}
use Rattle.image_parts.proofs.ByteLemmas.{u32_kept, u32_written}
use Rattle.frozen_trie.specs.FileRows.{counted_bytes}
use Rattle.flat_tries.specs.ValueImages.{IsPlacedPair, StandsCounted, laid_values, values_size}

-- digits, and bytes behind them, are these with their count
pub added_counted : (own digits begun text put new : List ℕ) → digits ≡ to_le_bytes w32 (length text) → begun ≡ own ++ digits → new ≡ begun ++ put → put ≡ text → new ≡ own ++ counted_bytes text
added_counted own digits begun text put new are begins goes_on same =
    goes_on ∙ ap (λ l. l ++ put) begins ∙ append_assoc own digits put ∙ ap (λ l. own ++ (l ++ put)) are ∙ ap (λ l. own ++ (to_le_bytes w32 (length text) ++ l)) same

-- bytes that are added with their count stand where the others ended
pub stands_new : (own text new : List ℕ) → length text < 2 ^ 32 → new ≡ own ++ counted_bytes text → StandsCounted new (length own) text
stands_new own text new few added =
    let digits = to_le_bytes w32 (length text) in
    let behind : new ≡ (own ++ digits) ++ text = added ∙ sym (append_assoc own digits text) in
    let before = length-append own digits in
    let long : length new ≡ length own + 4 + length text = omega (arith, ap length behind, length-append (own ++ digits) text, before) in
    record {
      inside = omega (arith, long);
      counted = u32_written new (length own) 4 (length text) (omega (arith, long)) refl few
          (ap (λ l. take 4 (drop (length own) l)) added ∙ ap (take 4) (drop_at own (digits ++ text) (length own) refl) ∙ take_at digits text 4 refl);
      text = ap (λ l. take (length text) (drop (length own + 4) l)) behind ∙ ap (take (length text)) (drop_at (own ++ digits) text (length own + 4) (omega (arith, before)))
          ∙ take_all (length text) text (omega arith);
    }

-- what stands somewhere stands there where more is added
stands_still : (own more new : List ℕ) (place : ℕ) (text : List ℕ) → new ≡ own ++ more → StandsCounted own place text → StandsCounted new place text
stands_still own more new place text added at =
    let from = place + 4 in
    let kept : (k : ℕ) → k < length own → get_or new k 0 ≡ get_or own k 0 = λ k l. ap (λ bs. get_or bs k 0) added ∙ get_or_append_left own more 0 k l in
    record {
      inside = omega (arith, at.inside, ap length added, length-append own more);
      counted = u32_kept own new place (λ k l m. kept k (omega (arith, m, at.inside))) ∙ at.counted;
      text = ap (λ bs. take (length text) (drop from bs)) added ∙ ap (take (length text)) (drop-append-le from own more (omega (arith, at.inside)))
          ∙ take-append-le (length text) (drop from own) more (omega (arith, at.inside, length-drop from own)) ∙ at.text;
    }

module _ {K V : Type 0} (bytes : V → List ℕ) (is_item : V → Type 0) (enc : K → List ℕ) where
  -- so do the values of pairs
  pub placed_still : (own more new : List ℕ) (ps : List (List ℕ × ℕ)) (qs : List (K × V)) → new ≡ own ++ more
      → AllZip (IsPlacedPair bytes is_item enc own) ps qs → AllZip (IsPlacedPair bytes is_item enc new) ps qs
  placed_still own more new [] [] added zip = tt
  placed_still own more new [] (q ∷ qs) added zip = absurd zip
  placed_still own more new (p ∷ ps) [] added zip = absurd zip
  placed_still own more new (p ∷ ps) (q ∷ qs) added zip =
      let value = zip.0.value in (
        record { key = zip.0.key; value = record { item = value.item; stands = stands_still own more new p.1 (bytes q.1) added value.stands } },
        placed_still own more new ps qs added zip.1,
      )

  -- the values of pairs take as many bytes as they have with their counts
  pub laid_size : (own : List ℕ) (ps : List (List ℕ × ℕ)) (qs : List (K × V)) → AllZip (IsPlacedPair bytes is_item enc own) ps qs
      → length (laid_values bytes qs) ≡ values_size own ps
  laid_size own [] [] zip = refl
  laid_size own [] (q ∷ qs) zip = absurd zip
  laid_size own (p ∷ ps) [] zip = absurd zip
  laid_size own (p ∷ ps) (q ∷ qs) zip =
      let digits = to_le_bytes w32 (length (bytes q.1)) in
      omega (arith, length-append (counted_bytes (bytes q.1)) (laid_values bytes qs), length-append digits (bytes q.1), zip.0.value.stands.counted, laid_size own ps qs zip.1, sum_by-cons (λ r. 4 + u32_in own r.1) p ps)

-- one more value is laid behind those of the pairs before
pub one_laid : {K V : Type 0} (bytes : V → List ℕ) (own new : List ℕ) (qs later : List (K × V)) (q : K × V) → own ≡ laid_values bytes qs → new ≡ own ++ counted_bytes (bytes q.1)
    → later ≡ qs ++ q ∷ [] → new ≡ laid_values bytes later
one_laid bytes own new qs later q are added grown =
    added ∙ ap (λ l. l ++ counted_bytes (bytes q.1)) are ∙ flat_map_more (λ p. counted_bytes (bytes p.1)) [] qs q ∙ ap (laid_values bytes) (sym grown)

-- one more value takes its bytes and the four that count them
pub laid_longer : {K V : Type 0} (bytes : V → List ℕ) (qs later : List (K × V)) (q : K × V) → later ≡ qs ++ q ∷ []
    → length (laid_values bytes later) ≡ length (laid_values bytes qs) + 4 + length (bytes q.1)
laid_longer bytes qs later q grown =
    let own = laid_values bytes qs in
    let more = counted_bytes (bytes q.1) in
    let digits = to_le_bytes w32 (length (bytes q.1)) in
    omega (arith, ap length (one_laid bytes own (own ++ more) qs later q refl refl grown), length-append own more, length-append digits (bytes q.1))

-- as one more pair does
pub values_longer : (own : List ℕ) (ps more : List (List ℕ × ℕ)) (p : List ℕ × ℕ) → more ≡ ps ++ p ∷ [] → values_size own more ≡ values_size own ps + 4 + u32_in own p.1
values_longer own ps more p grown = omega (arith, ap (values_size own) grown, sum_by_push (λ r. 4 + u32_in own r.1) ps p)
