use Rattle.std.proofs.Common.{◌≡◌, ◌∙◌, ap, sym, subst, ℕ, List, Option, Result, Ok, Err, IfOk, MatchResult, string_bytes}
use Rattle.std.specs.Result.{is_ok}
use Rattle.std.proofs.lemmas.Result.{IfOk-weaker}
use Rattle.std.specs.FinMap as map
use Rattle.nibble_map.specs.Nibbles.{nibbles}
use Rattle.nibble_map.specs.Maps.{value_at}
use Rattle.trie_tool.specs.Numbers.{text, texts_of}
use Rattle.nibble_map.proofs.MapLemmas.Mapped.{mapped-insert}
use Rattle.radix_trie.proofs.MappedLemmas.{value_at-mapped}
use Rattle.trie_tool.proofs.numbers.Numbers.insert.Goals as goal

-- what holds of an Ok holds of it in a result with another error
IfOk-same_value : {A E D : Type 0} (r : Result A E) (q : Result A D) (P : A → Type 0) (Q : E → Type 0) → MatchResult r (λ x. q ≡ Ok x) Q → is_ok q ≡ is_ok r → IfOk r P → IfOk q P
IfOk-same_value (Ok x) q P Q same alike holds = subst (λ s. IfOk s P) (sym same) holds
IfOk-same_value (Err e) (Err d) P Q same alike holds = tt
IfOk-same_value (Err e) (Ok y) P Q same alike holds = cc

pub returns-clause-old_number : goal.returns-clause-old_number
returns-clause-old_number c =
    let before = c.self.inside.trie in
    let key = c.in_ok-key.ensures.ok in
    rw (← c.self.view_is) (IfOk-same_value c.insert.result c.map_err.result (λ old. old ≡ value_at (texts_of before) (nibbles c.args.key.now)) _ c.map_err.ensures.cases c.map_err.ensures.variant
    (IfOk-weaker c.insert.result _ _ (λ old is. is ∙ sym (value_at-mapped string_bytes before (nibbles (string_bytes c.in_ok-key.key))) ∙ ap (λ (l : List ℕ). value_at (texts_of before) (nibbles l)) key) c.insert.ensures.old_value))

pub returns-clause-stored : goal.returns-clause-stored
returns-clause-stored c =
    let before = c.self.inside.trie in
    let key = c.in_ok-key.ensures.ok in
    let P : Option ℕ → Type 0 = λ _. texts_of c.insert.new.self ≡ map.insert (texts_of before) (nibbles c.args.key.now) (c.args.key.now, c.args.number) in
    rw (← c.self.view_is) (IfOk-same_value c.insert.result c.map_err.result P _ c.map_err.ensures.cases c.map_err.ensures.variant
    (IfOk-weaker c.insert.result (λ _. c.insert.new.self ≡ map.insert before (nibbles (string_bytes c.in_ok-key.key)) (c.in_ok-key.key, c.args.number)) P
    (λ old is. ap texts_of is ∙ mapped-insert text before (nibbles (string_bytes c.in_ok-key.key)) (c.in_ok-key.key, c.args.number) ∙ ap (λ (l : List ℕ). map.insert (texts_of before) (nibbles l) (l, c.args.number)) key)
    c.insert.ensures.stored))
