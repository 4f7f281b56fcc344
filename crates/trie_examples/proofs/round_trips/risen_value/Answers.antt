use Rattle.std.proofs.Common.{◌≡◌, ◌∙◌, ℕ, List, Option, None, Some, option_map, ap, refl, sym}
use Rattle.std.specs.FinMap as map
use Rattle.radix_trie.specs.Maps.{PairMap, value_at}
use Rattle.radix_trie.specs.Turned.{turned}
use Rattle.trie_examples.proofs.round_trips.risen_value.Goals as goal

-- a list at which n holds the value that m holds at another one, or neither holds any
module _ {K : Type 0} (m n : PairMap K ℕ) (e q : List ℕ)
    (stored : (x : K × ℕ) → map.get m e ≡ Some x → (v : ℕ) × (map.get n q ≡ Some (x.0, v)) × (v ≡ x.1)) (absent : map.get m e ≡ None → map.get n q ≡ None) where
  same_value : (o : Option (K × ℕ)) → map.get m e ≡ o → value_at n q ≡ value_at m e
  same_value None at = ap (option_map (λ p. p.1)) (absent at ∙ sym at)
  same_value (Some x) at = (let left = stored x at in ap (option_map (λ p. p.1)) left.1 ∙ ap Some left.2 ∙ sym (ap (option_map (λ p. p.1)) at))

pub returns : goal.returns
returns g c =
    let m = c.args.trie.now in
    let n = c.in_ok-risen.risen in
    let e = g.T.TrieKey.encoding c.args.number in
    let law = c.turned_copies_answer_alike.ensures in
    let moved = c.in_ok-risen.ensures.moved in
    let list = c.in_ok-list.ensures.ok ∙ c.in_ok-list.ensures.turned c.from.result ∙ ap (λ x. turned (g.T.TrieKey.encoding x)) c.from.ensures in
    c.copied.ensures ∙ c.at.ensures.value ∙ ap (value_at n) list ∙ same_value m n e (turned e) (law.stored m n moved e) (law.absent m n moved e) (map.get m e) refl
