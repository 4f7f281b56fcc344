-- Walks by the links, from an item to those around it.
use Rattle.std.proofs.Common.{◌≡◌, ℕ, zero, suc, ◌+◌, ◌-◌, ◌<◌, ◌≤◌, Bool, true, false, cond, List, [], ◌∷◌, ◌++◌, length, map as each, reverse, take, get_or, sym, ap, subst, ◌∙◌, arith}
use Rattle.std.specs.List.{filter}
use Rattle.std.proofs.lemmas.List.{reverse-append, take_more}
use Rattle.std.proofs.lemmas.List.Elements.{filter-append}
use Rattle.sorted_tables.specs.Tables.{IsLastOf, items_up}
use Rattle.sorted_tables.proofs.TableLemmas.Parts.{cut_filter, same_filter}

module _ {X : Type 0} (is_around : ℕ → X → Bool) (xs : List X) where
  -- the walk up from the last of the first n items that is sought
  pub walk_up : (t : X → Bool) (is_sought : ℕ → Type 0) (n r : ℕ) → n ≤ length xs
      → ((k : ℕ) → k < length xs → (is_sought k → ⊥) → get_or (each t xs) k false ≡ false)
      → ((i k : ℕ) → i < length xs → is_sought i → k ≤ i → get_or (each t xs) k false ≡ get_or (each (is_around i) xs) k false)
      → IsLastOf is_sought n r → reverse (filter t (take n xs)) ≡ items_up is_around xs r
  walk_up t is_sought n zero l fails same last = ap reverse (cut_filter t 0 n xs (omega arith) (λ k h m d. fails k d (last.none k h m)))
  walk_up t is_sought n (suc i) l fails same last =
      let within : i < length xs = (let le = last.within in omega (arith, le, l)) in
      let back : suc i - 1 ≡ i = omega arith in
      let here : is_sought i = subst is_sought back (last.holds (omega arith)) in
      ap reverse (cut_filter t (suc i) n xs last.within (λ k h m d. fails k d (last.none k h m))
      ∙ same_filter t (is_around i) (suc i) xs (λ k h m. same i k within here (omega (arith, h))))

  -- one step up: an item, and the walk from its link on
  pub one_up : (i r : ℕ) (x : X) → i < length xs → x ≡ get_or xs i x → is_around i x ≡ true
      → reverse (filter (is_around i) (take i xs)) ≡ items_up is_around xs r → items_up is_around xs (i + 1) ≡ x ∷ items_up is_around xs r
  one_up i r x l at own rest =
      let more : i + 1 ≡ suc i = omega arith in
      ap (items_up is_around xs) more
      ∙ ap (λ n. reverse (filter (is_around i) (take n xs))) (sym more)
      ∙ ap (λ ys. reverse (filter (is_around i) ys)) (take_more xs i x l ∙ ap (λ y. take i xs ++ y ∷ []) (sym at))
      ∙ ap reverse (filter-append (is_around i) (take i xs) (x ∷ []))
      ∙ ap (λ b. reverse (filter (is_around i) (take i xs) ++ cond b (x ∷ []) [])) own
      ∙ reverse-append (filter (is_around i) (take i xs)) (x ∷ [])
      ∙ ap (λ ys. x ∷ ys) rest
