-- Pairs whose values are changed.
use Rattle.std.specs.Prelude.{◌≡◌, List, [], ◌∷◌, ⊤}

-- each pair has its key, and R holds of the pair before and the value after
abbrev pub AreChanged : {K V : Type 0} → (K × V → V → Type 0) → List (K × V) → List (K × V) → Type 0
AreChanged R [] [] = ⊤
AreChanged R [] (q ∷ qs) = ⊥
AreChanged R (p ∷ ps) [] = ⊥
AreChanged R (p ∷ ps) (q ∷ qs) = (q.0 ≡ p.0) × R p q.1 × AreChanged R ps qs
