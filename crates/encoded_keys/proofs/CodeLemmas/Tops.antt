-- Tables of nothing.
use Rattle.std.proofs.Common.{◌≡◌, ℕ, List, [], length, ap, arith}
use Rattle.encoded_keys.specs.Heads.{AreSteps, AreTops}
use Rattle.encoded_keys.specs.Index.{IsIndexed}

-- no table says anything
pub no_tops : (hs tops : List ℕ) → tops ≡ [] → AreTops hs tops
no_tops hs tops e = λ w l. absurd (let none = ap length e in omega (arith, none, l))

-- nor do no copies
pub no_steps : (hs steps : List ℕ) → steps ≡ [] → AreSteps hs steps
no_steps hs steps e = λ i l. absurd (let none = ap length e in omega (arith, none, l))

-- nor do no slots
pub no_slots : (cs : List (List ℕ)) (slots : List ℕ) (tags : ℕ) → slots ≡ [] → IsIndexed cs slots tags
no_slots cs slots tags e = λ l. absurd (let none = ap length e in omega (arith, none, l))
