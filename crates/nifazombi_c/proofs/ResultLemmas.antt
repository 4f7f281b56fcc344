-- What the numbers mean that calls return.
use Rattle.std.proofs.Common.{◌≡◌, ℕ, suc, ◌+◌, Some, Result, Ok, Err, IsOk, OnOk, true≢false, refl, sym, subst, arith}
use Rattle.nifazombi_c.specs.Results.{told_index}

-- an index and one more tells it
pub told_more : (i : ℕ) → told_index (i + 1) ≡ Some i
told_more i = let next : suc i ≡ i + 1 = omega arith in subst (λ k. told_index k ≡ Some i) next refl

-- what is known where there is a value holds of one
pub if_ok : {T E P : Type 0} (r : Result T E) → IsOk r → OnOk r P → P
if_ok (Ok x) ok held = held
if_ok (Err e) ok held = absurd (true≢false (sym ok))
