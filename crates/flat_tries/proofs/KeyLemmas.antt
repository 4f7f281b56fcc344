-- The bytes of keys.
use Rattle.std.proofs.Common.{◌≡◌, ℕ, suc, ◌%◌, ◌<◌, List, [], ◌∷◌, Option, None, Some, Result, Ok, Err, get_or, refl, ap, subst, ◌∙◌, arith}
use Rattle.std.specs.Int.{w8, to_be_bytes}
use Rattle.std.specs.List.{flat_map}
use Rattle.std.specs.Prelude.{IfNone, IfOk, IfSome}

-- what none says says more
pub none_also : {X E : Type 0} (P Q : Type 0) (r : Result (Option X) E) → (P → Q) → IfOk r (λ o. IfNone o P) → IfOk r (λ o. IfNone o Q)
none_also P Q (Ok None) f h = f h
none_also P Q (Ok (Some x)) f h = tt
none_also P Q (Err e) f h = tt

-- what was found has what is said of it, and so has nothing
pub some_has : {X : Type 0} (P : X → Type 0) (o : Option X) (x : X) → o ≡ Some x → IfSome o P → P x
some_has P o x is h = subst (λ f. IfSome f P) is h

pub none_has : {X : Type 0} (P : Type 0) (o : Option X) → o ≡ None → IfNone o P → P
none_has P o is h = subst (λ f. IfNone f P) is h

-- bytes are their own bytes
pub bytes_of_bytes : (bs : List ℕ) → ((i : ℕ) → get_or bs i 0 < 256) → flat_map (to_be_bytes w8) bs ≡ bs
bytes_of_bytes [] small = refl
bytes_of_bytes (b ∷ bs) small =
    let head : b % 256 ≡ b = omega (arith, small 0) in
    ap (λ r. (b % 256) ∷ r) (bytes_of_bytes bs (λ i. small (suc i))) ∙ ap (λ h. h ∷ bs) head
