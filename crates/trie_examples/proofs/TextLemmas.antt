-- Ends of texts.
use Rattle.std.proofs.Common.{◌≡◌, ◌∙◌, ℕ, List, length, drop, Option, Some, None, unwrap_or, refl}
use Rattle.std.proofs.lemmas.List.{take_rest}
use Rattle.std.specs.Str.Pattern.{GetsRange}
use Rattle.std.specs.Borrow.{Bor}

-- what stands from a place on, or the whole text where nothing does, is an end of the text
pub rest_of : (host : Bor (List ℕ)) (i : ℕ) (found : Option (Bor (List ℕ))) → GetsRange host.now i (length host.now) found
    → (n : ℕ) × ((unwrap_or found host).now ≡ drop n host.now)
rest_of host i None gets = (0, refl)
rest_of host i (Some end) gets = (i, gets.0 ∙ take_rest host.now i)
