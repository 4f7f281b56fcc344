-- What an option says by cases.
use Rattle.std.proofs.Common.{Option, Some, None, MatchOption}

-- what an option says by cases implies what follows in each of them
pub match_implies : {A : Type 0} {P Q : A → Type 0} {X Y : Type 0} (r : Option A) → (X → Y) → ((a : A) → P a → Q a) → MatchOption r X P → MatchOption r Y Q
match_implies None f g h = f h
match_implies (Some a) f g h = g a h
