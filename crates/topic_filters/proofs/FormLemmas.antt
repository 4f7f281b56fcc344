-- Levels without a wildcard.
use Rattle.std.proofs.Common.{List, ℕ, Contains}
use Rattle.topic_filters.specs.Filters.{HasNoWildcard}

-- neither byte is there
pub no_wildcard : (level : List ℕ) → (Contains level 43 → ⊥) → (Contains level 35 → ⊥) → HasNoWildcard level
unfolding HasNoWildcard
no_wildcard level plus hash = (plus, hash)

pub no_plus : (level : List ℕ) → HasNoWildcard level → (Contains level 43 → ⊥)
unfolding HasNoWildcard
no_plus level h = h.0

pub no_hash : (level : List ℕ) → HasNoWildcard level → (Contains level 35 → ⊥)
unfolding HasNoWildcard
no_hash level h = h.1
