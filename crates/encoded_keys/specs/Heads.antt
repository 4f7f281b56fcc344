-- The first nibbles of a list as a number, which tells the order of most lists.
use Rattle.std.specs.Prelude.{◌≡◌, ℕ, zero, suc, ◌+◌, ◌*◌, ◌^◌, ◌<◌, ◌≤◌, List, [], ◌∷◌, drop, length, min, slice_index, Bool, true, false}

-- the first n nibbles as a number, with d for each that a shorter list lacks
unfoldable pub head_padded : ℕ → ℕ → List ℕ → ℕ
head_padded d zero c = 0
head_padded d (suc n) [] = d * 16 ^ n + head_padded d n []
head_padded d (suc n) (a ∷ c) = a * 16 ^ n + head_padded d n c

-- the first 15 nibbles, with zeros, and how many of these the list has: of fewer than 15 this number tells the list
abbrev pub head_in : List ℕ → ℕ
head_in c = head_padded 0 15 c * 16 + min (length c) 15

-- the same of a list that is searched for; where the search is one through it, with 15 for what it lacks and for the count
abbrev pub bound_of : Bool → List ℕ → ℕ
bound_of false q = head_in q
bound_of true q = head_padded 15 15 q * 16 + 15

-- the head of what stands in a list behind its first n nibbles
abbrev pub head_behind : ℕ → List ℕ → ℕ
head_behind n c = head_in (drop n c)

-- the first n of the list are nibbles
abbrev pub AreNibbles : ℕ → List ℕ → Type 0
AreNibbles n c = (k : ℕ) → k < n → slice_index c k < 16

-- each is the copy of a number, and 16 numbers lie between the beginnings of two
abbrev pub AreSteps : List ℕ → List ℕ → Type 0
AreSteps hs steps = (i : ℕ) → i < length steps → slice_index steps i ≡ slice_index hs (i * 16)

-- how many of the numbers are below w times 2 to the 48
pub record IsTop (hs : List ℕ) (w n : ℕ) : Type 0 where
  pub within : n ≤ length hs
  pub below : (k : ℕ) → k < n → slice_index hs k < w * 2 ^ 48
  pub others : (k : ℕ) → n ≤ k → k < length hs → w * 2 ^ 48 ≤ slice_index hs k

-- each of a table says so for its index
abbrev pub AreTops : List ℕ → List ℕ → Type 0
AreTops hs tops = (w : ℕ) → w < length tops → IsTop hs w (slice_index tops w)
