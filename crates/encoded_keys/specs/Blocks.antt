-- Heads in blocks, each behind what the lists of its block share, and a tree of such blocks.
use Rattle.std.specs.Prelude.{◌≡◌, ℕ, ◌+◌, ◌-◌, ◌*◌, ◌/◌, ◌^◌, ◌<◌, ◌≤◌, ◌⊎◌, List, Some, length, drop, slice_get, slice_index, take, Bool, true, false, IsTrue}
use Rattle.encoded_keys.specs.Codes.{code_at, is_in_front}
use Rattle.encoded_keys.specs.Heads.{AreNibbles, bound_of, head_behind}
use Rattle.encoded_keys.specs.declared.keys.blocks.Level.{Level}

-- all numbers in the lists are nibbles
abbrev pub AreOfNibbles : List (List ℕ) → Type 0
AreOfNibbles cs = (i k : ℕ) → slice_index (code_at cs i) k < 16

-- the lists at `first`, `first + step`, .. have these heads behind n nibbles, and are as many
pub record IsBlock (cs : List (List ℕ)) (hs : List ℕ) (first step n : ℕ) : Type 0 where
  pub nibbles : AreOfNibbles cs
  pub counted : length cs < 2 ^ 64
  pub apart : 0 < step
  pub within : (j : ℕ) → j < length hs → first + j * step < length cs
  pub near : n < 2 ^ 34
  pub heads : (j : ℕ) → j < length hs
      → slice_index hs j ≡ head_behind n (code_at cs (first + j * step))

-- each of these begins with the first n nibbles of q
pub record IsSharedBy (cs : List (List ℕ)) (count first step n : ℕ) (q : List ℕ) : Type 0 where
  pub long : n ≤ length q
  pub same : (j : ℕ) → j < count
      → take n (code_at cs (first + j * step)) ≡ take n q

-- a list that shares what a block skips is searched for in it by the head of what stands behind that
pub record IsSoughtIn (t : Bool) (q : List ℕ) (cs : List (List ℕ)) (hs : List ℕ) (first step n h : ℕ) : Type 0 where
  pub block : IsBlock cs hs first step n
  pub shared : IsSharedBy cs (length hs) first step n q
  pub head : h ≡ bound_of t (drop n q)
  pub nibbles : AreNibbles 15 (drop n q)

-- of so many lists at first, first + step, .. the first c come in front and no other; and whether the one behind these is q,
-- of a search that isn't one through it
pub record IsCounted (t : Bool) (q : List ℕ) (cs : List (List ℕ)) (first step count c : ℕ) (is_found : Bool) : Type 0 where
  pub within : c ≤ count
  pub before : (i : ℕ) → i < c → is_in_front t q (code_at cs (first + i * step)) ≡ true
  pub after : (i : ℕ) → c ≤ i → i < count → is_in_front t q (code_at cs (first + i * step)) ≡ false
  pub found : IsTrue is_found → (t ≡ false) × (c < count) × (code_at cs (first + c * step) ≡ q)
  pub apart : is_found ≡ false → t ≡ false → c < count → code_at cs (first + c * step) ≡ q → ⊥

-- of these the first c come in front, and those from d on don't and aren't q; those between begin with the first k nibbles
-- of q, and where there is none between, this is all
pub record IsNarrowed (t : Bool) (q : List ℕ) (cs : List (List ℕ)) (first step count k c d : ℕ) (is_found : Bool) : Type 0 where
  pub order : c ≤ d
  pub within : d ≤ count
  pub before : (i : ℕ) → i < c → is_in_front t q (code_at cs (first + i * step)) ≡ true
  pub after : (i : ℕ) → d ≤ i → i < count → is_in_front t q (code_at cs (first + i * step)) ≡ false
  pub apart : c < d → t ≡ false → d < count → code_at cs (first + d * step) ≡ q → ⊥
  pub shared : c < d → IsSharedBy cs (d - c) (first + c * step) step k q
  pub whole : c ≡ d → IsCounted t q cs first step count c is_found

-- the a-th and the b-th list, counted from 1, agree in s bytes; none where one of them isn't there
pub record IsSkip (cs : List (List ℕ)) (a b s : ℕ) : Type 0 where
  pub long : 2 * s ≤ length (code_at cs (a - 1))
  pub same : take (2 * s) (code_at cs (a - 1)) ≡ take (2 * s) (code_at cs (b - 1))
  pub edge : (a ≡ 0) ⊎ (length cs < b) → s ≡ 0

-- the first n numbers are the heads of the last of each S lists, each behind what its block of 16 skips and m bytes more
abbrev pub AreHeads : List (List ℕ) → (S m : ℕ) → (hs skips : List ℕ) → ℕ → Type 0
AreHeads cs S m hs skips n = (i : ℕ) → i < n
    → slice_index hs i ≡ head_behind (2 * (m + slice_index skips (i / 16))) (code_at cs (S * (i + 1) - 1))

-- the bytes that the blocks skip: in which the list before a block and its last one agree
abbrev pub AreSkips : List (List ℕ) → ℕ → List ℕ → Type 0
AreSkips cs S skips = (k : ℕ) → IsSkip cs (S * (16 * k)) (S * (16 * k + 16)) (slice_index skips k)

-- of each S lists the last, by its head behind what its block skips
pub record IsLevel (cs : List (List ℕ)) (S : ℕ) (hs ks : List ℕ) : Type 0 where
  pub nibbles : AreOfNibbles cs
  pub apart : 0 < S
  pub few : S ≤ length cs + 1
  pub many : S * length hs ≤ length cs
  pub rest : length cs < S * (length hs + 1)
  pub heads : AreHeads cs S 0 hs ks (length hs)
  pub skips : AreSkips cs S ks

-- the heads of the same lists behind seven bytes more, of a level of so many heads
pub record AreFurther (cs : List (List ℕ)) (S count : ℕ) (ks more : List ℕ) : Type 0 where
  pub many : length more ≡ count
  pub heads : AreHeads cs S 7 more ks count

-- a level of some lists, with both of its heads
abbrev pub IsLevelOf : List (List ℕ) → Level → Type 0
IsLevelOf cs l = IsLevel cs l.step l.heads.items l.skips.items
    × AreFurther cs l.step (length l.heads.items) l.skips.items l.more.items

-- levels, of which each takes each sixteenth list of the one before, the first of all lists; the last is one block
pub record AreLevels (cs : List (List ℕ)) (levels : List Level) : Type 0 where
  pub few : length cs < 16 ^ (length levels + 1)
  pub each : (t : ℕ) (l : Level) → slice_get levels t ≡ Some l
      → (l.step ≡ 16 ^ (t + 1)) × IsLevelOf cs l

-- the first S n lists come in front, and the last of the next S and all behind it don't
pub record IsAround (t : Bool) (q : List ℕ) (cs : List (List ℕ)) (S n : ℕ) : Type 0 where
  pub within : S * n ≤ length cs
  pub before : (i : ℕ) → i < S * n → is_in_front t q (code_at cs i) ≡ true
  pub after : (i : ℕ) → S * (n + 1) ≤ i + 1 → i < length cs
      → is_in_front t q (code_at cs i) ≡ false

-- the last of the S lists behind the first S n is q
pub record IsEndOf (q : List ℕ) (cs : List (List ℕ)) (S n : ℕ) : Type 0 where
  pub within : S * (n + 1) ≤ length cs
  pub same : code_at cs (S * (n + 1) - 1) ≡ q

-- S n lists come in front, up to the next S; and whether the last of these is q, of a search that isn't one through it
pub record IsLocated (t : Bool) (q : List ℕ) (cs : List (List ℕ)) (S n : ℕ) (is_found : Bool) : Type 0 where
  pub around : IsAround t q cs S n
  pub found : IsTrue is_found → (t ≡ false) × IsEndOf q cs S n
  pub apart : is_found ≡ false → t ≡ false → IsEndOf q cs S n → ⊥
