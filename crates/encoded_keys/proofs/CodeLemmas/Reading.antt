-- What is read of the lists.
use Rattle.std.proofs.Common.{◌≡◌, ℕ, zero, suc, ◌-◌, ◌/◌, ◌%◌, ◌<◌, ◌≤◌, Bool, false, nat_eq, List, [], ◌∷◌, length, get_or, refl, sym, ap, subst, ◌∙◌, arith}
use Rattle.std.proofs.lemmas.List.{length-map}
use Rattle.radix_keys.specs.Packing.{IsPadded, unpacked}
use Rattle.encoded_keys.specs.Laid.{piece_of, start_of, codes_in, halves, odds, IsLaid}

-- as many lists as ends, and as flags
pub as_many : (bytes : List ℕ) (from : ℕ) (ends : List ℕ) (odds : List Bool) → IsLaid bytes from ends odds
    → (length ends ≡ length (codes_in bytes from ends odds)) × (length odds ≡ length ends)
as_many bytes from [] [] h = (refl, refl)
as_many bytes from [] (o ∷ os) h = absurd h
as_many bytes from (e ∷ es) [] h = absurd h
as_many bytes from (e ∷ es) (o ∷ os) h = let r = as_many bytes e es os h.3 in (omega (arith, r.0), omega (arith, r.1))

-- what is at an index
pub record Stands (bytes : List ℕ) (from : ℕ) (ends : List ℕ) (odds : List Bool) (k : ℕ) (o : Bool) : Type 0 where
  pub order : start_of from ends k ≤ get_or ends k 0
  pub within : get_or ends k 0 ≤ length bytes
  pub padded : IsPadded (piece_of bytes (start_of from ends k) (get_or ends k 0)) o
  pub code : unpacked (piece_of bytes (start_of from ends k) (get_or ends k 0)) o ≡ get_or (codes_in bytes from ends odds) k []

-- the start of a later list, after the first
later_start : (from e : ℕ) (es : List ℕ) (k : ℕ) → start_of e es k ≡ start_of from (e ∷ es) (suc k)
later_start from e es zero = refl
later_start from e es (suc k) = refl

pub stands : (bytes : List ℕ) (from : ℕ) (ends : List ℕ) (odds : List Bool) → IsLaid bytes from ends odds → (k : ℕ) (o d : Bool) → k < length ends → o ≡ get_or odds k d
    → Stands bytes from ends odds k o
stands bytes from [] odds h k o d l w = absurd (omega (arith, l))
stands bytes from (e ∷ es) [] h k o d l w = absurd h
stands bytes from (e ∷ es) (p ∷ os) h zero o d l w =
    subst (λ x. Stands bytes from (e ∷ es) (p ∷ os) zero x) (sym w) (record { order = h.0; within = h.1; padded = h.2; code = refl })
stands bytes from (e ∷ es) (p ∷ os) h (suc k) o d l w =
    let r = stands bytes e es os h.3 k o d (omega (arith, l)) w in
    let s = later_start from e es k in
    record {
      order = subst (λ x. x ≤ get_or es k 0) s r.order;
      within = r.within;
      padded = subst (λ x. IsPadded (piece_of bytes x (get_or es k 0)) o) s r.padded;
      code = subst (λ x. unpacked (piece_of bytes x (get_or es k 0)) o ≡ get_or (codes_in bytes e es os) k []) s r.code;
    }

-- the first list begins at the start
pub start_is_first : (ends : List ℕ) (k : ℕ) → k ≡ 0 → 0 ≡ start_of 0 ends k
start_is_first ends zero e = refl
start_is_first ends (suc k) e = absurd (omega (arith, e))

-- a later list begins where the one before ends
pub start_is_end : (ends : List ℕ) (k : ℕ) → (k ≡ 0 → ⊥) → get_or ends (k - 1) 0 ≡ start_of 0 ends k
start_is_end ends zero n = absurd (n refl)
start_is_end ends (suc k) n = let e : suc k - 1 ≡ k = omega arith in ap (λ i. get_or ends i 0) e

-- half a number among others is the half among theirs
pub half_at : (es : List ℕ) (k : ℕ) → get_or es k 0 / 2 ≡ get_or (halves es) k 0
half_at [] k = refl
half_at (e ∷ es) zero = refl
half_at (e ∷ es) (suc k) = half_at es k

-- and whether it is odd
pub odd_at : (es : List ℕ) (k : ℕ) → k < length es → nat_eq (get_or es k 0 % 2) 1 ≡ get_or (odds es) k false
odd_at [] k l = absurd (omega (arith, l))
odd_at (e ∷ es) zero l = refl
odd_at (e ∷ es) (suc k) l = odd_at es k (omega (arith, l))

module _ (bytes ends : List ℕ) (laid : IsLaid bytes 0 (halves ends) (odds ends)) where
  -- as many lists as numbers that say where they end
  pub as_many_ends : length ends ≡ length (codes_in bytes 0 (halves ends) (odds ends))
  as_many_ends = sym (length-map ends (λ e. e / 2)) ∙ (as_many bytes 0 (halves ends) (odds ends) laid).0

  -- what stands at an index
  pub stands_here : (k : ℕ) → k < length ends → Stands bytes 0 (halves ends) (odds ends) k (nat_eq (get_or ends k 0 % 2) 1)
  stands_here k l = stands bytes 0 (halves ends) (odds ends) laid k _ false (omega (arith, l, length-map ends (λ e. e / 2))) (odd_at ends k l)
