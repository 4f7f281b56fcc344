-- What equal bytes of keys and values tell.
use Rattle.std.specs.Prelude.{◌≡◌, ℕ, ◌*◌, ◌<◌, ◌^◌, List, [], ◌∷◌, length}
use Rattle.std.proofs.Common.{◌∙◌, ap, sym}
use Rattle.std.proofs.lemmas.Nat.{from_le_bytes-to_le_bytes_2, from_le_bytes-to_le_bytes_4, from_le_bytes-to_le_bytes_8}
use Rattle.std.specs.Int.{w16, w32, w64, from_le_bytes, to_le_bytes}
use Rattle.radix_keys.specs.Networks.{IsBase}

-- equal bytes are of equal numbers
pub same_u8 : (a b : ℕ) → a ∷ [] ≡ b ∷ [] → a ≡ b
same_u8 a b e = cc

pub same_u16 : (a b : ℕ) → a < 2 ^ 16 → b < 2 ^ 16 → to_le_bytes w16 a ≡ to_le_bytes w16 b → a ≡ b
same_u16 a b l m e = sym (from_le_bytes-to_le_bytes_2 a l) ∙ ap (from_le_bytes w16) e ∙ from_le_bytes-to_le_bytes_2 b m

pub same_u32 : (a b : ℕ) → a < 2 ^ 32 → b < 2 ^ 32 → to_le_bytes w32 a ≡ to_le_bytes w32 b → a ≡ b
same_u32 a b l m e = sym (from_le_bytes-to_le_bytes_4 a l) ∙ ap (from_le_bytes w32) e ∙ from_le_bytes-to_le_bytes_4 b m

pub same_u64 : (a b : ℕ) → a < 2 ^ 64 → b < 2 ^ 64 → to_le_bytes w64 a ≡ to_le_bytes w64 b → a ≡ b
same_u64 a b l m e = sym (from_le_bytes-to_le_bytes_8 a l) ∙ ap (from_le_bytes w64) e ∙ from_le_bytes-to_le_bytes_8 b m

-- equal lists are of equal parts
pub same_parts : {a b : ℕ} {c d : List ℕ} → a ∷ c ≡ b ∷ d → (a ≡ b) × (c ≡ d)
same_parts e = (cc e, cc e)

-- an address of w bits has as many bytes as hold them, and has 0 in each bit after the first so many
abbrev pub IsNetItem : (w : ℕ) (octets : List ℕ) (bits n : ℕ) → Type 0
IsNetItem w octets bits n = (8 * length octets ≡ w) × IsBase w bits n
