-- Networks by the numbers of their addresses.
use Rattle.std.specs.Prelude.{◌≡◌, ◌≢◌, ℕ, ◌-◌, ◌/◌, ◌%◌, ◌^◌, ◌<◌, ◌≤◌, List, ◌∷◌, ◌++◌, length, slice_index, codes, decimal}

-- a network's first address, and how many first bits its addresses share
pub record Net (A : Type 0) : Type 0 where
  pub base : A
  pub bits : ℕ

-- a number of w bits has 0 in each bit after the first so many
abbrev pub IsBase : (w bits n : ℕ) → Type 0
IsBase w bits n = (n < 2 ^ w) × (bits ≤ w) × (n % 2 ^ (w - bits) ≡ 0)

-- two numbers of w bits agree in the first so many of them
abbrev pub AgreeIn : (w bits m n : ℕ) → Type 0
AgreeIn w bits m n = m / 2 ^ (w - bits) ≡ n / 2 ^ (w - bits)

-- the byte first stands between the two parts of the text
abbrev pub IsParted : ℕ → (text front back : List ℕ) → Type 0
IsParted byte text front back =
    (text ≡ front ++ byte ∷ back)
    × ((i : ℕ) → i < length front → slice_index front i ≢ byte)

-- the text writes a network: its base, a slash, and how many bits are shared
abbrev pub IsNetText : {A : Type 0} → (w : ℕ) → (A → ℕ) → (List ℕ → A → Type 0) → List ℕ → Net A
    → Type 0
IsNetText w number writes text net =
    (base : List ℕ) × (digits : List ℕ) × IsParted 47 text base digits
    × writes base net.base × (digits ≡ decimal net.bits) × IsBase w net.bits (number net.base)

-- what is written of a network, by what is written of its base
abbrev pub net_text : {A : Type 0} → (A → List ℕ) → Net A → List ℕ
net_text text net = text net.base ++ codes "/" ++ decimal net.bits
