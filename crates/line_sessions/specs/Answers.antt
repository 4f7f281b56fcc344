-- What lines are answered one after another, by what a program replies to one.
use Rattle.std.specs.Prelude.{◌≡◌, ℕ, List, [], ◌∷◌, ◌++◌}
use Rattle.line_sessions.specs.declared.program.Refusal.{Refusal}
use Rattle.line_sessions.specs.declared.program.Refusal.TheVariants.{Bad, Memory}

-- a text begins with another
abbrev pub Begins : List ℕ → List ℕ → Type 0
Begins p q = (rest : List ℕ) × (q ≡ p ++ rest)

-- a reply to the line was put behind what waits
abbrev pub Adds : {S : Type 0} → (S → List ℕ → S → List ℕ → Type 0) → List ℕ → S → S
    → (old new : List ℕ) → Type 0
Adds R line s t old new = (answer : List ℕ) × R s line t answer × (new ≡ old ++ answer)

-- a line that asks for nothing, of which the remark is told
abbrev pub IsToldBad : (List ℕ → Type 0) → (List ℕ → List ℕ → Type 0) → (remark : List ℕ)
    → List ℕ → Type 0
IsToldBad B M remark line = B line × M line remark

-- why a line has no answer, and the program after it
abbrev pub Refuses : {S : Type 0} → (List ℕ → Type 0) → (List ℕ → List ℕ → Type 0)
    → (S → List ℕ → S → Type 0) → Refusal → List ℕ → S → S → Type 0
Refuses B M G (Bad remark) line s t = IsToldBad B M remark.now line × (t ≡ s)
Refuses B M G Memory line s t = G s line t

-- what a line is answered: an empty one has an empty answer, and leaves the program as it was
abbrev pub IsLineAnswer : {S : Type 0} → (S → List ℕ → S → List ℕ → Type 0) → S → List ℕ → S
    → List ℕ → Type 0
IsLineAnswer R s [] t answer = (t ≡ s) × (answer ≡ [])
IsLineAnswer R s (b ∷ bs) t answer = R s (b ∷ bs) t answer

-- the answers to some lines one after another, from one state of the program to another
abbrev pub AreAnswers : {S : Type 0} → (S → List ℕ → S → List ℕ → Type 0) → List (List ℕ) → S
    → S → List ℕ → Type 0
AreAnswers R [] s t o = (t ≡ s) × (o ≡ [])
AreAnswers {S} R (line ∷ lines) s t o =
    (u : S) × (answer : List ℕ) × (rest : List ℕ) × IsLineAnswer R s line u answer
    × AreAnswers R lines u t rest × (o ≡ answer ++ rest)

-- a line that asks for nothing; an empty one is none
abbrev pub IsBadLine : (List ℕ → Type 0) → List ℕ → Type 0
IsBadLine B [] = ⊥
IsBadLine B (b ∷ bs) = B (b ∷ bs)
