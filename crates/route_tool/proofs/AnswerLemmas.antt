-- Answers of parts.
use Rattle.std.proofs.Common.{◌≡◌, ◌∙◌, ◌⊎◌, inl, inr, ℕ, List, ◌++◌, Result, Ok, Err, OnErr, OnOk, ap, append_assoc, is_ok, sym, true≢false}

-- three parts, one after another, behind what stood there
pub three_parts : (old first second third h p q : List ℕ) → first ≡ old ++ h → second ≡ first ++ p → third ≡ second ++ q → third ≡ old ++ (h ++ p ++ q)
three_parts old first second third h p q is then last =
    last ∙ ap (λ l. l ++ q) (then ∙ ap (λ l. l ++ p) is ∙ append_assoc old h p) ∙ append_assoc old (h ++ p) q

-- an answer of one kind is one of another
pub answers_too : {X E : Type 0} (r : Result X E) (old new : List ℕ) (P Q : List ℕ → Type 0) → ((answer : List ℕ) → P answer → Q answer)
    → OnOk r ((answer : List ℕ) × (new ≡ old ++ answer) × P answer) → OnOk r ((answer : List ℕ) × (new ≡ old ++ answer) × Q answer)
answers_too (Ok x) old new P Q to (answer, is, p) = (answer, is, to answer p)
answers_too (Err e) old new P Q to h = h

-- after a refusal a table may be as after an answer
pub left_after : {T E A : Type 0} (r : Result T E) (Q : Type 0) (P : A → Type 0) (answer : A) → P answer → OnErr r (Q ⊎ ((a : A) × P a))
left_after (Ok x) Q P answer p = tt
left_after (Err e) Q P answer p = inr (answer, p)

-- after a refusal a table may be as after an answer of one kind, which is one of another
pub left_as : {T E A : Type 0} (r : Result T E) (Q : Type 0) (P R : A → Type 0) → ((a : A) → P a → R a) → OnErr r (Q ⊎ ((a : A) × P a)) → OnErr r (Q ⊎ ((a : A) × R a))
left_as (Ok x) Q P R to h = tt
left_as (Err e) Q P R to (inl q) = inl q
left_as (Err e) Q P R to (inr (a, p)) = inr (a, to a p)

-- or as after a part of what was asked
pub left_or : {T E A : Type 0} (r : Result T E) (Q B : Type 0) (P R : A → Type 0) → ((a : A) → P a → R a) → OnErr r (Q ⊎ ((a : A) × P a)) → OnErr r (Q ⊎ (((a : A) × R a) ⊎ B))
left_or (Ok x) Q B P R to h = tt
left_or (Err e) Q B P R to (inl q) = inl q
left_or (Err e) Q B P R to (inr (a, p)) = inr (inl (a, to a p))

-- an answer that is written is one where something holds by which it is
pub answered : {X E : Type 0} (r : Result X E) (old new answer : List ℕ) (T : Type 0) (P : List ℕ → Type 0) → (T → P answer) → OnOk r (new ≡ old ++ answer) → OnOk r T
    → OnOk r ((a : List ℕ) × (new ≡ old ++ a) × P a)
answered (Ok x) old new answer T P to written t = (answer, written, to t)
answered (Err e) old new answer T P to written t = tt

-- what holds after an error holds where it was mapped
pub still_err : {X Y E D : Type 0} (r : Result X E) (s : Result Y D) (P Q : Type 0) → is_ok s ≡ is_ok r → (P → Q) → OnErr r P → OnErr s Q
still_err (Ok x) (Ok y) P Q same to p = tt
still_err (Err e) (Ok y) P Q same to p = tt
still_err (Ok x) (Err d) P Q same to p = absurd (true≢false (sym same))
still_err (Err e) (Err d) P Q same to p = to p

-- what holds after a call that was well holds where its error was mapped
pub still_ok : {X Y E D : Type 0} (r : Result X E) (s : Result Y D) (P Q : Type 0) → is_ok s ≡ is_ok r → (P → Q) → OnOk r P → OnOk s Q
still_ok (Ok x) (Ok y) P Q same to p = to p
still_ok (Err e) (Ok y) P Q same to p = absurd (true≢false same)
still_ok (Ok x) (Err d) P Q same to p = tt
still_ok (Err e) (Err d) P Q same to p = tt
