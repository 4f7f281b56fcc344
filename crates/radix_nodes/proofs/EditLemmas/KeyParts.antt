-- What is left of a list behind a place, and a fragment that agrees with what is left of the key.
use Rattle.std.proofs.Common.{◌≡◌, ◌≢◌, ◌⊎◌, ℕ, zero, suc, ◌+◌, ◌<◌, ◌≤◌, List, [], ◌∷◌, ◌++◌, length, take, drop, slice_index, refl, ap, sym, ◌∙◌, arith, inl, inr, drop-drop}
use Rattle.std.proofs.lemmas.List.{get_or-drop, length-drop, length-take, take-append-drop}
use Rattle.std.proofs.Math.Seq.{take-length}
use Rattle.nibble_map.specs.Trees.{first}
use Rattle.masked_tree.specs.Agreement.{Agrees}

-- what is left of a list behind d items begins with its item at d
pub first-drop : (xs : List ℕ) (d : ℕ) → first (drop d xs) ≡ slice_index xs d
first-drop [] zero = refl
first-drop [] (suc d) = refl
first-drop (x ∷ xs) zero = refl
first-drop (x ∷ xs) (suc d) = first-drop xs d

-- what is left of a list behind a place within it isn't empty
pub drop_some : (xs : List ℕ) (d : ℕ) → d < length xs → drop d xs ≢ []
drop_some xs d l e = let n = ap length e in let m = length-drop d xs in omega (arith, n, m, l)

-- a list that isn't empty has a length above 0
pub length_some : (xs : List ℕ) → xs ≢ [] → 0 < length xs
length_some [] s = absurd (s refl)
length_some (x ∷ xs) s = omega arith

-- the first n items of a longer list aren't empty, for n above 0
pub take_some : (xs : List ℕ) (n : ℕ) → 0 < n → n < length xs → take n xs ≢ []
take_some xs n p l e = let m = ap length e in let k = length-take n xs in omega (arith, m, k, p, l)

-- a part of a fragment that agrees with the key, joined with the key's rest, is what was left
pub append-agreed_part : (f key : List ℕ) (depth n : ℕ) → take n f ≡ take n (drop depth key) → take n f ++ drop (depth + n) key ≡ drop depth key
append-agreed_part f key depth n same =
    ap (λ g. g ++ drop (depth + n) key) same
    ∙ ap (λ g. take n (drop depth key) ++ g) (sym (drop-drop n depth key))
    ∙ take-append-drop n (drop depth key)

-- a whole fragment that agrees with the key, joined with the key's rest, is what was left
pub append-agreed_fragment : (f key : List ℕ) (depth n : ℕ) → n ≡ length f → take n f ≡ take n (drop depth key) → f ++ drop (depth + n) key ≡ drop depth key
append-agreed_fragment f key depth n len same =
    ap (λ g. g ++ drop (depth + n) key) (sym (take-length f) ∙ ap (λ k. take k f) (sym len))
    ∙ append-agreed_part f key depth n same

-- a fragment that begins with the key's next nibble agrees with the key in one nibble or more
pub split_some : (f key : List ℕ) (depth n y : ℕ) → f ≢ [] → first f ≡ y → y ≡ slice_index key depth → depth < length key →
    (n < length f → depth + n < length key → slice_index f n ≢ slice_index key (depth + n)) → 0 < n
split_some [] key depth n y s e k l apart = absurd (s refl)
split_some (a ∷ f) key depth zero y s e k l apart = absurd (apart (omega arith) (omega (arith, l)) (e ∙ k ∙ ap (slice_index key) (let i : depth ≡ depth + 0 = omega arith in i)))
split_some (a ∷ f) key depth (suc n) y s e k l apart = omega arith

-- the first n items of a list begin as the list does, for n above 0
pub first-take : (f : List ℕ) (n : ℕ) → 0 < n → first (take n f) ≡ first f
first-take f zero l = absurd (omega (arith, l))
first-take [] (suc n) l = refl
first-take (a ∷ f) (suc n) l = refl

-- the item at i behind the first d items is the one at d + i
slice_drop : (xs : List ℕ) (d i : ℕ) → slice_index (drop d xs) i ≡ slice_index xs (d + i)
slice_drop xs d i = get_or-drop d xs i 0

-- what a comparison tells, of the fragment and what is left of the key
pub agrees_from_depth : (f key : List ℕ) (depth same compared : ℕ) → depth ≤ length key → same ≤ length f → depth + same ≤ length key → take same f ≡ take same (drop depth key) →
    (same < length f → depth + same < length key → slice_index f same ≢ slice_index key (depth + same)) →
    ((same ≡ length f) ⊎ (depth + same ≡ length key) → compared ≡ same) →
    (same < length f → depth + same < length key → compared ≡ same + 1) → Agrees f (drop depth key) same compared
agrees_from_depth f key depth same compared most within inside alike apart ended parted =
    let l = length-drop depth key in
    record {
      within = within;
      inside = omega (arith, l, inside, most);
      alike = alike;
      apart = λ a b e. apart a (omega (arith, l, b)) (e ∙ slice_drop key depth same);
      ended = λ e. ended (elim e [ inl z ↦ inl z | inr z ↦ inr (omega (arith, l, z, most)) ]);
      parted = λ a b. parted a (omega (arith, l, b));
    }

-- where a fragment agrees with what is left of the key, that part lies within the key
pub agreed_inside : (f key : List ℕ) (depth same compared : ℕ) → depth ≤ length key → Agrees f (drop depth key) same compared → depth + same ≤ length key
agreed_inside f key depth same compared most agrees = let l = length-drop depth key in let i = agrees.inside in omega (arith, l, i, most)

-- where a fragment stops to agree with what is left of the key, it parts from the key
pub agreed_apart : (f key : List ℕ) (depth same compared : ℕ) → Agrees f (drop depth key) same compared → same < length f → depth + same < length key →
    slice_index f same ≢ slice_index key (depth + same)
agreed_apart f key depth same compared agrees a b e =
    let l = length-drop depth key in agrees.apart a (omega (arith, l, b)) (e ∙ sym (slice_drop key depth same))

-- a nibble that begins a list is what its first nibble alone is
take-one : (a : ℕ) (r : List ℕ) → r ≢ [] → a ≡ first r → a ∷ [] ≡ take 1 r
take-one a [] some e = absurd (some refl)
take-one a (b ∷ r) some e = ap (λ x. x ∷ []) e

-- a fragment of one nibble, which is the key's next one, agrees with the key
pub agrees_at_one : (f key : List ℕ) (depth : ℕ) → depth < length key → length f ≡ 1 → first f ≡ slice_index key depth → Agrees f (drop depth key) 1 1
agrees_at_one [] key depth lt one e = absurd (omega (arith, one))
agrees_at_one (a ∷ b ∷ f) key depth lt one e = absurd (omega (arith, one))
agrees_at_one (a ∷ []) key depth lt one e =
    let l = length-drop depth key in
    record {
      within = omega arith;
      inside = omega (arith, l, lt);
      alike = take-one a (drop depth key) (drop_some key depth lt) (e ∙ sym (first-drop key depth));
      apart = λ more. absurd (omega (arith, more));
      ended = λ _. refl;
      parted = λ more. absurd (omega (arith, more));
    }
