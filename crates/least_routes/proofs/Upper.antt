-- The routes that are chosen for a tree: how many, and what they answer.
use Rattle.std.proofs.Common.{◌≡◌, ℕ, zero, suc, ◌+◌, ◌-◌, ◌*◌, ◌/◌, ◌%◌, ◌^◌, ◌<◌, ◌≤◌, ◌≢◌, ◌∙◌, Bool, true, false, cond, ◌||◌, eqb, List, [], ◌∷◌, ◌++◌, length, get_or, Option, Some, None, sym, ap, subst, refl, inl, inr, arith, length-append}
use Rattle.std.specs.List.{All}
use Rattle.std.proofs.lemmas.Bool.{eq-eqb, eqb-true, ne_eqb, cases_Bool, cond_both, both_ways}
use Rattle.std.proofs.lemmas.List.{append-nil}
use Rattle.std.proofs.lemmas.Nat.{shl_below}
use Rattle.std.proofs.Math.Nat.{mul-mod_left, two-pow-succ}
use Rattle.std.proofs.lemmas.List.Elements.{All-nil, All-cons, All-head, All-tail, All-weaker, All-append}
use Rattle.least_routes.specs.declared.routes.Route.{Route}
use Rattle.least_routes.specs.Routes.{HoldsNumber, IsWithin}
use Rattle.least_routes.specs.Trees.{PlanTree, one, open_at, closed_at, Suits, IsSound, has, is_open, hops_of, given, root_route, at_root, chosen, last_answer}
use Rattle.least_routes.proofs.BlockLemmas.{coarser, in_half, from_low, from_high, first_in}
use Rattle.least_routes.proofs.Hops.{weight, miss, best-miss, IsJoined}

-- the first of some hops is one of them
pub has_first : (hops : List ℕ) → 0 < length hops → has hops (get_or hops 0 0) ≡ true
has_first [] h = absurd (omega arith)
has_first (x ∷ xs) h = ap (λ b. b || has xs x) (eq-eqb x x refl)

-- what is given below a root is one of the best
has_given : (hops : List ℕ) (o : Option ℕ) → 0 < length hops → has hops (given hops o) ≡ true
has_given hops None some = has_first hops some
has_given hops (Some h) some =
    elim (cases_Bool (has hops h)) [
      | inl t ↦ ap (λ b. has hops (cond b h (get_or hops 0 0))) t ∙ t
      | inr f ↦ ap (λ b. has hops (cond b h (get_or hops 0 0))) f ∙ has_first hops some
    ]

-- a root takes a route where the hop from above is none of the best
root_length : (w n q : ℕ) (t : PlanTree) (o : Option ℕ) → is_open t ≡ false
    → length (at_root w n q (hops_of t) o) ≡ miss t o
root_length w n q t None closed = sym (ap {B = ℕ} (λ b. cond b 0 1) closed)
root_length w n q t (Some h) closed =
    elim (has (hops_of t) h) as (λ b. length
    (cond b [] (root_route w n q (hops_of t) ∷ [])) ≡ cond b 0 1) [
      | true ↦ refl
      | false ↦ refl
    ]

-- the best hops of two halves, as a tree has them
joined_of : (n q : ℕ) (F : ℕ → Option ℕ) (hops : List ℕ) (low high : PlanTree)
    → Suits (suc n) q F (closed_at hops low high) → IsJoined hops low high
joined_of n q F hops low high suits =
    record { low_closed = suits.0; high_closed = suits.1; best = suits.2 }

-- no more routes are chosen than the tree costs
pub chosen_length : (w : ℕ) (F : ℕ → Option ℕ) (t : PlanTree) (n q : ℕ) (o : Option ℕ) → Suits n q F t
    → length (chosen w n q t o) ≤ weight t + miss t o
chosen_length w F (one None) n q o suits = omega arith
chosen_length w F (one (Some h)) n q o suits =
    omega (arith, root_length w n q (one (Some h)) o refl)
chosen_length w F (open_at low high) zero q o suits = absurd suits
chosen_length w F (open_at low high) (suc n) q o suits =
    omega (
      arith,
      length-append (chosen w n (2 * q) low None) (chosen w n (2 * q + 1) high None),
      chosen_length w F low n (2 * q) None suits.1,
      chosen_length w F high n (2 * q + 1) None suits.2,
    )
chosen_length w F (closed_at hops low high) zero q o suits = absurd suits
chosen_length w F (closed_at hops low high) (suc n) q o suits =
    let g = given hops o in
    let j = joined_of n q F hops low high suits in
    let root = at_root w (suc n) q hops o in
    let xs = chosen w n (2 * q) low (Some g) in
    let ys = chosen w n (2 * q + 1) high (Some g) in
    omega (
      arith,
      length-append root (xs ++ ys),
      length-append xs ys,
      chosen_length w F low n (2 * q) (Some g) suits.3,
      chosen_length w F high n (2 * q + 1) (Some g) suits.4,
      best-miss hops low high g j (has_given hops o suits.2.some),
      root_length w (suc n) q (closed_at hops low high) o refl,
    )

-- the answer of two lists in a row
pub last_answer-append : (w : ℕ) (o : Option ℕ) (xs ys : List Route) (a : ℕ)
    → last_answer w o (xs ++ ys) a ≡ last_answer w (last_answer w o xs a) ys a
last_answer-append w o [] ys a = refl
last_answer-append w o (x ∷ xs) ys a =
    last_answer-append w (cond (eqb (a / 2 ^ (w - x.bits)) (x.base / 2 ^ (w - x.bits)))
    (Some x.hop) o) xs ys a

-- where no route holds the address, what stands above is the answer
pub last_answer-none : (w : ℕ) (o : Option ℕ) (xs : List Route) (a : ℕ)
    → All (λ r. ¬ HoldsNumber w r a) xs → last_answer w o xs a ≡ o
last_answer-none w o [] a none = refl
last_answer-none w o (x ∷ xs) a none =
    let test = ne_eqb (a / 2 ^ (w - x.bits)) (x.base / 2 ^ (w - x.bits))
    (All-head (λ r. ¬ HoldsNumber w r a) x xs none) in
    ap (λ b. last_answer w (cond b (Some x.hop) o) xs a) test
    ∙ last_answer-none w o xs a (All-tail (λ r. ¬ HoldsNumber w r a) x xs none)

-- a network in another block doesn't hold the address
pub holds_none : (w n p q a : ℕ) (xs : List Route) → a / 2 ^ n ≡ p → p ≢ q → All (IsWithin w n q) xs
    → All (λ r. ¬ HoldsNumber w r a) xs
holds_none w n p q a xs e ne all =
    All-weaker (IsWithin w n q) (λ r. ¬ HoldsNumber w r a)
    (λ r at holds. ne (sym e ∙ coarser a r.base
    (w - r.bits) n at.no_wider holds ∙ at.in_block)) xs all

-- the route to a block is within it
root_within : (w n q : ℕ) (hops : List ℕ) → n ≤ w → q < 2 ^ (w - n)
    → IsWithin w n q (root_route w n q hops)
root_within w n q hops le fits =
    let whole : w - n + n ≡ w = omega arith in
    let back : w - (w - n) ≡ n = omega arith in
    record {
      of_width = (
        subst (λ k. q * 2 ^ n < 2 ^ k) whole (shl_below q (w - n) n fits),
        omega arith,
        ap (λ k. q * 2 ^ n % 2 ^ k) back ∙ mul-mod_left q (2 ^ n),
      );
      no_wider = omega arith;
      in_block = first_in n q;
    }

-- a network in the lower half is within the block
within_low : (w n q : ℕ) (xs : List Route) → All (IsWithin w n (2 * q)) xs
    → All (IsWithin w (suc n) q) xs
within_low w n q xs all =
    All-weaker (IsWithin w n (2 * q)) (IsWithin w (suc n) q)
    (λ r at. record {
      of_width = at.of_width;
      no_wider = omega
          (arith, at.no_wider);
      in_block = from_low r.base n q at.in_block;
    }) xs all

-- a network in the upper half is within the block
within_high : (w n q : ℕ) (xs : List Route) → All (IsWithin w n (2 * q + 1)) xs
    → All (IsWithin w (suc n) q) xs
within_high w n q xs all =
    All-weaker (IsWithin w n (2 * q + 1)) (IsWithin w (suc n) q)
    (λ r at. record {
      of_width = at.of_width;
      no_wider = omega
          (arith, at.no_wider);
      in_block = from_high r.base n q at.in_block;
    }) xs all

-- the route to a block alone
root_alone : (w n q : ℕ) (hops : List ℕ) → n ≤ w → q < 2 ^ (w - n)
    → All (IsWithin w n q) (root_route w n q hops ∷ [])
root_alone w n q hops le fits =
    All-cons (IsWithin w n q) (root_route w n q hops) [] (root_within w n q hops le fits)
    (All-nil (IsWithin w n q))

-- the routes at a root are within the block
at_root_within : (w n q : ℕ) (hops : List ℕ) (o : Option ℕ) → n ≤ w → q < 2 ^ (w - n)
    → All (IsWithin w n q) (at_root w n q hops o)
at_root_within w n q hops None le fits = root_alone w n q hops le fits
at_root_within w n q hops (Some h) le fits =
    elim (has hops h) as (λ b. All (IsWithin w n q) (cond b [] (root_route w n q hops ∷ []))) [
      | true ↦ All-nil (IsWithin w n q)
      | false ↦ root_alone w n q hops le fits
    ]

-- the halves of a block have numbers that fit
pub halves_fit : (w n q : ℕ) → suc n ≤ w → q < 2 ^ (w - suc n) → 2 * q + 1 < 2 ^ (w - n)
halves_fit w n q le fits =
    let more : w - n ≡ suc (w - suc n) = omega arith in
    subst (λ k. 2 * q + 1 < 2 ^ k) (sym more) (omega (arith, two-pow-succ (w - suc n)))

-- the chosen routes are networks within the block
pub chosen_within : (w : ℕ) (t : PlanTree) (n q : ℕ) (o : Option ℕ) → n ≤ w → q < 2 ^ (w - n)
    → All (IsWithin w n q) (chosen w n q t o)
chosen_within w (one None) n q o le fits = All-nil (IsWithin w n q)
chosen_within w (one (Some h)) n q o le fits = at_root_within w n q (h ∷ []) o le fits
chosen_within w (open_at low high) zero q o le fits = All-nil (IsWithin w zero q)
chosen_within w (open_at low high) (suc n) q o le fits =
    let d = halves_fit w n q le fits in
    All-append (IsWithin w (suc n) q) (chosen w n (2 * q) low None)
    (chosen w n (2 * q + 1) high None)
    (within_low w n q _ (chosen_within w low n (2 * q) None (omega arith) (omega arith)))
    (within_high w n q _ (chosen_within w high n (2 * q + 1) None (omega arith) d))
chosen_within w (closed_at hops low high) zero q o le fits = All-nil (IsWithin w zero q)
chosen_within w (closed_at hops low high) (suc n) q o le fits =
    let d = halves_fit w n q le fits in
    let g = Some (given hops o) in
    All-append (IsWithin w (suc n) q) (at_root w (suc n) q hops o)
    (chosen w n (2 * q) low g ++ chosen w n (2 * q + 1) high g)
    (at_root_within w (suc n) q hops o le fits)
    (All-append (IsWithin w (suc n) q) (chosen w n (2 * q) low g) (chosen w n (2 * q + 1) high g)
    (within_low w n q _ (chosen_within w low n (2 * q) g (omega arith) (omega arith)))
    (within_high w n q _ (chosen_within w high n (2 * q + 1) g (omega arith) d)))

-- the route to a block answers for each address of it
root_step : (w n q : ℕ) (hops : List ℕ) (o : Option ℕ) (rest : List Route) (a : ℕ) → n ≤ w
    → a / 2 ^ n ≡ q
    → last_answer w o (root_route w n q hops ∷ rest) a ≡ last_answer w
    (Some (get_or hops 0 0)) rest a
root_step w n q hops o rest a le e =
    let back : w - (w - n) ≡ n = omega arith in
    let same : a / 2 ^ (w - (w - n)) ≡ q * 2 ^ n / 2 ^ (w - (w - n)) = subst
    (λ k. a / 2 ^ k ≡ q * 2 ^ n / 2 ^ k) (sym back) (e ∙ sym (first_in n q)) in
    ap (λ b. last_answer w (cond b (Some (get_or hops 0 0)) o) rest a) (eq-eqb _ _ same)

-- below a root its given hop stands
root_answer : (w n q : ℕ) (hops : List ℕ) (o : Option ℕ) (rest : List Route) (a : ℕ) → n ≤ w
    → a / 2 ^ n ≡ q
    → last_answer w o (at_root w n q hops o ++ rest) a ≡ last_answer w (Some (given hops o)) rest a
root_answer w n q hops None rest a le e = root_step w n q hops None rest a le e
root_answer w n q hops (Some h) rest a le e =
    elim (has hops h) as (λ b. last_answer w (Some h)
    (cond b [] (root_route w n q hops ∷ []) ++ rest) a ≡ last_answer w
    (Some (cond b h (get_or hops 0 0))) rest a) [
      | true ↦ refl
      | false ↦ root_step w n q hops (Some h) rest a le e
    ]

-- the first of two tests, where the second fails
or_first : (b : Bool) → (b || false) ≡ true → b ≡ true
or_first true e = refl
or_first false e = e

-- what is given below the root of a block with one answer
given-one : (h : ℕ) (o : Option ℕ) → given (h ∷ []) o ≡ h
given-one h None = refl
given-one h (Some k) =
    cond_both (has (h ∷ []) k) k h (λ x. x ≡ h) (λ t. sym (eqb-true h k (or_first _ t))) (λ _. refl)

-- the answer of the routes to two halves
pub halves_answer : (w n q a : ℕ) (o c : Option ℕ) (xs ys : List Route)
    → All (IsWithin w n (2 * q)) xs → All (IsWithin w n (2 * q + 1)) ys → a / 2 ^ suc n ≡ q
    → (a / 2 ^ n ≡ 2 * q → last_answer w o xs a ≡ c) → (a / 2 ^ n ≡ 2 * q + 1 → last_answer w o ys a ≡ c) → last_answer w o (xs ++ ys) a ≡ c
halves_answer w n q a o c xs ys low high e at_low at_high =
    last_answer-append w o xs ys a
    ∙ elim (in_half a n q e) [
      | inl l ↦ last_answer-none w (last_answer w o xs a) ys a
          (holds_none w n (2 * q) (2 * q + 1) a ys l (omega arith) high)
          ∙ at_low l
      | inr h ↦ ap (λ p. last_answer w p ys a)
          (last_answer-none w o xs a (holds_none w n (2 * q + 1) (2 * q) a xs h (omega arith) low))
          ∙ at_high h
    ]

-- the chosen routes have the answers of the tree
pub chosen_answer : (w : ℕ) (F : ℕ → Option ℕ) (t : PlanTree) (n q : ℕ) (o : Option ℕ) (a : ℕ)
    → Suits n q F t → n ≤ w → q < 2 ^ (w - n)
    → (is_open t ≡ true → o ≡ None) → a / 2 ^ n ≡ q → last_answer w o (chosen w n q t o) a ≡ F a
chosen_answer w F (one None) n q o a suits le fits no_hop e = no_hop refl ∙ sym (suits a e)
chosen_answer w F (one (Some h)) n q o a suits le fits no_hop e =
    ap (λ l. last_answer w o l a) (sym (append-nil (at_root w n q (h ∷ []) o)))
    ∙ root_answer w n q (h ∷ []) o [] a le e
    ∙ ap (λ x. Some x) (given-one h o)
    ∙ sym (suits a e)
chosen_answer w F (open_at low high) zero q o a suits le fits no_hop e = absurd suits
chosen_answer w F (open_at low high) (suc n) q o a suits le fits no_hop e =
    let d = halves_fit w n q le fits in
    let xs = chosen w n (2 * q) low None in
    let ys = chosen w n (2 * q + 1) high None in
    ap (λ p. last_answer w p (xs ++ ys) a) (no_hop refl)
    ∙ halves_answer w n q a None (F a) xs ys
    (chosen_within w low n (2 * q) None (omega arith) (omega arith))
    (chosen_within w high n (2 * q + 1) None (omega arith) d) e
    (λ l. chosen_answer w F low n (2 * q) None a suits.1 (omega arith) (omega arith) (λ _. refl) l)
    (λ h. chosen_answer w F high n (2 * q + 1) None a suits.2 (omega arith) d (λ _. refl) h)
chosen_answer w F (closed_at hops low high) zero q o a suits le fits no_hop e = absurd suits
chosen_answer w F (closed_at hops low high) (suc n) q o a suits le fits no_hop e =
    let d = halves_fit w n q le fits in
    let g = Some (given hops o) in
    let xs = chosen w n (2 * q) low g in
    let ys = chosen w n (2 * q + 1) high g in
    root_answer w (suc n) q hops o (xs ++ ys) a le e
    ∙ halves_answer w n q a g (F a) xs ys
    (chosen_within w low n (2 * q) g (omega arith) (omega arith))
    (chosen_within w high n (2 * q + 1) g (omega arith) d) e
    (λ l. chosen_answer w F low n (2 * q) g a suits.3 (omega arith) (omega arith)
    (λ t. absurd (both_ways (is_open low) suits.0 t)) l)
    (λ h. chosen_answer w F high n (2 * q + 1) g a suits.4 (omega arith) d
    (λ t. absurd (both_ways (is_open high) suits.1 t)) h)

-- a tree that has answers is sound
pub sound : (F : ℕ → Option ℕ) (t : PlanTree) (n q : ℕ) → Suits n q F t → IsSound n t
sound F (one o) n q suits = tt
sound F (open_at low high) zero q suits = absurd suits
sound F (open_at low high) (suc n) q suits =
    (sound F low n (2 * q) suits.1, sound F high n (2 * q + 1) suits.2)
sound F (closed_at hops low high) zero q suits = absurd suits
sound F (closed_at hops low high) (suc n) q suits =
    (suits.2.some, suits.2.rise, sound F low n (2 * q) suits.3, sound F high n (2 * q + 1) suits.4)
