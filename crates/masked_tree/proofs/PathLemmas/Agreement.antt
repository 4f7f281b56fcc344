-- What follows from how far two lists agree.
use Rattle.std.proofs.Common.{◌≡◌, ◌≢◌, ◌⊎◌, ℕ, zero, suc, ◌+◌, ◌<◌, ◌≤◌, List, [], ◌∷◌, ◌++◌, length, take, drop, refl, ap, sym, subst, ◌∙◌, arith, inl, inr, ne_eqb, eq-eqb}
use Rattle.std.proofs.lemmas.List.{take-append-drop}
use Rattle.std.proofs.Math.Seq.{take-length}
use Rattle.nibble_map.specs.Lists.{IsPrefix}
use Rattle.masked_tree.specs.Agreement.{Agrees}
use Rattle.nibble_map.specs.Trees.{first, along}
use Rattle.nibble_map.proofs.ListLemmas.Cut.{cons_head, cons_tail}

-- one nibble less of both
agrees_tails : (a b : ℕ) (f r : List ℕ) (n c : ℕ) → Agrees (a ∷ f) (b ∷ r) (suc n) (suc c) → Agrees f r n c
agrees_tails a b f r n c h = record {
  within = omega (arith, h.within);
  inside = omega (arith, h.inside);
  alike = cons_tail h.alike;
  apart = λ l k. h.apart (omega (arith, l)) (omega (arith, k));
  ended = λ e. (let i : suc c ≡ suc n = h.ended (elim e [ inl z ↦ inl (ap suc z) | inr z ↦ inr (ap suc z) ]) in omega (arith, i));
  parted = λ l k. (let i = h.parted (omega (arith, l)) (omega (arith, k)) in omega (arith, i));
}

-- where the first nibbles agree, at least one nibble is compared
one_more : (a b : ℕ) (f r : List ℕ) (n c : ℕ) → Agrees (a ∷ f) (b ∷ r) (suc n) c → 0 < c
one_more a b f r n c h = elim (cases (suc n) (suc (length f)) (suc (length r)) h.within h.inside) [
  | inl e ↦ omega (arith, h.ended e)
  | inr l ↦ omega (arith, h.parted l.0 l.1)
]
  where
    cases : (n p q : ℕ) → n ≤ p → n ≤ q → ((n ≡ p) ⊎ (n ≡ q)) ⊎ ((n < p) × (n < q))
    cases zero zero q h k = inl (inl refl)
    cases zero (suc p) zero h k = inl (inr refl)
    cases zero (suc p) (suc q) h k = inr (omega arith, omega arith)
    cases (suc n) zero q h k = absurd (omega (arith, h))
    cases (suc n) (suc p) zero h k = absurd (omega (arith, k))
    cases (suc n) (suc p) (suc q) h k =
        elim (cases n p q (omega (arith, h)) (omega (arith, k))) [
          | inl e ↦ elim e [ inl z ↦ inl (inl (ap suc z)) | inr z ↦ inl (inr (ap suc z)) ]
          | inr l ↦ inr (omega (arith, l.0), omega (arith, l.1))
        ]

-- the whole fragment begins the list
-- where the whole fragment agrees, the list is the fragment and what is left of the list
pub append_drop-whole_fragment : (f r : List ℕ) (n c : ℕ) → Agrees f r n c → n ≡ length f → f ++ drop n r ≡ r
append_drop-whole_fragment f r n c h e =
    ap (λ g. g ++ drop n r) (sym (take-length f) ∙ ap (λ k. take k f) (sym e) ∙ h.alike) ∙ take-append-drop n r

-- the list ends within the fragment
-- where the whole list agrees, the fragment is the list and what is left of the fragment
pub append_drop-whole_list : (f r : List ℕ) (n c : ℕ) → Agrees f r n c → n ≡ length r → r ++ drop n f ≡ f
append_drop-whole_list f r n c h e =
    ap (λ g. g ++ drop n f) (sym (take-length r) ∙ ap (λ k. take k r) (sym e) ∙ sym h.alike) ∙ take-append-drop n f

-- lists that begin alike agree somewhere
pub agrees_some : (f r : List ℕ) (n c : ℕ) → Agrees f r n c → f ≢ [] → r ≢ [] → first f ≡ first r → 0 < n
agrees_some [] r n c h s k e = absurd (s refl)
agrees_some (a ∷ f) [] n c h s k e = absurd (k refl)
agrees_some (a ∷ f) (b ∷ r) zero c h s k e = absurd (h.apart (omega arith) (omega arith) e)
agrees_some (a ∷ f) (b ∷ r) (suc n) c h s k e = omega arith

-- a fragment that goes on doesn't begin the list
pub agrees_not_prefix : (f r : List ℕ) (n c : ℕ) → Agrees f r n c → n < length f → IsPrefix f r → ⊥
agrees_not_prefix [] r n c h l p = omega (arith, l)
agrees_not_prefix (a ∷ f) [] n c h l p = (let e : [] ≡ a ∷ (f ++ p.0) = p.1 in cc e)
agrees_not_prefix (a ∷ f) (b ∷ r) zero c h l p = h.apart l (omega arith) (sym (cons_head p.1))
agrees_not_prefix (a ∷ f) (b ∷ r) (suc n) zero h l p = omega (arith, one_more a b f r n zero h)
agrees_not_prefix (a ∷ f) (b ∷ r) (suc n) (suc c) h l p = agrees_not_prefix f r n c (agrees_tails a b f r n c h) (omega (arith, l)) (p.0, cons_tail p.1)

-- the count along a fragment
-- along a fragment that agrees as a whole, its count is compared, then what is left of the list
pub along-whole_fragment : (f r : List ℕ) (n c : ℕ) (g : List ℕ → ℕ) → Agrees f r n c → n ≡ length f → along f r g ≡ c + g (drop n r)
along-whole_fragment [] r n c g h e = let i = h.ended (inl e) in subst (λ n. g r ≡ c + g (drop n r)) (sym e) (omega (arith, i, e))
along-whole_fragment (a ∷ f) [] n c g h e = absurd (omega (arith, h.inside, e))
along-whole_fragment (a ∷ f) (b ∷ r) zero c g h e = absurd (omega (arith, e))
along-whole_fragment (a ∷ f) (b ∷ r) (suc n) zero g h e = absurd (omega (arith, one_more a b f r n zero h))
along-whole_fragment (a ∷ f) (b ∷ r) (suc n) (suc c) g h e =
    rw (eq-eqb a b (cons_head h.alike)) (let i = along-whole_fragment f r n c g (agrees_tails a b f r n c h) (omega (arith, e)) in omega (arith, i))

-- along a fragment that doesn't agree as a whole, the count of the agreement is compared
pub along-part_fragment : (f r : List ℕ) (n c : ℕ) (g : List ℕ → ℕ) → Agrees f r n c → n < length f → along f r g ≡ c
along-part_fragment [] r n c g h l = absurd (omega (arith, l))
along-part_fragment (a ∷ f) [] zero c g h l = sym (h.ended (inr refl))
along-part_fragment (a ∷ f) [] (suc n) c g h l = absurd (omega (arith, h.inside))
along-part_fragment (a ∷ f) (b ∷ r) zero c g h l = rw (ne_eqb a b (h.apart l (omega arith))) (omega (arith, h.parted l (omega arith)))
along-part_fragment (a ∷ f) (b ∷ r) (suc n) zero g h l = absurd (omega (arith, one_more a b f r n zero h))
along-part_fragment (a ∷ f) (b ∷ r) (suc n) (suc c) g h l =
    rw (eq-eqb a b (cons_head h.alike)) (ap suc (along-part_fragment f r n c g (agrees_tails a b f r n c h) (omega (arith, l))))

-- lists that part don't begin one list
pub agrees_part : (f r : List ℕ) (n c : ℕ) (y z : List ℕ) → Agrees f r n c → n < length f → n < length r → f ++ y ≡ r ++ z → ⊥
agrees_part [] r n c y z h l m e = omega (arith, l)
agrees_part (a ∷ f) [] n c y z h l m e = omega (arith, m)
agrees_part (a ∷ f) (b ∷ r) zero c y z h l m e = h.apart l m (cons_head e)
agrees_part (a ∷ f) (b ∷ r) (suc n) zero y z h l m e = omega (arith, one_more a b f r n zero h)
agrees_part (a ∷ f) (b ∷ r) (suc n) (suc c) y z h l m e = agrees_part f r n c y z (agrees_tails a b f r n c h) (omega (arith, l)) (omega (arith, m)) (cons_tail e)
