-- One code more, and its link.
use Rattle.std.proofs.Common.{◌≡◌, ℕ, ◌-◌, ◌<◌, ◌↔◌, inl, inr, List, [], ◌∷◌, ◌++◌, length, refl, sym, subst, arith}
use Rattle.std.proofs.lemmas.List.{get_or_append_left, length-append}
use Rattle.std.proofs.Math.Seq.{get_or-append_seam}
use Rattle.radix_keys.proofs.KeyLemmas.Order.{three_ways}
use Rattle.nibble_map.specs.Lists.{IsBefore, IsPrefix, IsRising, Each, Has}
use Rattle.nibble_map.proofs.ListLemmas.Rising.{IsRising-append}
use Rattle.nibble_map.proofs.TreeLemmas.SomePrefixes.{before_through}
use Rattle.encoded_keys.specs.Codes.{IsLastPrefix, IsLinked, code_at}
use Rattle.encoded_keys.proofs.CodeLemmas.Parts.{has_index, rising_at}
use Rattle.sorted_tables.proofs.TableLemmas.Links.{last_of_same, links_more}

-- what holds of each element of a join holds of each of its first part
Each-front : {A : Type 0} (Q : A → Type 0) (xs ys : List A) → Each Q (xs ++ ys) → Each Q xs
Each-front Q [] ys h = tt
Each-front Q (x ∷ xs) ys h = (h.0, Each-front Q xs ys h.1)

-- the first part of rising codes rises
pub rising_front : (xs ys : List (List ℕ)) → IsRising (xs ++ ys) → IsRising xs
rising_front [] ys h = tt
rising_front (x ∷ xs) ys h = (Each-front (IsBefore x) xs ys h.0, rising_front xs ys h.1)

-- the code behind some codes
pub code_behind : (cs : List (List ℕ)) (c : List ℕ) → code_at (cs ++ c ∷ []) (length cs) ≡ c
code_behind cs c = get_or-append_seam cs c [] []

-- codes and one more rise where the last comes before it
pub rising_more : (cs : List (List ℕ)) (c : List ℕ) → 0 < length cs → IsRising cs → IsBefore (code_at cs (length cs - 1)) c → IsRising (cs ++ c ∷ [])
rising_more cs c some h b = IsRising-append cs (c ∷ []) h (tt, tt) before
  where
    before : (x : List ℕ) → Has cs x → (y : List ℕ) → Has (c ∷ []) y → IsBefore x y
    before x i y (inr k) = absurd k
    before x i y (inl e) =
        let r = has_index cs x i in
        subst (IsBefore x) (sym e) (subst (λ l. IsBefore l c) r.2 (elim (three_ways r.0 (length cs - 1)) [
          | inl l ↦ before_through _ _ _ (rising_at cs h r.0 (length cs - 1) l (omega (arith, some))) b
          | inr (inl s) ↦ subst (λ k. IsBefore (code_at cs k) c) (sym s) b
          | inr (inr g) ↦ absurd (let l = r.1 in omega (arith, l, g))
        ]))

-- where codes and one more rise the last comes before it
pub last_before_more : (cs : List (List ℕ)) (c : List ℕ) → 0 < length cs → IsRising (cs ++ c ∷ []) → IsBefore (code_at cs (length cs - 1)) c
last_before_more cs c some h =
    let n = length-append cs (c ∷ []) in
    let b = rising_at (cs ++ c ∷ []) h (length cs - 1) (length cs) (omega (arith, some)) (omega (arith, n)) in
    subst (IsBefore _) (code_behind cs c) (subst (λ l. IsBefore l (code_at (cs ++ c ∷ []) (length cs))) (get_or_append_left cs (c ∷ []) [] (length cs - 1) (omega (arith, some))) b)

-- all codes come before one more
pub all_before_more : (cs : List (List ℕ)) (c : List ℕ) → IsRising (cs ++ c ∷ []) → (k : ℕ) → k < length cs → IsBefore (code_at cs k) c
all_before_more cs c h k l =
    let n = length-append cs (c ∷ []) in
    let b = rising_at (cs ++ c ∷ []) h k (length cs) l (omega (arith, n)) in
    subst (IsBefore _) (code_behind cs c) (subst (λ x. IsBefore x (code_at (cs ++ c ∷ []) (length cs))) (get_or_append_left cs (c ∷ []) [] k l) b)

-- a code begins the same lists with one more behind
prefix_kept : (cs : List (List ℕ)) (c q : List ℕ) (k : ℕ) → k < length cs → IsPrefix (code_at cs k) q ↔ IsPrefix (code_at (cs ++ c ∷ []) k) q
prefix_kept cs c q k l =
    let same = get_or_append_left cs (c ∷ []) [] k l in
    (λ p. subst (λ d. IsPrefix d q) (sym same) p, λ p. subst (λ d. IsPrefix d q) same p)

-- no list has no link
pub linked_none : (cs : List (List ℕ)) (parents : List ℕ) → cs ≡ [] → parents ≡ [] → IsLinked cs parents
linked_none cs parents e f =
    let none : IsLinked [] [] = record { rising = tt; linked = refl; links = λ i l. absurd (omega (arith, l)) } in
    subst (λ ds. IsLinked ds parents) (sym e) (subst (IsLinked []) (sym f) none)

-- links and one more
pub linked_more : (cs : List (List ℕ)) (parents : List ℕ) (c : List ℕ) (r : ℕ) → IsLinked cs parents → IsRising (cs ++ c ∷ []) → IsLastPrefix cs (length cs) c r
    → IsLinked (cs ++ c ∷ []) (parents ++ r ∷ [])
linked_more cs parents c r kept rises last =
    let n = length-append cs (c ∷ []) in
    let m = length-append parents (r ∷ []) in
    let same = kept.linked in
    record {
      rising = rises;
      linked = omega (arith, n, m, same);
      links = links_more (λ k i. IsPrefix (code_at cs k) (code_at cs i)) (λ k i. IsPrefix (code_at (cs ++ c ∷ []) k) (code_at (cs ++ c ∷ []) i)) parents r
          (λ k i l m'. subst (λ q. IsPrefix (code_at cs k) (code_at cs i) ↔ IsPrefix (code_at (cs ++ c ∷ []) k) q) (sym (get_or_append_left cs (c ∷ []) [] i (omega (arith, m', same))))
          (prefix_kept cs c (code_at cs i) k (omega (arith, l, m', same)))) kept.links
          (subst (λ j. IsLastPrefix (cs ++ c ∷ []) j (code_at (cs ++ c ∷ []) j) r) (sym same)
          (subst (λ q. IsLastPrefix (cs ++ c ∷ []) (length cs) q r) (sym (code_behind cs c))
          (last_of_same (λ k. IsPrefix (code_at cs k) c) (λ k. IsPrefix (code_at (cs ++ c ∷ []) k) c) (length cs) r (prefix_kept cs c c) last)));
    }
