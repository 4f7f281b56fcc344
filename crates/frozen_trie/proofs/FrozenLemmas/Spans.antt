-- Where the codes within two bounds stand.
use Rattle.std.proofs.Common.{max, ◌≡◌, ℕ, Bool, true, false, cond, not, Less, Equal, Greater, Ordering, List, is_le, is_lt, nat_cmp, refl, sym, ap, ◌∙◌, arith}
use Rattle.std.proofs.lemmas.Bool.{not-false, not-true}
use Rattle.std.proofs.lemmas.Cmp.{nat_list_cmp_total}
use Rattle.std.specs.Cmp.Lexicographic.{slice_cmp}
use Rattle.std.specs.Ordering.{ordering_reverse}
use Rattle.std.specs.declared.ops.Bound.{Bound}
use Rattle.std.specs.declared.ops.Bound.TheVariants.{Included}
use Rattle.radix_trie.specs.Views.{is_above, is_below, is_within}
use Rattle.encoded_keys.specs.Codes.{IsCut, IsSpan, code_at, is_before}

-- a list is another one or comes before it exactly where the other doesn't come before it
le_is_not_lt : (p q : List ℕ) → is_le (slice_cmp nat_cmp p q) ≡ not (is_lt (slice_cmp nat_cmp q p))
le_is_not_lt p q = by (slice_cmp nat_cmp p q) ∙ ap (λ o. not (is_lt o)) (sym (nat_list_cmp_total.antisymm q p))
  where
    by : (o : Ordering) → is_le o ≡ not (is_lt (ordering_reverse o))
    by Less = refl
    by Equal = refl
    by Greater = refl

-- what is denied twice
not_twice : (b : Bool) → not (not b) ≡ b
not_twice true = refl
not_twice false = refl

-- where two tests say the same they have one cut
same_cut : (t u : List ℕ → Bool) (cs : List (List ℕ)) (n : ℕ) → ((c : List ℕ) → t c ≡ u c) → IsCut t cs n → IsCut u cs n
same_cut t u cs n same cut = record {
  within = cut.within;
  before = λ k l. sym (same (code_at cs k)) ∙ cut.before k l;
  after = λ k l m. sym (same (code_at cs k)) ∙ cut.after k l m;
}

-- the cut before q is in front of those from q on
pub cut_from : (cs : List (List ℕ)) (q : List ℕ) (n : ℕ) → IsCut (λ c. is_before c q) cs n → IsCut (λ c. not (is_above (Included q) c)) cs n
cut_from cs q n = same_cut _ _ cs n (λ c. sym (ap not (le_is_not_lt q c) ∙ not_twice (is_before c q)))

-- that behind q is behind those up to q
pub cut_up_to : (cs : List (List ℕ)) (q : List ℕ) (n : ℕ) → IsCut (λ c. not (is_before q c)) cs n → IsCut (is_below (Included q)) cs n
cut_up_to cs q n = same_cut _ _ cs n (λ c. sym (le_is_not_lt c q))

-- both of two tests hold where the first does
both : (b c : Bool) → b ≡ true → c ≡ true → cond b c false ≡ true
both b c e f = ap (λ x. cond x c false) e ∙ f

-- and not where the second doesn't
second_fails : (b c : Bool) → c ≡ false → cond b c false ≡ false
second_fails true c e = e
second_fails false c e = refl

-- the codes within two bounds are those between their cuts
pub span_between : (low high : Bound (List ℕ)) (cs : List (List ℕ)) (lo hi end : ℕ) → IsCut (λ c. not (is_above low c)) cs lo → IsCut (is_below high) cs hi
    → end ≡ max hi lo → IsSpan (is_within low high) cs lo end
span_between low high cs lo hi end front back e = record {
  order = omega (arith, e);
  within = omega (arith, e, front.within, back.within);
  front = λ k l. second_fails (is_below high (code_at cs k)) _ (not-true _ (front.before k l));
  inside = λ k l m. both (is_below high (code_at cs k)) _ (back.before k (omega (arith, e, l, m)))
      (not-false _ (front.after k l (omega (arith, e, l, m, back.within, front.within))));
  behind = λ k l m. ap (λ b. cond b (is_above low (code_at cs k)) false) (back.after k (omega (arith, e, l)) m);
}
