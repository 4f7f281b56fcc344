-- What a text is parted into, and which texts write networks.
use Rattle.std.proofs.Common.{◌≡◌, ◌≢◌, ◌∙◌, ℕ, ◌<◌, ◌≤◌, List, Option, Some, None, decimal, arith, sym, ap, subst, lit<}
use Rattle.std.specs.Option.{MatchOption}
use Rattle.std.specs.Borrow.{Bor}
use Rattle.std.proofs.lemmas.Fmt.{decimal_injective}
use Rattle.std.proofs.lemmas.Str.Pattern.{IsSplitOnceResult, split_after, split_parts}
use Rattle.radix_keys.specs.Networks.{Net, IsBase, IsNetText, IsParted}

module _ {A : Type 0} (writes : List ℕ → A → Type 0) (number : A → ℕ) (w : ℕ) (narrow : w ≤ 128) where
  -- a text with no slash writes no network
  pub no_slash : (s : List ℕ) → IsSplitOnceResult 47 s None → (n : Net A) → ¬ (IsNetText w number writes s n)
  no_slash s found n (base, digits, parted, _, _, _) = split_after 47 s base digits None found (lit< tt) parted.0 parted.1

  module _ (s : List ℕ) (x : Bor (List ℕ) × Bor (List ℕ)) (found : IsSplitOnceResult 47 s (Some x)) where
    -- a text is parted at the first slash in one way
    parted_once : (a b : List ℕ) → IsParted 47 s a b → (x.0.now ≡ a) × (x.1.now ≡ b)
    parted_once a b (is, before) = split_after 47 s a b (Some x) found (lit< tt) is before

    -- nor does one with no address before its slash
    pub no_base : ((a : A) → ¬ (writes x.0.now a)) → (n : Net A) → ¬ (IsNetText w number writes s n)
    no_base none n (base, digits, parted, is, _, _) = none n.base (subst (λ t. writes t n.base) (sym (parted_once base digits parted).0) is)

    -- nor does one with no count behind it
    pub no_count : ((k : ℕ) → k < 256 → x.1.now ≢ decimal k) → (n : Net A) → ¬ (IsNetText w number writes s n)
    no_count none n (front, digits, parted, _, count, base) =
        none n.bits (omega (arith, narrow, base.1)) ((parted_once front digits parted).1 ∙ count)

    module _ (one : (t : List ℕ) (a b : A) → writes t a → writes t b → number a ≡ number b) (a : A) (k : ℕ) (address : writes x.0.now a)
        (count : x.1.now ≡ decimal k) (low : k < 256) where
      -- nor does one where the address has other bits than so many first ones
      no_network : ¬ (IsBase w k (number a)) → (n : Net A) → ¬ (IsNetText w number writes s n)
      no_network wrong n (front, digits, parted, is, spelled, base) =
          let parts = parted_once front digits parted in
          let same_base : number n.base ≡ number a = one x.0.now n.base a (subst (λ t. writes t n.base) (sym parts.0) is) address in
          let same_bits : n.bits ≡ k = decimal_injective n.bits k (omega (arith, narrow, base.1)) (omega (arith, low)) (sym spelled ∙ sym parts.1 ∙ count) in
          wrong (subst (λ j. IsBase w j (number a)) same_bits (subst (λ m. IsBase w n.bits m) same_base base))

      -- what is made of the address and the count is the text's network, if it writes one
      pub made_of_text : (made : Option (Net A)) → MatchOption made (¬ (IsBase w k (number a))) (λ n. (n.base ≡ a) × (n.bits ≡ k) × IsBase w k (number a))
          → MatchOption made ((n : Net A) → ¬ (IsNetText w number writes s n)) (IsNetText w number writes s)
      made_of_text None wrong = no_network wrong
      made_of_text (Some n) (base, bits, is) = (
        x.0.now,
        x.1.now,
        split_parts 47 s (Some x) found (lit< tt),
        subst (writes x.0.now) (sym base) address,
        count ∙ ap decimal (sym bits),
        subst (λ j. IsBase w j (number n.base)) (sym bits) (subst (λ b. IsBase w k (number b)) (sym base) is),
      )
