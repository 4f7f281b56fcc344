-- One list more.
use Rattle.std.proofs.Common.{◌≡◌, ℕ, ◌+◌, ◌-◌, ◌*◌, ◌/◌, ◌%◌, ◌≤◌, Bool, true, false, nat_eq, List, [], ◌∷◌, ◌++◌, length, take, drop, refl, sym, ap, subst, ◌∙◌, arith}
use Rattle.std.proofs.lemmas.List.{drop-append-le, take-append-le, take_all, length-append, length-drop, map-append}
use Rattle.std.proofs.lemmas.Bool.{eq-eqb, ne_eqb}
use Rattle.std.specs.Int.{from_bool}
use Rattle.std.proofs.Math.Seq.{drop-append_seam}
use Rattle.radix_keys.specs.Packing.{IsPadded, unpacked}
use Rattle.encoded_keys.specs.Laid.{piece_of, codes_in, halves, odds, IsLaid}

-- a piece stays where more bytes follow
piece_kept : (bytes more : List ℕ) (from e : ℕ) → from ≤ e → e ≤ length bytes → piece_of (bytes ++ more) from e ≡ piece_of bytes from e
piece_kept bytes more from e l m =
    ap (take (e - from)) (drop-append-le from bytes more (omega (arith, l, m)))
    ∙ take-append-le (e - from) (drop from bytes) more (omega (arith, length-drop from bytes, l, m))

-- the piece behind some bytes
piece_behind : (bytes more : List ℕ) (from : ℕ) → from ≡ length bytes → piece_of (bytes ++ more) from (length (bytes ++ more)) ≡ more
piece_behind bytes more from e =
    ap (λ k. take (length (bytes ++ more) - from) (drop k (bytes ++ more))) e
    ∙ ap (take (length (bytes ++ more) - from)) (drop-append_seam bytes more)
    ∙ take_all (length (bytes ++ more) - from) more (omega (arith, length-append bytes more, e))

-- a piece behind keeps the lists laid
pub laid_more : (bytes more : List ℕ) (o : Bool) (from : ℕ) (ends : List ℕ) (odds : List Bool) → IsPadded more o → IsLaid bytes from ends odds
    → IsLaid (bytes ++ more) from (ends ++ length (bytes ++ more) ∷ []) (odds ++ o ∷ [])
laid_more bytes more o from [] [] p h =
    (omega (arith, h, length-append bytes more), omega arith, subst (λ x. IsPadded x o) (sym (piece_behind bytes more from h)) p, refl)
laid_more bytes more o from [] (q ∷ os) p h = absurd h
laid_more bytes more o from (e ∷ es) [] p h = absurd h
laid_more bytes more o from (e ∷ es) (q ∷ os) p h =
    (h.0, omega (arith, h.1, length-append bytes more), subst (λ x. IsPadded x q) (sym (piece_kept bytes more from e h.0 h.1)) h.2, laid_more bytes more o e es os p h.3)

-- the lists, and the one behind
pub codes_more : (bytes more : List ℕ) (o : Bool) (from : ℕ) (ends : List ℕ) (odds : List Bool) → IsLaid bytes from ends odds
    → codes_in (bytes ++ more) from (ends ++ length (bytes ++ more) ∷ []) (odds ++ o ∷ []) ≡ codes_in bytes from ends odds ++ unpacked more o ∷ []
codes_more bytes more o from [] [] h = ap (λ x. unpacked x o ∷ []) (piece_behind bytes more from h)
codes_more bytes more o from [] (q ∷ os) h = absurd h
codes_more bytes more o from (e ∷ es) [] h = absurd h
codes_more bytes more o from (e ∷ es) (q ∷ os) h =
    ap (λ x. unpacked x q ∷ codes_in (bytes ++ more) e (es ++ length (bytes ++ more) ∷ []) (os ++ o ∷ [])) (piece_kept bytes more from e h.0 h.1)
    ∙ ap (λ l. unpacked (piece_of bytes from e) q ∷ l) (codes_more bytes more o e es os h.3)

-- equal bytes, ends and flags are laid alike
pub laid_alike : (b b' : List ℕ) (e e' : List ℕ) (o o' : List Bool) → b' ≡ b → e' ≡ e → o' ≡ o → IsLaid b 0 e o → IsLaid b' 0 e' o'
laid_alike b b' e e' o o' p q r h = subst (λ x. IsLaid x 0 e' o') (sym p) (subst (λ x. IsLaid b 0 x o') (sym q) (subst (λ x. IsLaid b 0 e x) (sym r) h))

-- equal bytes, ends and flags hold the same lists
pub codes_alike : (b b' : List ℕ) (e e' : List ℕ) (o o' : List Bool) → b' ≡ b → e' ≡ e → o' ≡ o → codes_in b' 0 e' o' ≡ codes_in b 0 e o
codes_alike b b' e e' o o' p q r = ap (λ x. codes_in x 0 e' o') p ∙ ap (λ x. codes_in b 0 x o') q ∙ ap (λ x. codes_in b 0 e x) r

-- twice a number, and one more where a test passes: half of it is the number
half_of : (e : ℕ) (o : Bool) → (2 * e + from_bool o) / 2 ≡ e
half_of e false = omega arith
half_of e true = omega arith

-- and it is odd where the test passes
odd_of : (e : ℕ) (o : Bool) → nat_eq ((2 * e + from_bool o) % 2) 1 ≡ o
odd_of e false = ne_eqb _ _ (λ s. omega (arith, s))
odd_of e true = eq-eqb _ _ (omega arith)

-- the number that says where a list ends that ends with all bytes, and whether its count is odd
abbrev pub end_number : List ℕ → Bool → ℕ
end_number all o = 2 * length all + from_bool o

module _ (bytes more ends : List ℕ) (o : Bool) (laid : IsLaid bytes 0 (halves ends) (odds ends)) where
  halves_more : halves (ends ++ end_number (bytes ++ more) o ∷ []) ≡ halves ends ++ length (bytes ++ more) ∷ []
  halves_more = map-append (λ e. e / 2) ends (end_number (bytes ++ more) o ∷ []) ∙ ap (λ n. halves ends ++ n ∷ []) (half_of (length (bytes ++ more)) o)

  odds_more : odds (ends ++ end_number (bytes ++ more) o ∷ []) ≡ odds ends ++ o ∷ []
  odds_more = map-append (λ e. nat_eq (e % 2) 1) ends (end_number (bytes ++ more) o ∷ []) ∙ ap (λ b. odds ends ++ b ∷ []) (odd_of (length (bytes ++ more)) o)

  module _ (all news : List ℕ) (bytes_are : all ≡ bytes ++ more) (ends_are : news ≡ ends ++ end_number (bytes ++ more) o ∷ []) where
    -- with one list more the lists are laid
    pub laid_grown : IsPadded more o → IsLaid all 0 (halves news) (odds news)
    laid_grown p =
        laid_alike _ _ _ _ _ _ bytes_are (ap halves ends_are ∙ halves_more) (ap odds ends_are ∙ odds_more) (laid_more bytes more o 0 (halves ends) (odds ends) p laid)

    -- and it stands behind them
    pub codes_grown : codes_in all 0 (halves news) (odds news) ≡ codes_in bytes 0 (halves ends) (odds ends) ++ unpacked more o ∷ []
    codes_grown =
        codes_alike _ _ _ _ _ _ bytes_are (ap halves ends_are ∙ halves_more) (ap odds ends_are ∙ odds_more) ∙ codes_more bytes more o 0 (halves ends) (odds ends) laid
