-- The answers to lines that follow one another.
use Rattle.std.proofs.Common.{◌∙◌, ℕ, List, [], ◌∷◌, ◌++◌, All, refl, sym, ap, subst, append_assoc, append-nil}
use Rattle.std.proofs.lemmas.List.Elements.{All-cons, All-nil}
use Rattle.line_sessions.specs.Answers.{AreAnswers, IsLineAnswer, IsBadLine}

module _ {S : Type 0} (R : S → List ℕ → S → List ℕ → Type 0) where
  -- one more line is answered
  pub AreAnswers-onto : (ls : List (List ℕ)) (l : List ℕ) (s t u : S) (o a : List ℕ) → AreAnswers R ls s t o → IsLineAnswer R t l u a → AreAnswers R (ls ++ l ∷ []) s u (o ++ a)
  AreAnswers-onto [] l s t u o a (same, none) is =
      (u, a, [], subst (λ (v : S). IsLineAnswer R v l u a) same is, (refl, refl), ap (λ (x : List ℕ). x ++ a) none ∙ sym (append-nil a))
  AreAnswers-onto (x ∷ ls) l s t u o a (v, b, rest, first, more, joined) is =
      (v, b, rest ++ a, first, AreAnswers-onto ls l v t u rest a more is, ap (λ (x : List ℕ). x ++ a) joined ∙ append_assoc b rest a)

module _ {S : Type 0} (R : S → List ℕ → S → List ℕ → Type 0) (B : List ℕ → Type 0) (unanswered : (p q : S) (line answer : List ℕ) → B line → ¬ (R p line q answer)) where
  good_line : (line : List ℕ) (s t : S) (a : List ℕ) → IsLineAnswer R s line t a → ¬ (IsBadLine B line)
  good_line [] s t a is bad = bad
  good_line (b ∷ bs) s t a is bad = unanswered s t (b ∷ bs) a bad is

  -- a line that has an answer is not bad
  pub good_lines : (ls : List (List ℕ)) (s t : S) (o : List ℕ) → AreAnswers R ls s t o → All (λ line. ¬ (IsBadLine B line)) ls
  good_lines [] s t o answers = All-nil (λ line. ¬ (IsBadLine B line))
  good_lines (l ∷ ls) s t o (u, a, rest, first, more, joined) = All-cons (λ line. ¬ (IsBadLine B line)) l ls (good_line l s u a first) (good_lines ls u t rest more)
