-- Lines have one answer.
use Rattle.std.proofs.Common.{◌≡◌, ◌∙◌, ℕ, List, [], ◌∷◌, ◌++◌, Option, Some, None, ap, sym, subst}
use Rattle.line_sessions.specs.Answers.{AreAnswers, IsLineAnswer}
use Rattle.trie_tool.specs.Request.{Numbers, Replies, Request, Len, answer_to, numbers_after, request_of}

abbrev request_in : Option Request → Request
request_in None = Len
request_in (Some r) = r

-- a line asks for one thing
one_request : (line : List ℕ) (r q : Request) → request_of line ≡ Some r → request_of line ≡ Some q → r ≡ q
one_request line r q asks also = ap request_in (sym asks ∙ also)

one_answer : (line : List ℕ) (m n left : Numbers) (a b : List ℕ) → IsLineAnswer Replies m line n a → IsLineAnswer Replies m line left b → (a ≡ b) × (n ≡ left)
one_answer [] m n left a b (is, says) (also, tells) = (says ∙ sym tells, is ∙ sym also)
one_answer (c ∷ cs) m n left a b (r, asks, says, is) (q, also, tells, goes) =
    let same = one_request (c ∷ cs) r q asks also in
    (says ∙ ap (λ (x : Request). answer_to x m) same ∙ sym tells, is ∙ ap (λ (x : Request). numbers_after x m) same ∙ sym goes)

-- and so do lines one after another
pub one_run : (lines : List (List ℕ)) (m n left : Numbers) (o p : List ℕ) → AreAnswers Replies lines m n o → AreAnswers Replies lines m left p → (o ≡ p) × (n ≡ left)
one_run [] m n left o p (is, none) (also, nothing) = (none ∙ sym nothing, is ∙ sym also)
one_run (line ∷ lines) m n left o p (u, a, rest, first, more, joined) (v, b, tail, one, others, whole) =
    let same = one_answer line m u v a b first one in
    let after = one_run lines u n left rest tail more (subst (λ (w : Numbers). AreAnswers Replies lines w left tail) (sym same.1) others) in
    (joined ∙ ap (λ (x : List ℕ). x ++ rest) same.0 ∙ ap (λ (x : List ℕ). b ++ x) after.0 ∙ sym whole, after.1)
