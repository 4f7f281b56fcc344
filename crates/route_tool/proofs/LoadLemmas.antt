-- The lines of a file, one after another.
use Rattle.std.proofs.Common.{◌≡◌, ◌≢◌, ◌∙◌, ◌==◌, inl, inr, ℕ, ◌+◌, false, List, [], ◌∷◌, ◌++◌, length, length-append, Option, Some, None, Result, Ok, Err, OnErr, All, append_assoc, append-nil, arith, refl, sym, ap, subst}
use Rattle.std.proofs.lemmas.Bool.Decides.{eqb_tells}
use Rattle.std.proofs.lemmas.List.Elements.{All-head, All-nil, All-push, All-tail, All-weaker}
use Rattle.std.proofs.lemmas.List.Splits.{slice_split_at, slice_split_none}
use Rattle.line_sessions.specs.Lines.{HasNoFeed, counted}
use Rattle.route_tool.specs.Loads.{AreCarriedOut, IsEditLine, IsEdit, IsEdited, IsFirstBad, IsGood, IsLoadedInPart, IsNoEdit, lines_in, lines_left}
use Rattle.route_tool.specs.Requests.{Asked}
use Rattle.route_tool.specs.declared.table.Table.{Table}
use Rattle.route_tool.proofs.OneRequest.{one_line}
use Rattle.route_tool.specs.declared.reason.Reason.{Reason}

no_feed : (x : ℕ) → x ≢ 10 → (x == 10) ≡ false
no_feed x other = elim (eqb_tells x 10) [ inl same ↦ absurd (other same.1) | inr differs ↦ differs.0 ]

none_feeds : (line : List ℕ) → HasNoFeed line → All (λ x. (x == 10) ≡ false) line
none_feeds line free = All-weaker (λ x. x ≢ 10) (λ x. (x == 10) ≡ false) no_feed line free

-- a line and its line feed stand before the other parts
pub part_before : (bytes line rest : List ℕ) → bytes ≡ line ++ 10 ∷ rest → HasNoFeed line → lines_in bytes ≡ line ∷ lines_in rest
part_before bytes line rest is free = ap lines_in is ∙ slice_split_at (λ byte. byte == 10) line 10 rest (none_feeds line free) refl

-- with no line feed there is one part
pub part_alone : (line : List ℕ) → HasNoFeed line → lines_in line ≡ line ∷ []
part_alone line free = slice_split_none (λ byte. byte == 10) line (none_feeds line free)

counted_next : (k n : ℕ) → k ≡ counted n → counted (k + 1) ≡ counted (n + 1)
counted_next k n e = omega arith

-- so many lines of the text are good, and these are still to come
pub AreRead : (text : List ℕ) → Option (List ℕ) → ℕ → Type 0
AreRead text rest n =
    (before : List (List ℕ)) × (lines_in text ≡ before ++ lines_left rest) × All IsGood before × (n ≡ counted (length before))

-- none, at the beginning
pub none_read : (text : List ℕ) → AreRead text (Some text) 0
unfolding AreRead
none_read text = ([], refl, All-nil IsGood, refl)

-- one more
pub one_read : (text bytes line : List ℕ) (after : Option (List ℕ)) (c : Asked) (m n : ℕ) → AreRead text (Some bytes) n → lines_in bytes ≡ line ∷ lines_left after → IsEditLine line c
    → m ≡ counted (n + 1) → AreRead text after m
unfolding AreRead
one_read text bytes line after c m n (before, is, good, count) next edit more = (
  before ++ line ∷ [],
  is ∙ ap (λ l. before ++ l) next ∙ sym (append_assoc before (line ∷ []) (lines_left after)),
  All-push IsGood before line good (c, edit),
  more ∙ counted_next n (length before) count ∙ sym (ap counted (length-append before (line ∷ []))),
)

-- all of them
pub all_read : (text : List ℕ) (n : ℕ) → AreRead text None n → All IsGood (lines_in text)
unfolding AreRead
all_read text n (before, is, good, _) = subst (All IsGood) (sym (is ∙ append-nil before)) good

-- the next one is bad
pub bad_read : (text bytes line : List ℕ) (after : Option (List ℕ)) (m n : ℕ) (reason : Reason) → AreRead text (Some bytes) n → lines_in bytes ≡ line ∷ lines_left after
    → IsNoEdit line reason → m ≡ counted (n + 1) → IsFirstBad (lines_in text) m reason
unfolding AreRead
bad_read text bytes line after m n reason (before, is, good, count) next bad more =
    (before, line, lines_left after, is ∙ ap (λ l. before ++ l) next, good, bad, more ∙ counted_next n (length before) count)

edit_only : (line : List ℕ) (c : Asked) → IsEditLine line c → IsEdit c
edit_only line c (inl (_, is)) = subst IsEdit (sym is) tt
edit_only line c (inr (_, edit)) = edit

-- no good line is bad
pub good_not_bad : (line : List ℕ) (reason : Reason) → IsGood line → IsNoEdit line reason → ⊥
good_not_bad line reason (c, inl (empty, _)) (some, _) = some empty
good_not_bad line reason (c, inr (asks, edit)) (_, inl (none, _)) = none c asks
good_not_bad line reason (c, inr (asks, edit)) (_, inr (d, also, not, _)) = not (subst IsEdit (one_line line c d asks also) edit)

-- one line more is carried out
carried_more : (ls : List (List ℕ)) (line : List ℕ) (c : Asked) (t u v : Table) → AreCarriedOut ls t u → IsEditLine line c → IsEdited c u v → AreCarriedOut (ls ++ line ∷ []) t v
carried_more [] line c t u v is edits edited = (c, v, edits, subst (λ (s : Table). IsEdited c s v) is edited, refl)
carried_more (l ∷ ls) line c t u v (d, s, first, then, rest) edits edited = (d, s, first, then, carried_more ls line c s u v rest edits edited)

-- some lines of the text are carried out, and these are still to come
pub AreDone : (text : List ℕ) → Option (List ℕ) → Table → Table → Type 0
AreDone text rest t u = (done : List (List ℕ)) × (lines_in text ≡ done ++ lines_left rest) × AreCarriedOut done t u

-- none, at the beginning
pub none_done : (text : List ℕ) (t : Table) → AreDone text (Some text) t t
unfolding AreDone
none_done text t = ([], refl, refl)

-- one more
pub one_done : (text bytes line : List ℕ) (after : Option (List ℕ)) (c : Asked) (t u v : Table) → AreDone text (Some bytes) t u → lines_in bytes ≡ line ∷ lines_left after → IsEditLine line c
    → (IsEdit c → IsEdited c u v) → AreDone text after t v
unfolding AreDone
one_done text bytes line after c t u v (done, is, carried) next edits edited = (
  done ++ line ∷ [],
  is ∙ ap (λ l. done ++ l) next ∙ sym (append_assoc done (line ∷ []) (lines_left after)),
  carried_more done line c t u v carried edits (edited (edit_only line c edits)),
)

-- all of them
pub all_done : (text : List ℕ) (t u : Table) → AreDone text None t u → AreCarriedOut (lines_in text) t u
unfolding AreDone
all_done text t u (done, is, carried) = subst (λ ls. AreCarriedOut ls t u) (sym (is ∙ append-nil done)) carried

-- the first ones alone
pub part_done : (text : List ℕ) (rest : Option (List ℕ)) (t u v : Table) → v ≡ u → AreDone text rest t u → IsLoadedInPart text t v
unfolding AreDone
part_done text rest t u v same (done, is, carried) = (done, lines_left rest, is, subst (λ (s : Table). AreCarriedOut done t s) (sym same) carried)

-- an element of a list behind others
next_of : {X : Type 0} (P : X → Type 0) (xs ys : List X) (x : X) → All P (xs ++ x ∷ ys) → P x
next_of P [] ys x all = All-head P x ys all
next_of P (a ∷ xs) ys x all = next_of P xs ys x (All-tail P a (xs ++ x ∷ ys) all)

-- of a text with no bad line the next one isn't bad
pub never_bad : (text bytes line : List ℕ) (after : Option (List ℕ)) (reason : Reason) (t u : Table) → AreDone text (Some bytes) t u → lines_in bytes ≡ line ∷ lines_left after → All IsGood (lines_in text)
    → IsNoEdit line reason → ⊥
unfolding AreDone
never_bad text bytes line after reason t u (done, is, carried) next good bad =
    good_not_bad line reason (next_of IsGood done (lines_left after) line (subst (All IsGood) (is ∙ ap (λ l. done ++ l) next) good)) bad

-- what holds always holds after an error
pub after_error : {X E : Type 0} (r : Result X E) (P : Type 0) → P → OnErr r P
after_error (Ok x) P p = tt
after_error (Err e) P p = p
