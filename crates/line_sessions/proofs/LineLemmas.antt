-- What a text is cut into as it goes on.
use Rattle.std.proofs.Common.{◌≡◌, ◌≢◌, ℕ, Bool, true, false, inl, inr, List, [], ◌∷◌, ◌++◌, fold, ◌==◌, refl, sym, ap, ◌∙◌, append_assoc, append-nil, if◌then◌else◌}
use Rattle.std.specs.List.{flat_map}
use Rattle.std.proofs.lemmas.List.Sums.{fold-append}
use Rattle.std.proofs.lemmas.Grind.{flat_map-append}
use Rattle.std.proofs.lemmas.Bool.Decides.{eqb_tells}
use Rattle.std.proofs.lemmas.List.Elements.{All-head, All-tail}
use Rattle.line_sessions.specs.Lines.{HasNoFeed, Cut, all_lines, cut, cut_at, ended_lines, last_line}

abbrev empty_cut : Cut
empty_cut = record { lines = []; rest = [] }

abbrev fed_cut : Cut → Cut
fed_cut d = record { lines = d.lines ++ d.rest ∷ []; rest = [] }

abbrev kept_cut : Cut → ℕ → Cut
kept_cut d y = record { lines = d.lines; rest = d.rest ++ y ∷ [] }

eqb-no_feed : (x : ℕ) → x ≢ 10 → (x == 10) ≡ false
eqb-no_feed x other = elim (eqb_tells x 10) [ inl same ↦ absurd (other same.1) | inr differs ↦ differs.0 ]

cut-onto : (b : List ℕ) (x : ℕ) → cut (b ++ x ∷ []) ≡ cut_at (cut b) x
unfolding cut
cut-onto b x = fold-append cut_at empty_cut b (x ∷ [])

-- a line feed ends the last line
cut-fed : (b : List ℕ) → cut (b ++ 10 ∷ []) ≡ record { lines = (cut b).lines ++ (cut b).rest ∷ []; rest = [] }
cut-fed b = cut-onto b 10

-- the same from any cut
fold-kept : (c : Cut) (l : List ℕ) → HasNoFeed l → fold cut_at c l ≡ record { lines = c.lines; rest = c.rest ++ l }
fold-kept c [] free = ap (λ (r : List ℕ). let d : Cut = record { lines = c.lines; rest = r } in d) (sym (append-nil c.rest))
fold-kept c (x ∷ l) free =
    ap (λ (d : Cut). fold cut_at d l) (ap (λ (v : Bool). if v then fed_cut c else kept_cut c x) (eqb-no_feed x (All-head (λ y. y ≢ 10) x l free)))
    ∙ fold-kept (kept_cut c x) l (All-tail (λ y. y ≢ 10) x l free)
    ∙ ap (λ (r : List ℕ). let d : Cut = record { lines = c.lines; rest = r } in d) (append_assoc c.rest (x ∷ []) l)

-- bytes with no line feed go on with the last line
cut-kept : (b l : List ℕ) → HasNoFeed l → cut (b ++ l) ≡ record { lines = (cut b).lines; rest = (cut b).rest ++ l }
unfolding cut
cut-kept b l free = fold-append cut_at empty_cut b l ∙ fold-kept (cut b) l free

lines-cut_at : (c : Cut) (x : ℕ) → (more : List (List ℕ)) × ((cut_at c x).lines ≡ c.lines ++ more)
lines-cut_at c x =
    elim (x == 10) as (λ v. (more : List (List ℕ)) × ((if v then (let d : Cut = record { lines = c.lines ++ c.rest ∷ []; rest = [] } in d) else (let d : Cut = record { lines = c.lines; rest = c.rest ++ x ∷ [] } in d)).lines ≡ c.lines ++ more)) [
      | true ↦ (c.rest ∷ [], refl)
      | false ↦ ([], sym (append-nil c.lines))
    ]

lines-fold : (c : Cut) (xs : List ℕ) → (more : List (List ℕ)) × ((fold cut_at c xs).lines ≡ c.lines ++ more)
lines-fold c [] = ([], sym (append-nil c.lines))
lines-fold c (x ∷ xs) =
    let one = lines-cut_at c x in
    let rest = lines-fold (cut_at c x) xs in
    (one.0 ++ rest.0, rest.1 ∙ ap (λ (l : List (List ℕ)). l ++ rest.0) one.1 ∙ append_assoc c.lines one.0 rest.0)

-- the ended lines of a text go on into those of a longer one
pub ended_lines-append : (a b : List ℕ) → (more : List (List ℕ)) × (ended_lines (a ++ b) ≡ ended_lines a ++ more)
unfolding cut
ended_lines-append a b =
    let more = lines-fold (cut a) b in
    (more.0, ap (λ (c : Cut). c.lines) (fold-append cut_at empty_cut a b) ∙ more.1)

-- a line feed ends one line more
pub ended_lines-fed : (b line : List ℕ) → line ≡ (cut b).rest → ended_lines (b ++ 10 ∷ []) ≡ ended_lines b ++ line ∷ []
ended_lines-fed b line ends = ap (λ (c : Cut). c.lines) (cut-fed b) ∙ ap (λ (l : List ℕ). ended_lines b ++ l ∷ []) (sym ends)

-- after it nothing is kept
pub rest-fed : (b : List ℕ) → (cut (b ++ 10 ∷ [])).rest ≡ []
rest-fed b = ap (λ (c : Cut). c.rest) (cut-fed b)

-- bytes with no line feed end no line
pub ended_lines-kept : (b l : List ℕ) → HasNoFeed l → ended_lines (b ++ l) ≡ ended_lines b
ended_lines-kept b l free = ap (λ (c : Cut). c.lines) (cut-kept b l free)

-- they stand behind what is kept of the line that goes on
pub rest-kept : (b l line : List ℕ) → HasNoFeed l → line ≡ (cut b).rest → line ++ l ≡ (cut (b ++ l)).rest
rest-kept b l line free ends = ap (λ (x : List ℕ). x ++ l) ends ∙ sym (ap (λ (c : Cut). c.rest) (cut-kept b l free))

last_line-some : (l : List ℕ) → l ≢ [] → l ∷ [] ≡ last_line l
last_line-some [] some = absurd (some refl)
last_line-some (x ∷ xs) some = refl

-- the last line, where there is one, is as if a line feed ended it
pub all_lines-fed : (b : List ℕ) → (cut b).rest ≢ [] → ended_lines (b ++ 10 ∷ []) ≡ all_lines b
all_lines-fed b some = ended_lines-fed b (cut b).rest refl ∙ ap (λ (ls : List (List ℕ)). ended_lines b ++ ls) (last_line-some (cut b).rest some)

-- the lines with their line feeds, and the rest
abbrev joined : Cut → List ℕ
joined c = flat_map (λ l. l ++ 10 ∷ []) c.lines ++ c.rest

joined-cut_at : (c : Cut) (x : ℕ) → joined (cut_at c x) ≡ joined c ++ x ∷ []
joined-cut_at c x = elim (eqb_tells x 10) [
  | inl fed ↦
      ap joined (ap (λ (v : Bool). if v then fed_cut c else kept_cut c x) fed.0)
      ∙ append-nil (flat_map (λ l. l ++ 10 ∷ []) (c.lines ++ c.rest ∷ []))
      ∙ flat_map-append (λ l. l ++ 10 ∷ []) c.lines (c.rest ∷ [])
      ∙ ap (λ (l : List ℕ). flat_map (λ l. l ++ 10 ∷ []) c.lines ++ l) (append-nil (c.rest ++ 10 ∷ []))
      ∙ sym (append_assoc (flat_map (λ l. l ++ 10 ∷ []) c.lines) c.rest (10 ∷ []))
      ∙ ap (λ (y : ℕ). joined c ++ y ∷ []) (sym fed.1)
  | inr other ↦
      ap joined (ap (λ (v : Bool). if v then fed_cut c else kept_cut c x) other.0)
      ∙ sym (append_assoc (flat_map (λ l. l ++ 10 ∷ []) c.lines) c.rest (x ∷ []))
]

joined-fold : (c : Cut) (xs : List ℕ) → joined (fold cut_at c xs) ≡ joined c ++ xs
joined-fold c [] = sym (append-nil (joined c))
joined-fold c (x ∷ xs) = joined-fold (cut_at c x) xs ∙ ap (λ (l : List ℕ). l ++ xs) (joined-cut_at c x) ∙ append_assoc (joined c) (x ∷ []) xs

-- the lines with their line feeds, and the rest, are the text
pub joined-cut : (bytes : List ℕ) → joined (cut bytes) ≡ bytes
unfolding cut
joined-cut bytes = joined-fold empty_cut bytes
