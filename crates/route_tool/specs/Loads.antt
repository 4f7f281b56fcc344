-- What the lines of a file do to a table.
use Rattle.std.specs.Prelude.{◌≡◌, ◌≢◌, ◌⊎◌, ◌==◌, ℕ, ◌+◌, List, [], ◌∷◌, ◌++◌, ⊤, length, Option, None, Some}
use Rattle.std.specs.List.{All, slice_split}
use Rattle.std.specs.Net.Addr.{ipv4_bits, ipv6_bits}
use Rattle.line_sessions.specs.Lines.{counted}
use Rattle.route_tool.specs.Reasons.{IsReason}
use Rattle.route_tool.specs.Requests.{Request, Add, Del, Below, Look, Find, Asked, V4, V6, Len, All as Every, Dump, Aggregate, Compact, OnFile, Help, Comment, IsRequest}
use Rattle.route_tool.specs.Routes.{Routes, with_route, without_route}
use Rattle.route_tool.specs.declared.table.Table.{Table}
use Rattle.route_tool.specs.declared.reason.Reason.{Reason}
use Rattle.route_tool.specs.declared.reason.Reason.TheVariants.{NoChange}

-- what is asked of a family is an addition or a deletion
abbrev pub IsChange : {A : Type 0} → Request A → Type 0
IsChange (Add net hop) = ⊤
IsChange (Del net) = ⊤
IsChange (Below net) = ⊥
IsChange (Look address) = ⊥
IsChange (Find address) = ⊥

-- what is asked changes a route, or is a comment
abbrev pub IsEdit : Asked → Type 0
IsEdit (V4 r) = IsChange r
IsEdit (V6 r) = IsChange r
IsEdit Comment = ⊤
IsEdit Len = ⊥
IsEdit Every = ⊥
IsEdit Dump = ⊥
IsEdit Aggregate = ⊥
IsEdit Compact = ⊥
IsEdit (OnFile call path) = ⊥
IsEdit Help = ⊥

-- the parts of a text between its line feeds
abbrev pub lines_in : List ℕ → List (List ℕ)
lines_in text = slice_split (λ byte. byte == 10) text

-- of a rest of it, where there is one
abbrev pub lines_left : Option (List ℕ) → List (List ℕ)
lines_left None = []
lines_left (Some text) = lines_in text

-- the line of a file changes a route or nothing: an empty one is a comment
abbrev pub IsEditLine : List ℕ → Asked → Type 0
IsEditLine line c = ((line ≡ []) × (c ≡ Comment)) ⊎ (IsRequest line c × IsEdit c)

-- why a line of a file is bad: it asks for nothing, or for something else
abbrev pub IsNoEdit : List ℕ → Reason → Type 0
IsNoEdit line reason =
    (line ≢ []) × ((((c : Asked) → ¬ (IsRequest line c)) × IsReason reason line)
    ⊎ ((c : Asked) × IsRequest line c × ¬ (IsEdit c) × (reason ≡ NoChange)))

-- the line is none of these
abbrev pub IsGood : List ℕ → Type 0
IsGood line = (c : Asked) × IsEditLine line c

-- of the file's lines this one is the first that is bad, and why
abbrev pub IsFirstBad : List (List ℕ) → ℕ → Reason → Type 0
IsFirstBad lines n reason =
    (before : List (List ℕ)) × (bad : List ℕ) × (after : List (List ℕ))
    × (lines ≡ before ++ bad ∷ after) × All IsGood before
    × IsNoEdit bad reason × (n ≡ counted (length before + 1))

-- the routes of one family after an addition or a deletion
abbrev pub IsChanged : {A : Type 0} → (w : ℕ) (number : A → ℕ) → Request A → Routes A → Routes A → Type 0
IsChanged w number (Add net hop) m n = n ≡ with_route w number m net hop
IsChanged w number (Del net) m n = n ≡ without_route w number m net
IsChanged w number (Below net) m n = ⊥
IsChanged w number (Look address) m n = ⊥
IsChanged w number (Find address) m n = ⊥

-- the table after an edit
abbrev pub IsEdited : Asked → Table → Table → Type 0
IsEdited (V4 r) t u = IsChanged 32 ipv4_bits r t.v4 u.v4 × (u.v6 ≡ t.v6)
IsEdited (V6 r) t u = IsChanged 128 ipv6_bits r t.v6 u.v6 × (u.v4 ≡ t.v4)
IsEdited Comment t u = u ≡ t
IsEdited Len t u = ⊥
IsEdited Every t u = ⊥
IsEdited Dump t u = ⊥
IsEdited Aggregate t u = ⊥
IsEdited Compact t u = ⊥
IsEdited (OnFile call path) t u = ⊥
IsEdited Help t u = ⊥

-- the table after some lines of a file, one after another
abbrev pub AreCarriedOut : List (List ℕ) → Table → Table → Type 0
AreCarriedOut [] t u = u ≡ t
AreCarriedOut (line ∷ lines) t u =
    (c : Asked) × (v : Table) × IsEditLine line c × IsEdited c t v × AreCarriedOut lines v u

-- after the first lines of some text, maybe not all
abbrev pub IsLoadedInPart : List ℕ → Table → Table → Type 0
IsLoadedInPart text t u = (done : List (List ℕ)) × (left : List (List ℕ))
    × (lines_in text ≡ done ++ left) × AreCarriedOut done t u
