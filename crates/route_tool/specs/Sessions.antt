-- What a line is answered, and the table after it.
use Rattle.std.specs.Prelude.{◌≡◌, ◌⊎◌, ℕ, List}
use Rattle.std.proofs.Common.{refl}
use Rattle.std.specs.Coded.{Coded, code_by, coded_list, coded_ℕ, coded×}
use Rattle.std.specs.FinMap as map
use Rattle.std.specs.declared.net.ipv4_addr.Ipv4Addr.{Ipv4Addr}
use Rattle.std.specs.declared.net.ipv6_addr.Ipv6Addr.{Ipv6Addr}
use Rattle.route_tool.specs.Answers.{IsAnswer, IsBegun, bad_answer}
use Rattle.route_tool.specs.Reasons.{IsRemarkOf}
use Rattle.route_tool.specs.Requests.{Asked, IsRequest}
use Rattle.route_tool.specs.Routes.{Routes, routes_code}
use Rattle.route_tool.specs.declared.table.Table.{Table}

-- the line asks for something, and this is its answer
abbrev pub Replies : Table → (line : List ℕ) → Table → (answer : List ℕ) → Type 0
Replies t line u answer = (c : Asked) × IsRequest line c × IsAnswer c t u answer

-- a line that asks for nothing
abbrev pub IsBad : List ℕ → Type 0
IsBad line = (c : Asked) → ¬ (IsRequest line c)

-- where memory was refused at a line, the table is as before it, or as after it, or some first lines of
-- a file that it names are carried out
abbrev pub GivesUp : Table → (line : List ℕ) → Table → Type 0
GivesUp t line u =
    (u ≡ t) ⊎ (((answer : List ℕ) × Replies t line u answer)
    ⊎ ((c : Asked) × IsRequest line c × IsBegun c t u))

-- a line that asks for nothing has no answer
pub bad_unanswered : (t u : Table) (line answer : List ℕ) → IsBad line → ¬ (Replies t line u answer)
bad_unanswered t u line answer bad (c, asks, says) = bad c asks

-- of a session that no line ends: the line asks for something, or its answer says why it doesn't
abbrev pub RepliesToEach : Table → (line : List ℕ) → Table → (answer : List ℕ) → Type 0
RepliesToEach t line u answer =
    Replies t line u answer ⊎ (IsBad line × (u ≡ t) × (remark : List ℕ) × IsRemarkOf line remark
    × (answer ≡ bad_answer remark))

-- no line is bad
abbrev pub IsNever : List ℕ → Type 0
IsNever line = ⊥

-- no line is bad, so none of the bad ones has an answer
pub never_unanswered : (t u : Table) (line answer : List ℕ) → IsNever line
    → ¬ (RepliesToEach t line u answer)
never_unanswered t u line answer never replied = never

abbrev pub no_routes : Table
no_routes = record { v4 = map.empty; v6 = map.empty }

abbrev pub ipv4_code : Coded Ipv4Addr
ipv4_code = code_by (List ℕ) (coded_list coded_ℕ) (λ (a : Ipv4Addr). a.octets) (λ o. record { octets = o }) (λ _. refl)

abbrev pub ipv6_code : Coded Ipv6Addr
ipv6_code = code_by (List ℕ) (coded_list coded_ℕ) (λ (a : Ipv6Addr). a.segments) (λ s. record { segments = s }) (λ _. refl)

abbrev pub table_code : Coded Table
table_code =
    code_by (Routes Ipv4Addr × Routes Ipv6Addr) (coded× (routes_code ipv4_code) (routes_code ipv6_code))
    (λ (t : Table). (t.v4, t.v6)) (λ p. record { v4 = p.0; v6 = p.1 }) (λ _. refl)
