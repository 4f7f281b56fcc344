-- What is told of a bad line.
use Rattle.std.specs.Prelude.{◌≡◌, ◌⊎◌, ℕ, List, codes}
use Rattle.std.specs.Str.{IsUtf8}
use Rattle.radix_keys.specs.Networks.{IsParted}
use Rattle.route_tool.specs.Requests.{IsHop}
use Rattle.route_tool.specs.declared.reason.Reason.{Reason}
use Rattle.route_tool.specs.declared.reason.Reason.TheVariants.{NotUtf8, NoRequest, NoNetwork, NoHop, NoAddress, NoChange}

-- the text of a reason
abbrev pub reason_text : Reason → List ℕ
reason_text NotUtf8 = codes "not UTF-8"
reason_text NoRequest = codes "no such request: help lists them"
reason_text NoNetwork = codes "no network, as 10.0.0.0/8"
reason_text NoHop = codes "no hop, as via 192.0.2.1"
reason_text NoAddress = codes "no address, as 192.0.2.1"
reason_text NoChange = codes "no add, del or comment"

-- the text is the word, a space and the rest
abbrev pub IsWorded : (text word rest : List ℕ) → Type 0
IsWorded text word rest = IsParted 32 text word rest

-- behind the first space stands a hop
abbrev pub ShowsHop : List ℕ → Type 0
ShowsHop rest = (word : List ℕ) × (hop : List ℕ) × IsWorded rest word hop × IsHop hop

-- what is wrong with a text that asks for nothing, by its first word
abbrev pub IsWrong : Reason → List ℕ → Type 0
IsWrong NotUtf8 text = ⊥
IsWrong NoChange text = ⊥
IsWrong NoHop text = (rest : List ℕ) × IsWorded text (codes "add") rest × (ShowsHop rest → ⊥)
IsWrong NoNetwork text = (rest : List ℕ) × ((IsWorded text (codes "add") rest × ShowsHop rest)
    ⊎ (IsWorded text (codes "del") rest ⊎ IsWorded text (codes "below") rest))
IsWrong NoAddress text = (rest : List ℕ)
    × (IsWorded text (codes "look") rest ⊎ IsWorded text (codes "find") rest)
IsWrong NoRequest text = (rest : List ℕ) → (IsWorded text (codes "add") rest → ⊥)
    × (IsWorded text (codes "del") rest → ⊥) × (IsWorded text (codes "below") rest → ⊥)
    × (IsWorded text (codes "look") rest → ⊥) × (IsWorded text (codes "find") rest → ⊥)

-- what is wrong with a line that asks for nothing
abbrev pub IsReason : Reason → List ℕ → Type 0
IsReason reason line = ((IsUtf8 line → ⊥) × (reason ≡ NotUtf8)) ⊎ (IsUtf8 line × IsWrong reason line)

-- of a bad line its reason is told
abbrev pub IsRemarkOf : (line remark : List ℕ) → Type 0
IsRemarkOf line remark = (reason : Reason) × IsReason reason line × (remark ≡ reason_text reason)
