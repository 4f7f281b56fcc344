-- Lines, each with what it asks for.
use Rattle.std.specs.Prelude.{ℕ, List, [], ◌∷◌, Option, Some, None, codes}
use Rattle.trie_tool.specs.Request.{Request, Insert, Get, Remove, Ancestor, Below, Prune, Len, Foot, Json}

abbrev pub worked_lines : List (List ℕ × Option Request)
worked_lines =
    (codes "insert a b 007", Some (Insert (codes "a b") 7)) ∷
    (codes "insert  5", Some (Insert [] 5)) ∷
    (codes "get a b", Some (Get (codes "a b"))) ∷
    (codes "get ", Some (Get [])) ∷
    (codes "remove a b", Some (Remove (codes "a b"))) ∷
    (codes "ancestor abe", Some (Ancestor (codes "abe"))) ∷
    (codes "below a b", Some (Below (codes "a b"))) ∷
    (codes "below ", Some (Below [])) ∷
    (codes "prune a b", Some (Prune (codes "a b"))) ∷
    (codes "prune ", Some (Prune [])) ∷
    (codes "below", None) ∷
    (codes "len", Some Len) ∷
    (codes "foot", Some Foot) ∷
    (codes "json", Some Json) ∷
    (codes "foot ", None) ∷
    (codes "insert x", None) ∷
    (codes "insert x +5", None) ∷
    (codes "Len", None) ∷
    (codes "len ", None) ∷
    (codes "insert k 18446744073709551615", Some (Insert (codes "k") 18446744073709551615)) ∷
    (codes "insert k 18446744073709551616", None) ∷
    (103 ∷ 101 ∷ 116 ∷ 32 ∷ 255 ∷ [], None) ∷ []
