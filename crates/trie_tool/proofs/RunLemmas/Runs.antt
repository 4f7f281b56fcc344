-- Worked runs, with the finite map's answers as premises.
use Rattle.std.proofs.Common.{◌≡◌, ◌∙◌, ℕ, List, [], ◌∷◌, ◌++◌, Option, Some, None, option_map, cond, is_some, ap, codes, decimal, ◌+◌, refl, sym}
use Rattle.std.specs.FinMap as map
use Rattle.std.specs.Fmt.{digits}
use Rattle.std.specs.Str.{is_utf8, chars}
use Rattle.std.proofs.lemmas.Cmp.{nat_list_cmp_total}
use lib.Utf8.{encode}
use Rattle.nibble_map.specs.Maps.{value_at}
use Rattle.nibble_map.specs.Nibbles.{nibbles}
use Rattle.trie_tool.specs.Request.{Get, Insert, IsBad, Len, Numbers, Replies, get_answer, insert_answer, request_of}
use Rattle.line_sessions.specs.Answers.{AreAnswers}
use Rattle.line_sessions.specs.Lines.{all_lines, cut}
use Rattle.line_sessions.specs.Sessions.{IsBadAt}

haskell : List ℕ
haskell = nibbles (codes "haskell")

no_numbers : Numbers
no_numbers = map.empty

once_stored : Numbers
once_stored = map.insert no_numbers haskell (codes "haskell", 18)

twice_stored : Numbers
twice_stored = map.insert once_stored haskell (codes "haskell", 36)

get-no_numbers : map.get no_numbers haskell ≡ None
unfolding no_numbers
get-no_numbers = map.get-empty _ haskell

get-once_stored : map.get once_stored haskell ≡ Some (codes "haskell", 18)
unfolding once_stored haskell
get-once_stored = map.get-insert nat_list_cmp_total no_numbers haskell (codes "haskell", 18) haskell

get-twice_stored : map.get twice_stored haskell ≡ Some (codes "haskell", 36)
unfolding twice_stored haskell
get-twice_stored = map.get-insert nat_list_cmp_total once_stored haskell (codes "haskell", 36) haskell

len-no_numbers : map.len no_numbers ≡ 0
unfolding no_numbers
len-no_numbers = map.len-empty _ _

len-stored : (m : Numbers) (o : Option (List ℕ × ℕ)) → map.get m haskell ≡ o → (n : ℕ) → map.len (map.insert m haskell (codes "haskell", n)) ≡ cond (is_some o) (map.len m) (map.len m + 1)
len-stored m o is n = map.len-insert nat_list_cmp_total m haskell (codes "haskell", n) ∙ ap (λ (x : Option (List ℕ × ℕ)). cond (is_some x) (map.len m) (map.len m + 1)) is

len-once_stored : map.len once_stored ≡ 1
unfolding once_stored
len-once_stored = len-stored no_numbers None get-no_numbers 18 ∙ ap (λ (n : ℕ). n + 1) len-no_numbers

len-twice_stored : map.len twice_stored ≡ 1
unfolding twice_stored
len-twice_stored = len-stored once_stored (Some (codes "haskell", 18)) get-once_stored 36 ∙ len-once_stored

-- what an insertion answers where the number that stood there is known
inserts : (m : Numbers) (key answer : List ℕ) (o : Option (List ℕ × ℕ)) → map.get m (nibbles key) ≡ o → answer ≡ insert_answer (option_map (λ p. p.1) o) → answer ≡ insert_answer (value_at m (nibbles key))
inserts m key answer o found says = says ∙ sym (ap (λ (x : Option (List ℕ × ℕ)). insert_answer (option_map (λ p. p.1) x)) found)

-- and a lookup
gets : (m : Numbers) (key answer : List ℕ) (o : Option (List ℕ × ℕ)) → map.get m (nibbles key) ≡ o → answer ≡ get_answer (option_map (λ p. p.1) o) → answer ≡ get_answer (value_at m (nibbles key))
gets m key answer o found says = says ∙ sym (ap (λ (x : Option (List ℕ × ℕ)). get_answer (option_map (λ p. p.1) x)) found)

counts_one : (n : ℕ) → n ≡ 1 → codes "1\n" ≡ decimal n ++ 10 ∷ []
unfolding digits
counts_one n one = sym (ap (λ (k : ℕ). decimal k ++ 10 ∷ []) one)

-- a second insertion answers the old number, and a later lookup the new one
pub value_is_replaced : (left : Numbers) × AreAnswers Replies (all_lines (codes "insert haskell 18\ninsert haskell 36\nget haskell\nlen\n")) map.empty left (codes "new\nold 18\n36\n1\n")
unfolding cut request_of is_utf8 chars encode digits no_numbers once_stored twice_stored haskell
value_is_replaced =
    let key : List ℕ = codes "haskell" in
    let n = twice_stored in
    let last : AreAnswers Replies (codes "len" ∷ []) n n (codes "1\n") = (n, codes "1\n", [], (Len, refl, counts_one (map.len n) len-twice_stored, refl), (refl, refl), refl) in
    let third : AreAnswers Replies (codes "get haskell" ∷ codes "len" ∷ []) n n (codes "36\n1\n") = (n, codes "36\n", codes "1\n", (Get key, refl, gets n key (codes "36\n") (Some (key, 36)) get-twice_stored refl, refl), last, refl) in
    let second : AreAnswers Replies (codes "insert haskell 36" ∷ codes "get haskell" ∷ codes "len" ∷ []) once_stored n (codes "old 18\n36\n1\n") = (n, codes "old 18\n", codes "36\n1\n", (Insert key 36, refl, inserts once_stored key (codes "old 18\n") (Some (key, 18)) get-once_stored refl, refl), third, refl) in
    (n, (once_stored, codes "new\n", codes "old 18\n36\n1\n", (Insert key 18, refl, inserts no_numbers key (codes "new\n") None get-no_numbers refl, refl), second, refl))

spaced_list : List ℕ
spaced_list = nibbles (codes "a b")

get-no_spaced : map.get no_numbers spaced_list ≡ None
unfolding no_numbers
get-no_spaced = map.get-empty _ spaced_list

seven_stored : Numbers
seven_stored = map.insert no_numbers spaced_list (codes "a b", 7)

get-seven_stored : map.get seven_stored spaced_list ≡ Some (codes "a b", 7)
unfolding seven_stored spaced_list
get-seven_stored = map.get-insert nat_list_cmp_total no_numbers spaced_list (codes "a b", 7) spaced_list

-- nothing is answered from a bad line on, and an empty line is passed over
pub bad_line_ends_it : (left : Numbers) × IsBadAt Replies IsBad (all_lines (codes "insert a b 007\n\nget a b\ninsert x\nlen")) 4 map.empty left (codes "new\n7\n")
unfolding cut request_of is_utf8 chars encode digits no_numbers seven_stored spaced_list
bad_line_ends_it =
    let key : List ℕ = codes "a b" in
    let n = seven_stored in
    let third : AreAnswers Replies (codes "get a b" ∷ []) n n (codes "7\n") = (n, codes "7\n", [], (Get key, refl, gets n key (codes "7\n") (Some (key, 7)) get-seven_stored refl, refl), (refl, refl), refl) in
    let second : AreAnswers Replies ([] ∷ codes "get a b" ∷ []) n n (codes "7\n") = (n, [], codes "7\n", (refl, refl), third, refl) in
    let answers : AreAnswers Replies (codes "insert a b 007" ∷ [] ∷ codes "get a b" ∷ []) map.empty n (codes "new\n7\n") = (n, codes "new\n", codes "7\n", (Insert key 7, refl, inserts no_numbers key (codes "new\n") None get-no_spaced refl, refl), second, refl) in
    (n, (codes "insert a b 007" ∷ [] ∷ codes "get a b" ∷ [], codes "insert x", codes "len" ∷ [], refl, refl, refl, answers))

-- where nothing is read, nothing is answered
pub empty_input : AreAnswers Replies (all_lines []) map.empty map.empty []
unfolding cut
empty_input = (refl, refl)
