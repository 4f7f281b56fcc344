-- Worked examples: small maps from nibble lists to numbers, by their entries.
use Rattle.std.specs.Prelude.{ℕ, zero, suc, not, List, [], ◌∷◌, ◌++◌, codes, map, replicate, Option}
use Rattle.std.specs.Ordering.{nat_cmp}
use Rattle.std.specs.Cmp.Lexicographic.{slice_cmp}
use Rattle.std.specs.FinMap as finite
use Rattle.std.specs.FinMap.Entries.{where_key}
use Rattle.nibble_map.specs.Computed.{same}
use Rattle.nibble_map.specs.Maps.{NibbleMap}
use Rattle.nibble_map.specs.Nibbles.{nibbles}

abbrev pub Entries : Type 0
Entries = List (List ℕ × ℕ)

-- the entries after these insertions, from the first on
abbrev pub inserted : Entries → Entries → Entries
inserted m [] = m
inserted m (e ∷ es) = inserted (finite.put (slice_cmp nat_cmp) e.0 e.1 m) es

-- the map after the same insertions
abbrev pub insert_all : NibbleMap ℕ → Entries → NibbleMap ℕ
insert_all m [] = m
insert_all m (e ∷ es) = insert_all (finite.insert m e.0 e.1) es

-- the entries after a removal
abbrev pub removed : List ℕ → Entries → Entries
removed e m = where_key (slice_cmp nat_cmp) (λ x. not (same e x)) m

-- the number at a list
abbrev pub number_at : List ℕ → Entries → Option ℕ
number_at e m = finite.find (slice_cmp nat_cmp) e m

-- the numbers in the order of the walk
abbrev pub values : Entries → List ℕ
values m = map (λ e. e.1) m

-- a text with a number; a text's list is that of its bytes
abbrev pub text : List ℕ → ℕ → List ℕ × ℕ
text s v = (nibbles s, v)

abbrev pub nothing : Entries
nothing = []

-- seven texts, most of them prefixes of one another
abbrev pub nested_texts : Entries
nested_texts =
    inserted [] (text (codes "abcdefgh") 19 ∷ text (codes "abcdef") 18 ∷ text (codes "abcd") 17 ∷
    text (codes "ab") 16 ∷ text (codes "a") 15 ∷ text (codes "acbdef") 30 ∷
    text (codes "bcdefgh") 29 ∷ [])

abbrev pub a_abc_abd : Entries
a_abc_abd = inserted [] (text (codes "a") 1 ∷ text (codes "abc") 2 ∷ text (codes "abd") 3 ∷ [])

abbrev pub abc_abd : Entries
abc_abd = inserted [] (text (codes "abc") 1 ∷ text (codes "abd") 2 ∷ [])

-- where the lists of abc and abd part: within the third byte
abbrev pub ab_and_a_half : List ℕ
ab_and_a_half = 6 ∷ 1 ∷ 6 ∷ 2 ∷ 6 ∷ []

abbrev pub abc_abcdef : Entries
abc_abcdef = inserted [] (text (codes "abc") 3 ∷ text (codes "abcdef") 6 ∷ [])

abbrev pub aba_abb_abc_z : Entries
aba_abb_abc_z =
    inserted [] (text (codes "z") 2 ∷ text (codes "aba") 5 ∷ text (codes "abb") 6 ∷
    text (codes "abc") 50 ∷ [])

abbrev pub abcz_abca : Entries
abcz_abca = inserted [] (text (codes "abczzzz") 1 ∷ text (codes "abcaaaa") 2 ∷ [])

-- the bytes f1 and f2
abbrev pub two_bytes : Entries
two_bytes = inserted [] (text (241 ∷ []) 1 ∷ text (242 ∷ []) 2 ∷ [])

-- the signed bytes -2, -1, 0 and 1, in this order with 1, 2, 3 and 4
abbrev pub four_signed_bytes : Entries
four_signed_bytes =
    inserted [] (text (254 ∷ []) 1 ∷ text (255 ∷ []) 2 ∷ text (0 ∷ []) 3 ∷ text (1 ∷ []) 4 ∷ [])

-- 256 and 2 as two bytes, the low one first
abbrev pub low_bytes_first : Entries
low_bytes_first = inserted [] (text (0 ∷ 1 ∷ []) 256 ∷ text (2 ∷ 0 ∷ []) 2 ∷ [])

-- bär and bären
abbrev pub umlauts : Entries
umlauts = inserted []
    (text (98 ∷ 195 ∷ 164 ∷ 114 ∷ []) 1 ∷ text (98 ∷ 195 ∷ 164 ∷ 114 ∷ 101 ∷ 110 ∷ []) 2 ∷ [])

abbrev pub wow_hella_hellb : Entries
wow_hella_hellb =
    inserted [] (text (codes "wow") 0 ∷ text (codes "hella") 1 ∷ text (codes "hellb") 2 ∷ [])

-- lists that are no whole bytes
abbrev pub odd_nibbles : Entries
odd_nibbles = inserted []
    (([], 0) ∷ (1 ∷ [], 1) ∷ (1 ∷ 2 ∷ 3 ∷ [], 2) ∷ (1 ∷ 2 ∷ 3 ∷ 4 ∷ 5 ∷ [], 3) ∷
    (1 ∷ 2 ∷ 4 ∷ [], 4) ∷ [])

-- n times the letter a
abbrev pub letters_a : ℕ → List ℕ
letters_a n = replicate n 97

abbrev pub long_twins : Entries
long_twins = inserted [] (text (letters_a 15 ++ 98 ∷ []) 1 ∷ text (letters_a 15 ++ 99 ∷ []) 2 ∷ [])

abbrev pub short_and_long : Entries
short_and_long = inserted [] (text (codes "ab") 1 ∷ text (letters_a 17) 2 ∷ [])

-- n texts in turn, each with one letter more: a, aa, aaa, ..
abbrev pub chain : ℕ → Entries
chain zero = []
chain (suc n) = chain n ++ text (letters_a (suc n)) (suc n) ∷ []
