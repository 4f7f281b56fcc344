-- The rows of a file.
use Rattle.std.proofs.Common.{◌≡◌, ℕ, ◌+◌, List, [], ◌∷◌, ◌++◌, drop, take, slice_get, Some, append-nil, append_assoc, sym, ap, ◌∙◌, take-append-drop}
use Rattle.std.proofs.lemmas.Grind.{flat_map-append}
use Rattle.std.proofs.lemmas.List.{take_more}
use Rattle.std.proofs.lemmas.Option.{get_or_from_slice_get, slice_get_within}
use Rattle.frozen_trie.specs.FileRows.{row_of, file_rows}

-- one row more
pub file_rows-more : (rs : List (List ℕ × List ℕ)) (r : List ℕ × List ℕ) → file_rows (rs ++ r ∷ []) ≡ file_rows rs ++ row_of r
file_rows-more rs r = flat_map-append row_of rs (r ∷ []) ∙ ap (λ t. file_rows rs ++ t) (append-nil (row_of r))

-- the rows up to one, and that one
pub taken : {A : Type 0} (xs : List A) (k : ℕ) (x : A) → slice_get xs k ≡ Some x → take (k + 1) xs ≡ take k xs ++ x ∷ []
taken xs k x e = take_more xs k x (slice_get_within xs k x e) ∙ ap (λ y. take k xs ++ y ∷ []) (get_or_from_slice_get xs k x x e)

-- their bytes, and its bytes
pub file_rows-taken : (rs : List (List ℕ × List ℕ)) (k : ℕ) (r : List ℕ × List ℕ) → slice_get rs k ≡ Some r → file_rows (take (k + 1) rs) ≡ file_rows (take k rs) ++ row_of r
file_rows-taken rs k r e = ap file_rows (taken rs k r e) ∙ file_rows-more (take k rs) r

-- the row at an index by the names of its parts
pub row_by_parts : (rs : List (List ℕ × List ℕ)) (at : ℕ) (a b k v : List ℕ) → slice_get rs at ≡ Some (a, b) → k ≡ a → v ≡ b → slice_get rs at ≡ Some (k, v)
row_by_parts rs at a b k v e f g = e ∙ ap (λ x. Some (x, b)) (sym f) ∙ ap (λ x. Some (k, x)) (sym g)

-- a file's bytes up to a row, and those from it on
pub file_rows-parted : (head : List ℕ) (rs : List (List ℕ × List ℕ)) (k : ℕ) → head ++ file_rows rs ≡ (head ++ file_rows (take k rs)) ++ file_rows (drop k rs)
file_rows-parted head rs k =
    ap (λ (xs : List (List ℕ × List ℕ)). head ++ file_rows xs) (sym (take-append-drop k rs))
    ∙ ap (λ (l : List ℕ). head ++ l) (flat_map-append row_of (take k rs) (drop k rs)) ∙ sym (append_assoc head (file_rows (take k rs)) (file_rows (drop k rs)))

-- up to a row, the row's, and those behind it
pub file_rows-at : (head : List ℕ) (rs : List (List ℕ × List ℕ)) (k : ℕ) (r : List ℕ × List ℕ) → slice_get rs k ≡ Some r
    → head ++ file_rows rs ≡ (head ++ file_rows (take k rs)) ++ (row_of r ++ file_rows (drop (k + 1) rs))
file_rows-at head rs k r e =
    file_rows-parted head rs (k + 1)
    ∙ ap (λ (l : List ℕ). (head ++ l) ++ file_rows (drop (k + 1) rs)) (file_rows-taken rs k r e)
    ∙ ap (λ (l : List ℕ). l ++ file_rows (drop (k + 1) rs)) (sym (append_assoc head (file_rows (take k rs)) (row_of r)))
    ∙ append_assoc (head ++ file_rows (take k rs)) (row_of r) (file_rows (drop (k + 1) rs))
