-- A file tells its map.
use Rattle.std.proofs.Common.{◌≡◌, ℕ, ◌+◌, ◌^◌, ◌<◌, ◌≤◌, List, [], ◌∷◌, ◌++◌, codes, inl, inr, length, lit<, take, drop, append_assoc, refl, sym, ap, ◌∙◌, arith}
use Rattle.std.proofs.lemmas.List.{drop_at, length-append, take_at}
use Rattle.std.specs.Int.{w32, w64, to_le_bytes}
use Rattle.nibble_map.specs.Lists.{Each}
use Rattle.frozen_trie.specs.FileItems.{same_u32, same_u64}
use Rattle.frozen_trie.specs.declared.file.FileWhy.{FileWhy}
use Rattle.frozen_trie.specs.declared.file.FileWhy.TheVariants.{Magic, Read, Short, Version}
use Rattle.frozen_trie.specs.FileRows.{FitsRow, IsHeadFault, IsHeadPart, counted_bytes, file_of_rows, file_rows, head_of, row_of}

-- joined lists whose first parts have one length are joined of the same parts
pub same_halves : (a b xs ys : List ℕ) → length a ≡ length b → a ++ xs ≡ b ++ ys → (a ≡ b) × (xs ≡ ys)
same_halves a b xs ys n e = (
  sym (take_at a xs (length b) n) ∙ ap (take (length b)) e ∙ take_at b ys (length b) refl,
  sym (drop_at a xs (length b) n) ∙ ap (drop (length b)) e ∙ drop_at b ys (length b) refl,
)

-- equal counted_bytes bytes are of equal bytes
pub same_counted : (a b xs ys : List ℕ) → length a < 2 ^ 32 → length b < 2 ^ 32 → counted_bytes a ++ xs ≡ counted_bytes b ++ ys → (a ≡ b) × (xs ≡ ys)
same_counted a b xs ys f g e =
    let count = same_halves (to_le_bytes w32 (length a)) (to_le_bytes w32 (length b)) (a ++ xs) (b ++ ys) refl
    (sym (append_assoc (to_le_bytes w32 (length a)) a xs) ∙ e ∙ append_assoc (to_le_bytes w32 (length b)) b ys) in
    same_halves a b xs ys (same_u32 (length a) (length b) f g count.0) count.1

-- equal rows have equal parts
pub same_row : (p q : List ℕ × List ℕ) (xs ys : List ℕ) → FitsRow p → FitsRow q → row_of p ++ xs ≡ row_of q ++ ys → (p ≡ q) × (xs ≡ ys)
same_row (a, v) (b, w) xs ys f g e =
    let first = same_counted a b (counted_bytes v ++ xs) (counted_bytes w ++ ys) f.0 g.0
    (sym (append_assoc (counted_bytes a) (counted_bytes v) xs) ∙ e ∙ append_assoc (counted_bytes b) (counted_bytes w) ys) in
    let second = same_counted v w xs ys f.1 g.1 first.1 in
    (ap (λ x. (x, v)) first.0 ∙ ap (λ y. (b, y)) second.0, second.1)

-- as many rows whose bytes are equal are equal
same_rows : (ps qs : List (List ℕ × List ℕ)) → length ps ≡ length qs → Each FitsRow ps → Each FitsRow qs → file_rows ps ≡ file_rows qs → ps ≡ qs
same_rows [] [] n f g e = refl
same_rows [] (q ∷ qs) n f g e = absurd (omega (arith, n))
same_rows (p ∷ ps) [] n f g e = absurd (omega (arith, n))
same_rows (p ∷ ps) (q ∷ qs) n f g e =
    let one = same_row p q (file_rows ps) (file_rows qs) f.0 g.0 e in
    ap (λ x. x ∷ ps) one.0 ∙ ap (λ xs. q ∷ xs) (same_rows ps qs (omega (arith, n)) f.1 g.1 one.1)

-- rows whose bytes begin those of others are the first of these, and the rest is those behind
pub same_front : (ps qs : List (List ℕ × List ℕ)) (rest : List ℕ) → length ps ≤ length qs → Each FitsRow ps → Each FitsRow qs → file_rows qs ≡ file_rows ps ++ rest
    → (ps ≡ take (length ps) qs) × (rest ≡ file_rows (drop (length ps) qs))
same_front [] qs rest l f g e = (refl, sym e)
same_front (p ∷ ps) [] rest l f g e = absurd (omega (arith, l))
same_front (p ∷ ps) (q ∷ qs) rest l f g e =
    let one = same_row q p (file_rows qs) (file_rows ps ++ rest) g.0 f.0 (e ∙ append_assoc (row_of p) (file_rows ps) rest) in
    let more = same_front ps qs rest (omega (arith, l)) f.1 g.1 one.1 in
    (ap (λ x. x ∷ ps) (sym one.0) ∙ ap (λ xs. q ∷ xs) more.0, more.1)

-- a whole file has no fault in its head, but that a read of it may fail
pub whole_head : (why : FileWhy) (rs : List (List ℕ × List ℕ)) (pair place : ℕ) → IsHeadFault why (file_of_rows rs) pair place → why ≡ Read
whole_head Magic rs pair place h =
    let at = h.2 in
    absurd (at.other (same_halves at.name (codes "FROZENTX") at.rest ((to_le_bytes w32 2 ++ to_le_bytes w64 (length rs)) ++ file_rows rs) at.long (sym at.begin)).0)
whole_head Version rs pair place h =
    let at = h.2 in
    let begun = same_halves (codes "FROZENTX" ++ to_le_bytes w32 at.version) (codes "FROZENTX" ++ to_le_bytes w32 2) at.rest (to_le_bytes w64 (length rs) ++ file_rows rs) refl (sym at.begin) in
    absurd (at.other (same_u32 at.version 2 at.fits (lit< tt) (ap (drop 8) begun.0)))
whole_head Short rs pair place h = absurd (enough h.1.until.part)
  where
    long : 20 ≤ length (take place (head_of 0)) + length h.1.until.rest
    long = omega (arith, ap length h.1.until.begin, length-append (take place (head_of 0)) h.1.until.rest)

    enough : IsHeadPart place h.1.until.size → ⊥
    enough (inl e) = omega (arith, long, ap (λ n. length (take n (head_of 0))) e.0, e.1, h.1.cut)
    enough (inr (inl e)) = omega (arith, long, ap (λ n. length (take n (head_of 0))) e.0, e.1, h.1.cut)
    enough (inr (inr e)) = omega (arith, long, ap (λ n. length (take n (head_of 0))) e.0, e.1, h.1.cut)
whole_head Read rs pair place h = refl
whole_head why rs pair place h = absurd h

-- a file tells its rows
pub file_tells_rows : (ps qs : List (List ℕ × List ℕ)) → length ps < 2 ^ 64 → length qs < 2 ^ 64 → Each FitsRow ps → Each FitsRow qs → file_of_rows ps ≡ file_of_rows qs → ps ≡ qs
file_tells_rows ps qs l m f g e =
    let parts = same_halves (head_of (length ps)) (head_of (length qs)) (file_rows ps) (file_rows qs) refl e in
    same_rows ps qs (same_u64 (length ps) (length qs) l m (ap (drop 12) parts.0)) f g parts.1
