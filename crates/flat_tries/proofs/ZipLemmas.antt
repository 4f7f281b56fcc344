-- Lists that grow side by side.
use Rattle.std.proofs.Common.{◌≡◌, ℕ, ◌+◌, ◌<◌, List, [], ◌∷◌, ◌++◌, length, take, get_or, sym, ap, subst, ◌∙◌}
use Rattle.std.proofs.lemmas.List.{take_more}
use Rattle.std.specs.List.{AllZip}

-- one more of each
zip_with : {X Y : Type 0} (R : X → Y → Type 0) (xs : List X) (ys : List Y) (x : X) (y : Y) → AllZip R xs ys → R x y → AllZip R (xs ++ x ∷ []) (ys ++ y ∷ [])
zip_with R [] [] x y zip is = (is, tt)
zip_with R [] (b ∷ ys) x y zip is = absurd zip
zip_with R (a ∷ xs) [] x y zip is = absurd zip
zip_with R (a ∷ xs) (b ∷ ys) x y zip is = (zip.0, zip_with R xs ys x y zip.1 is)

-- lists that are those with one more of each
pub zip_both : {X Y : Type 0} (R : X → Y → Type 0) (xs more : List X) (ys later : List Y) (x : X) (y : Y) → AllZip R xs ys → R x y
    → more ≡ xs ++ x ∷ [] → later ≡ ys ++ y ∷ [] → AllZip R more later
zip_both R xs more ys later x y zip is first second =
    subst (λ l. AllZip R l later) (sym first) (subst (AllZip R (xs ++ x ∷ [])) (sym second) (zip_with R xs ys x y zip is))

-- the item at i is taken with those before it
pub taken_item : {X : Type 0} (xs : List X) (i : ℕ) (x : X) → i < length xs → x ≡ get_or xs i x → take (i + 1) xs ≡ take i xs ++ x ∷ []
taken_item xs i x inside at = take_more xs i x inside ∙ ap (λ y. take i xs ++ y ∷ []) (sym at)
