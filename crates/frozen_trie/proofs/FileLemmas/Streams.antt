-- Known bytes of a reader, and those that a writer holds.
use Rattle.std.proofs.Common.{◌≡◌, ℕ, ◌+◌, List, ◌++◌, true, false, true≢false, is_err, IfErr, IsErrAnd, OnOk, Option, None, Some, Result, Ok, Err, append_assoc, drop, sym, ap, take, take-append-drop, subst, ◌∙◌}
use Rattle.std.proofs.KnownBytes.{Appends-trans}
use Rattle.std.proofs.Math.Seq.{take-add}
use Rattle.std.specs.Io.KnownBytes.{Appends, Consumes, Keeps}
use Rattle.frozen_trie.specs.FileRows.{WritesInFull, WritesPart}

-- what is consumed later is consumed of what was kept
pub Keeps-consumed : (a b c : Option (List ℕ)) (bytes : List ℕ) → Keeps a b → Consumes b c bytes → Consumes a c bytes
Keeps-consumed None b c bytes kept took = tt
Keeps-consumed (Some x) None c bytes kept took = absurd kept
Keeps-consumed (Some x) (Some y) None bytes kept took = absurd took
Keeps-consumed (Some x) (Some y) (Some z) bytes kept took = sym kept ∙ took

-- what is appended later is appended to what was kept
pub Keeps-appended : (a b c : Option (List ℕ)) (bytes : List ℕ) → Keeps a b → Appends b c bytes → Appends a c bytes
Keeps-appended None b c bytes kept took = tt
Keeps-appended (Some x) None c bytes kept took = absurd kept
Keeps-appended (Some x) (Some y) None bytes kept took = absurd took
Keeps-appended (Some x) (Some y) (Some z) bytes kept took = took ∙ ap (λ l. l ++ bytes) kept

-- a writer that holds the first n bytes, and takes m of the rest
pub Appends-step : (a b c : Option (List ℕ)) (n m : ℕ) (xs rest : List ℕ) → rest ≡ drop n xs → Appends a b (take n xs) → Appends b c (take m rest) → Appends a c (take (n + m) xs)
Appends-step a b c n m xs rest e p q = subst (Appends a c) (sym (take-add n m xs)) (Appends-trans a b c _ _ p (subst (λ (l : List ℕ). Appends b c (take m l)) e q))

-- the first bytes are a beginning
pub first_part : (a b : Option (List ℕ)) (n : ℕ) (bytes : List ℕ) → Appends a b (take n bytes) → WritesPart a b bytes
first_part a b n bytes h = (take n bytes, drop n bytes, sym (take-append-drop n bytes), h)

-- so are some bytes, and a beginning of those behind them
pub part_behind : (a b c : Option (List ℕ)) (front back more whole : List ℕ) → Appends a b front → WritesPart b c back → whole ≡ front ++ (back ++ more) → WritesPart a c whole
part_behind a b c front back more whole h part e = (
  front ++ part.0,
  part.1 ++ more,
  e ∙ ap (λ (l : List ℕ). front ++ (l ++ more)) part.2 ∙ ap (λ (l : List ℕ). front ++ l) (append_assoc part.0 part.1 more) ∙ sym (append_assoc front part.0 (part.1 ++ more)),
  Appends-trans a b c front part.0 h part.3,
)

-- of a call that failed a beginning is all
pub WritesInFull-part : {U E : Type 0} (r : Result U E) (a b : Option (List ℕ)) (bytes : List ℕ) → is_err r ≡ true → WritesPart a b bytes → WritesInFull r a b bytes
WritesInFull-part (Ok u) a b bytes failed part = absurd (true≢false (sym failed))
WritesInFull-part (Err e) a b bytes failed part = record { all = tt; part = part }

-- of what comes behind it nothing is written where a write has failed
pub WritesInFull-failed : {U V E F : Type 0} (r : Result U E) (q : Result V F) (a b : Option (List ℕ)) (bytes more : List ℕ) → WritesInFull r a b bytes → is_err r ≡ true → is_err q ≡ true
    → WritesInFull q a b (bytes ++ more)
WritesInFull-failed r (Ok v) a b bytes more writes failed also = absurd (true≢false (sym also))
WritesInFull-failed r (Err e) a b bytes more writes failed also = record {
  all = tt;
  part = (writes.part.0, writes.part.1 ++ more, ap (λ (l : List ℕ). l ++ more) writes.part.2 ∙ append_assoc writes.part.0 writes.part.1 more, writes.part.3);
}

-- and else as much as is
pub WritesInFull-then : {U V E F : Type 0} (r : Result U E) (q : Result V F) (a b c : Option (List ℕ)) (bytes more : List ℕ) → WritesInFull r a b bytes → is_err r ≡ false → WritesInFull q b c more
    → WritesInFull q a c (bytes ++ more)
WritesInFull-then (Err e) q a b c bytes more first good next = absurd (true≢false good)
WritesInFull-then (Ok u) q a b c bytes more first good next = record {
  all = behind q next.all;
  part =
      (bytes ++ next.part.0, next.part.1, ap (λ (l : List ℕ). bytes ++ l) next.part.2 ∙ sym (append_assoc bytes next.part.0 next.part.1), Appends-trans a b c bytes _ first.all next.part.3);
}
  where
    behind : {W G : Type 0} (s : Result W G) → OnOk s (Appends b c more) → OnOk s (Appends a c (bytes ++ more))
    behind (Ok v) all = Appends-trans a b c bytes more first.all all
    behind (Err e) all = tt

-- what holds of an error holds of the one that is handed on
pub handed_on : {U E : Type 0} (r : Result U E) (x : E) (P : E → Type 0) → IsErrAnd r (λ e. e ≡ x) → P x → IfErr r P
handed_on (Ok u) x P is h = tt
handed_on (Err e) x P is h = subst P (sym is) h
