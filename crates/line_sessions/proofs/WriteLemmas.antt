-- What is written one after another.
use Rattle.std.proofs.Common.{◌≡◌, ◌∙◌, ℕ, List, ◌++◌, ◌||◌, Bool, true, false, true≢false, is_err, OnOk, Result, Ok, Err, append_assoc, ap, drop, refl, sym, take, take-append-drop}
use Rattle.std.specs.Io.KnownBytes.{Appends}
use Rattle.std.proofs.KnownBytes.{Appends-trans}
use Rattle.line_sessions.specs.declared.fault.Fault.{Fault}
use Rattle.line_sessions.specs.Watched.{WriterState, Puts}

or_true : (b : Bool) → (b || true) ≡ true
or_true b = elim b as (λ v. (v || true) ≡ true) [ true ↦ refl | false ↦ refl ]

or_false : (b : Bool) → (b || false) ≡ b
or_false b = elim b as (λ v. (v || false) ≡ v) [ true ↦ refl | false ↦ refl ]

-- a write of all bytes, or of a first part
pub Puts-one : {U : Type 0} (r : Result U Fault) (a b : WriterState) (bytes : List ℕ) → OnOk r (Appends a.held b.held bytes) → (k : ℕ) × Appends a.held b.held (take k bytes)
    → b.has_failed ≡ (a.has_failed || is_err r) → Puts r a b bytes
Puts-one r a b bytes all part noted =
    record { all = all; part = (take part.0 bytes, drop part.0 bytes, sym (take-append-drop part.0 bytes), part.1); noted = noted }

-- of what comes behind it nothing is written where the write has failed
pub Puts-failed : {U V : Type 0} (r : Result U Fault) (q : Result V Fault) (a b : WriterState) (bytes more : List ℕ) → Puts r a b bytes → is_err r ≡ true → is_err q ≡ true
    → Puts q a b (bytes ++ more)
Puts-failed r (Ok v) a b bytes more puts failed also = absurd (true≢false (sym also))
Puts-failed r (Err e) a b bytes more puts failed also = record {
  all = tt;
  part = (puts.part.0, puts.part.1 ++ more, ap (λ (l : List ℕ). l ++ more) puts.part.2 ∙ append_assoc puts.part.0 puts.part.1 more, puts.part.3);
  noted = puts.noted ∙ ap (λ (v : Bool). a.has_failed || v) failed;
}

-- and else as much as is
pub Puts-then : {U V : Type 0} (r : Result U Fault) (q : Result V Fault) (a b c : WriterState) (bytes more : List ℕ) → Puts r a b bytes → is_err r ≡ false → Puts q b c more
    → Puts q a c (bytes ++ more)
Puts-then (Err e) q a b c bytes more first good next = absurd (true≢false good)
Puts-then (Ok u) q a b c bytes more first good next = record {
  all = behind q next.all;
  part =
      (bytes ++ next.part.0, next.part.1, ap (λ (l : List ℕ). bytes ++ l) next.part.2 ∙ sym (append_assoc bytes next.part.0 next.part.1), Appends-trans a.held b.held c.held bytes _ first.all next.part.3);
  noted = next.noted ∙ ap (λ (v : Bool). v || is_err q) (first.noted ∙ or_false a.has_failed);
}
  where
    behind : {W : Type 0} (s : Result W Fault) → OnOk s (Appends b.held c.held more) → OnOk s (Appends a.held c.held (bytes ++ more))
    behind (Ok v) all = Appends-trans a.held b.held c.held bytes more first.all all
    behind (Err e) all = tt
