-- How far a session over a reader and a writer has come.
use Rattle.std.proofs.Common.{◌≡◌, ◌∙◌, ℕ, List, [], ◌++◌, take, refl, sym, ap, subst, inl, inr, append-nil, Option, Result, Ok, Err, IsTrue, IsFalse, true≢false, ◌||◌}
use Rattle.std.specs.Io.KnownBytes.{Appends, Consumes, IsAtEnd, Keeps}
use Rattle.std.proofs.KnownBytes.{Appends-trans, Appends-nil, Consumes-nil, Consumes-trans, Consumes-kept}
use Rattle.line_sessions.specs.declared.fault.Fault.{Fault}
use Rattle.line_sessions.specs.declared.fault.Fault.TheVariants.{Read, Write, BadLine, Memory}
use Rattle.line_sessions.specs.declared.session.Session.{Session}
use Rattle.line_sessions.specs.Answers.{AreAnswers}
use Rattle.line_sessions.specs.Faults.{tells_read, tells_write}
use Rattle.line_sessions.specs.Lines.{all_lines, cut, ended_lines}
use Rattle.line_sessions.specs.Sessions.{Breaks, Outcome, Served}
use Rattle.line_sessions.specs.Watched.{Noted, ReaderState, WriterState}
use Rattle.line_sessions.specs.Standing.{Finishes, StandsAt, IsClear, IsDone, Sends}

-- a read of no byte consumes nothing
pub Consumes-none : (u v : Option (List ℕ)) (n : ℕ) (buffer : List ℕ) → n ≡ 0 → Consumes u v (take n buffer) → Consumes u v []
Consumes-none u v n buffer none took = subst (λ (k : ℕ). Consumes u v (take k buffer)) none took

-- what isn't a fault of the reader isn't told as one
unread-absurd : {U A : Type 0} (r : Result U Fault) → IsFalse (tells_read r) → IsTrue (tells_read r) → A
unread-absurd r untold answered = absurd (true≢false (sym answered ∙ untold))

-- what isn't a fault of the reader is told of the calls, where no read has failed
pub Noted-unread : {U : Type 0} (r : Result U Fault) (reader reader' : ReaderState) (writer writer' : WriterState) → IsFalse (tells_read r) → reader'.has_failed ≡ reader.has_failed
    → writer'.has_failed ≡ (writer.has_failed || tells_write r) → Noted reader reader' writer writer' r
Noted-unread r reader reader' writer writer' untold same noted = record {
  failed_read_told = λ failed. inl (sym same ∙ failed);
  read_failed = unread-absurd r untold;
  read_comes_last = unread-absurd r untold;
  write_failed = noted;
}

module _ {S : Type 0} (R : S → List ℕ → S → List ℕ → Type 0) where
  -- all that was read was heard and answered, and all answers are written
  pub record Heard (unread unread' held held' : Option (List ℕ)) (s t : S) (c : Session) : Type 0 where
    pub read : List ℕ
    pub written : List ℕ
    pub consumed : Consumes unread unread' read
    pub appended : Appends held held' written
    pub clear : IsClear R read written s t c

  -- a new session stands at the start
  IsClear-new : (s : S) (c : Session) → c.open_line.items ≡ [] → c.conversation.answers.items ≡ [] → c.conversation.count ≡ 0 → IsClear R [] [] s s c
  unfolding cut
  IsClear-new s c line answers count = record { at = record { rest = line; answered = record { count = count; answers = (refl, answers) } }; none_waits = answers }

  -- a new session has heard nothing
  pub Heard-new : (unread held : Option (List ℕ)) (s : S) (c : Session) → c.open_line.items ≡ [] → c.conversation.answers.items ≡ [] → c.conversation.count ≡ 0 → Heard unread unread held held s s c
  Heard-new unread held s c line answers count =
      record { read = []; written = []; consumed = Consumes-nil unread; appended = Appends-nil held; clear = IsClear-new s c line answers count }

  AreAnswers-clear : (b sent : List ℕ) (s t : S) (c : Session) → IsClear R b sent s t c → AreAnswers R (ended_lines b) s t sent
  AreAnswers-clear b sent s t c clear =
      subst (λ (o : List ℕ). AreAnswers R (ended_lines b) s t o) (ap (λ (l : List ℕ). sent ++ l) clear.none_waits ∙ append-nil sent) clear.at.answered.answers

module _ {S : Type 0} (R : S → List ℕ → S → List ℕ → Type 0) (B : List ℕ → Type 0) (G : S → List ℕ → S → Type 0) where
  -- it ends where the reader fails
  pub Served-failed : {U : Type 0} (r : Result U Fault) (unread unread' unread'' held held' : Option (List ℕ)) (s t : S) (c : Session)
      → Heard R unread unread' held held' s t c → Keeps unread' unread'' → r ≡ Err Read → Served R B G unread unread'' held held' s t r
  Served-failed r unread unread' unread'' held held' s t c h keeps same =
      subst (λ (q : Result _ Fault). Served R B G unread unread'' held held' s t q) (sym same) (record {
        read = h.read;
        written = h.written;
        consumed = Consumes-kept unread unread' unread'' h.read h.consumed keeps;
        appended = h.appended;
        outcome = AreAnswers-clear R h.read h.written s t c h.clear;
      })

  -- it ends before anything was read
  pub Served-refused : {U : Type 0} (r : Result U Fault) (unread held : Option (List ℕ)) (s : S) → r ≡ Err Memory → Served R B G unread unread held held s s r
  unfolding cut
  Served-refused r unread held s same =
      subst (λ (q : Result _ Fault). Served R B G unread unread held held s s q) (sym same) (record {
        read = [];
        written = [];
        consumed = Consumes-nil unread;
        appended = Appends-nil held;
        outcome = ([], inl refl, ([], [], refl, s, (refl, refl), inl refl));
      })

  Stopped-heard : (e : Fault) (ended : Type 0) (b : List ℕ) (s t : S) (o : List ℕ) → Breaks R B G e (ended_lines b) s t o → Outcome {U = Unit {0}} R B G (Err e) ended b s t o
  Stopped-heard Read ended b s t o why = absurd why
  Stopped-heard Write ended b s t o why = (ended_lines b, inl refl, why)
  Stopped-heard (BadLine n) ended b s t o why = (ended_lines b, inl refl, why)
  Stopped-heard Memory ended b s t o why = (ended_lines b, inl refl, why)

  Stopped-last : (e : Fault) (ended : Type 0) (b : List ℕ) (s t : S) (o : List ℕ) → ended → Breaks R B G e (all_lines b) s t o → Outcome {U = Unit {0}} R B G (Err e) ended b s t o
  Stopped-last Read ended b s t o end why = absurd why
  Stopped-last Write ended b s t o end why = (all_lines b, inr (end, refl), why)
  Stopped-last (BadLine n) ended b s t o end why = (all_lines b, inr (end, refl), why)
  Stopped-last Memory ended b s t o end why = (all_lines b, inr (end, refl), why)

  Outcome-done : {U : Type 0} (r : Result U Fault) (ended : Type 0) (b o : List ℕ) (s t : S) → ended → IsDone R B G r b o s t → Outcome R B G r ended b s t o
  Outcome-done (Ok u) ended b o s t end done = (end, done)
  Outcome-done (Err e) ended b o s t end why = Stopped-last e ended b s t o end why

  -- it ends with the input
  pub Served-ended : {U : Type 0} (r : Result U Fault) (unread unread' unread'' held held' held'' : Option (List ℕ)) (s t u : S) (c : Session)
      → Heard R unread unread' held held' s t c → Consumes unread' unread'' [] → IsAtEnd unread''
      → ((b sent : List ℕ) (start : S) → StandsAt R b sent start t c → Finishes R B G r b sent held' held'' start u) → Served R B G unread unread'' held held'' s u r
  Served-ended r unread unread' unread'' held held' held'' s t u c h took end finishes =
      let done = finishes h.read h.written s h.clear.at in
      record {
        read = h.read;
        written = h.written ++ done.written;
        consumed = subst (Consumes unread unread'') (append-nil h.read) (Consumes-trans unread unread' unread'' h.read [] h.consumed took);
        appended = Appends-trans held held' held'' _ _ h.appended done.appended;
        outcome = Outcome-done r _ _ _ s u end done.why;
      }

  -- one more chunk is heard
  pub Heard-more : {U : Type 0} (r : Result U Fault) (x : U) (unread unread' unread'' held held' held'' : Option (List ℕ)) (s t u : S) (c d : Session) (bytes : List ℕ)
      → Heard R unread unread' held held' s t c → Consumes unread' unread'' bytes → r ≡ Ok x
      → ((b sent : List ℕ) (start : S) → StandsAt R b sent start t c → Sends R B G r (b ++ bytes) sent held' held'' start u d) → Heard R unread unread'' held held'' s u d
  Heard-more r x unread unread' unread'' held held' held'' s t u c d bytes h took same hears =
      let sends = subst (λ (q : Result _ Fault). Sends R B G q (h.read ++ bytes) h.written held' held'' s u d) same (hears h.read h.written s h.clear.at) in
      record {
        read = h.read ++ bytes;
        written = h.written ++ sends.written;
        consumed = Consumes-trans unread unread' unread'' h.read bytes h.consumed took;
        appended = Appends-trans held held' held'' _ _ h.appended sends.appended;
        clear = sends.why;
      }

  -- it ends at a fault among the lines of a chunk
  pub Served-broken : {U V : Type 0} (r : Result U Fault) (q : Result V Fault) (e : Fault) (unread unread' unread'' held held' held'' : Option (List ℕ)) (s t u : S) (c d : Session) (bytes : List ℕ)
      → Heard R unread unread' held held' s t c → Consumes unread' unread'' bytes → r ≡ Err e → q ≡ Err e
      → ((b sent : List ℕ) (start : S) → StandsAt R b sent start t c → Sends R B G r (b ++ bytes) sent held' held'' start u d) → Served R B G unread unread'' held held'' s u q
  Served-broken r q e unread unread' unread'' held held' held'' s t u c d bytes h took same out hears =
      let sends = subst (λ (p : Result _ Fault). Sends R B G p (h.read ++ bytes) h.written held' held'' s u d) same (hears h.read h.written s h.clear.at) in
      subst (λ (p : Result _ Fault). Served R B G unread unread'' held held'' s u p) (sym out) (record {
        read = h.read ++ bytes;
        written = h.written ++ sends.written;
        consumed = Consumes-trans unread unread' unread'' h.read bytes h.consumed took;
        appended = Appends-trans held held' held'' _ _ h.appended sends.appended;
        outcome = Stopped-heard e _ _ s u _ sends.why;
      })

  Breaks-unread : {U : Type 0} (q : Result U Fault) (e : Fault) (ls : List (List ℕ)) (s t : S) (o : List ℕ) → q ≡ Err e → Breaks R B G e ls s t o → IsFalse (tells_read q)
  Breaks-unread q Read ls s t o same why = absurd why
  Breaks-unread q Write ls s t o same why = ap tells_read same
  Breaks-unread q (BadLine n) ls s t o same why = ap tells_read same
  Breaks-unread q Memory ls s t o same why = ap tells_read same

  -- no fault among the lines of a chunk is the reader's
  pub Sends-unread : {U V : Type 0} (r : Result U Fault) (q : Result V Fault) (e : Fault) (unread unread' held held' held'' : Option (List ℕ)) (s t u : S) (c d : Session) (bytes : List ℕ)
      → Heard R unread unread' held held' s t c → r ≡ Err e → q ≡ Err e
      → ((b sent : List ℕ) (start : S) → StandsAt R b sent start t c → Sends R B G r (b ++ bytes) sent held' held'' start u d) → IsFalse (tells_read q)
  Sends-unread r q e unread unread' held held' held'' s t u c d bytes h same out hears =
      let sends = subst (λ (p : Result _ Fault). Sends R B G p (h.read ++ bytes) h.written held' held'' s u d) same (hears h.read h.written s h.clear.at) in
      Breaks-unread q e _ s u _ out sends.why

  IsDone-unread : {U : Type 0} (r : Result U Fault) (b o : List ℕ) (s t : S) → IsDone R B G r b o s t → IsFalse (tells_read r)
  IsDone-unread (Ok u) b o s t done = refl
  IsDone-unread {U} (Err e) b o s t why = Breaks-unread {U = U} (Err e) e _ s t _ refl why

  -- and none at the end of the input is
  pub Finishes-unread : {U : Type 0} (r : Result U Fault) (unread unread' held held' held'' : Option (List ℕ)) (s t u : S) (c : Session)
      → Heard R unread unread' held held' s t c → ((b sent : List ℕ) (start : S) → StandsAt R b sent start t c → Finishes R B G r b sent held' held'' start u) → IsFalse (tells_read r)
  Finishes-unread r unread unread' held held' held'' s t u c h finishes = IsDone-unread r _ _ s u (finishes h.read h.written s h.clear.at).why
