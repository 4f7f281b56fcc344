-- Where a session stands after each of its steps.
use Rattle.std.proofs.Common.{◌≡◌, ℕ, ◌+◌, false, true≢false, is_err, List, [], ◌∷◌, ◌++◌, length, take, drop, refl, sym, ap, subst, ◌∙◌, inl, inr, Option, append_assoc, append-nil, arith, Result, Ok, Err, OnOk, OnErr, IfErr, length-append, take-append-drop}
use Rattle.std.specs.Io.KnownBytes.{Appends}
use Rattle.std.proofs.KnownBytes.{Appends-nil, Appends-trans}
use Rattle.line_sessions.specs.declared.fault.Fault.{Fault}
use Rattle.line_sessions.specs.declared.fault.Fault.TheVariants.{Read, Write, BadLine, Memory}
use Rattle.line_sessions.specs.declared.session.Conversation.{Conversation}
use Rattle.line_sessions.specs.declared.session.Session.{Session}
use Rattle.line_sessions.specs.Answers.{Adds, AreAnswers, IsLineAnswer}
use Rattle.line_sessions.specs.Lines.{HasNoFeed, all_lines, counted, cut, ended_lines}
use Rattle.line_sessions.specs.Sessions.{Breaks, GaveUp, IsBeginning}
use Rattle.line_sessions.specs.Standing.{Finishes, Goes, IsAnswered, StandsAt, IsClear, IsCleared, IsDone, IsRefusal, Sends, Sent, Tells, WritesWaiting}
use Rattle.line_sessions.proofs.AnswerLemmas.{AreAnswers-onto}
use Rattle.line_sessions.proofs.LineLemmas.{ended_lines-append, ended_lines-fed, ended_lines-kept, rest-fed, rest-kept}

-- the count stays at the largest number
counted-next : (k n : ℕ) → k ≡ counted n → counted (k + 1) ≡ counted (n + 1)
counted-next k n e = omega arith

-- what holds anyway holds of an Ok
pub OnOk-always : {U : Type 0} (r : Result U Fault) (P : Type 0) → P → OnOk r P
OnOk-always (Ok u) P p = p
OnOk-always (Err e) P p = tt

-- no byte, no line feed
pub HasNoFeed-nil : HasNoFeed []
HasNoFeed-nil = λ k d within. absurd (omega arith)

-- a line and its line feed, between what was heard and what comes after
pub append-fed : (heard line after : List ℕ) → (heard ++ line ++ 10 ∷ []) ++ after ≡ heard ++ (line ++ 10 ∷ after)
append-fed heard line after = append_assoc (heard ++ line) (10 ∷ []) after ∙ append_assoc heard line (10 ∷ after)

module _ {S : Type 0} (R : S → List ℕ → S → List ℕ → Type 0) where
  -- bytes of a line that goes on leave all ended lines answered
  pub IsAnswered-kept : (b l sent : List ℕ) (s t : S) (c : Conversation) → HasNoFeed l → IsAnswered R (ended_lines b) sent s t c → IsAnswered R (ended_lines (b ++ l)) sent s t c
  IsAnswered-kept b l sent s t c free answered = subst (λ (ls : List (List ℕ)). IsAnswered R ls sent s t c) (sym (ended_lines-kept b l free)) answered

  -- once its answer is put behind the others, one more line is answered
  IsAnswered-onto : (ls : List (List ℕ)) (line sent : List ℕ) (s t u : S) (c d : Conversation) → IsAnswered R ls sent s t c
      → Adds (IsLineAnswer R) line t u c.answers.items d.answers.items → d.count ≡ counted (c.count + 1) → IsAnswered R (ls ++ line ∷ []) sent s u d
  IsAnswered-onto ls line sent s t u c d answered adds count = record {
    count = count ∙ counted-next c.count (length ls) answered.count ∙ sym (ap counted (length-append ls (line ∷ [])));
    answers =
        subst (λ (o : List ℕ). AreAnswers R (ls ++ line ∷ []) s u o) (append_assoc sent c.answers.items adds.0 ∙ ap (λ (l : List ℕ). sent ++ l) (sym adds.2))
        (AreAnswers-onto R ls line s t u (sent ++ c.answers.items) adds.0 answered.answers adds.1);
  }

  IsBeginning-take : (ls : List (List ℕ)) (s : S) (sent a : List ℕ) (k : ℕ) → IsBeginning R ls s (sent ++ a) → IsBeginning R ls s (sent ++ take k a)
  IsBeginning-take ls s sent a k (before, after, is, t, rest, answers) = (
    before,
    after,
    is,
    t,
    drop k a ++ rest,
    subst (λ (o : List ℕ). AreAnswers R before s t o)
        (ap (λ (l : List ℕ). (sent ++ l) ++ rest) (sym (take-append-drop k a)) ∙ ap (λ (l : List ℕ). l ++ rest) (sym (append_assoc sent (take k a) (drop k a))) ∙ append_assoc (sent ++ take k a) (drop k a) rest)
        answers,
  )

  -- all lines of b are answered, and meanwhile some of the answers were written
  abbrev pub IsOn : (b sent : List ℕ) (held held' : Option (List ℕ)) → S → S → Session → Type 0
  IsOn b sent held held' s t c = (written : List ℕ) × Appends held held' written × StandsAt R b (sent ++ written) s t c

  IsAt-unsent : (b sent : List ℕ) (s t : S) (c : Session) → StandsAt R b sent s t c → StandsAt R b (sent ++ []) s t c
  IsAt-unsent b sent s t c at = subst (λ (l : List ℕ). StandsAt R b l s t c) (sym (append-nil sent)) at

  -- nothing more was heard, and nothing was written
  pub IsOn-start : (b sent : List ℕ) (held : Option (List ℕ)) (s t : S) (c : Session) → StandsAt R b sent s t c → IsOn (b ++ []) sent held held s t c
  IsOn-start b sent held s t c at = ([], Appends-nil held, IsAt-unsent (b ++ []) sent s t c (subst (λ (l : List ℕ). StandsAt R l sent s t c) (sym (append-nil b)) at))

  IsClear-cleared : (b sent : List ℕ) (s t : S) (c d : Session) → StandsAt R b sent s t c → IsCleared c d → IsClear R b (sent ++ c.conversation.answers.items) s t d
  IsClear-cleared b sent s t c d at cleared = record {
    at = record {
      rest = cleared.rest ∙ at.rest;
      answered = record {
        count = cleared.count ∙ at.answered.count;
        answers =
            subst (λ (o : List ℕ). AreAnswers R (ended_lines b) s t o)
            (sym (append-nil _) ∙ ap (λ (l : List ℕ). (sent ++ c.conversation.answers.items) ++ l) (sym cleared.none_waits))
            at.answered.answers;
      };
    };
    none_waits = cleared.none_waits;
  }

module _ {S : Type 0} (G : S → List ℕ → S → Type 0) where
  GaveUp-more : (after more : List (List ℕ)) (s t : S) → GaveUp G after s t → GaveUp G (after ++ more) s t
  GaveUp-more after more s t (inl same) = inl same
  GaveUp-more after more s t (inr (line, rest, is, gave)) = inr (line, rest ++ more, ap (λ (l : List (List ℕ)). l ++ more) is, gave)

module _ {S : Type 0} (R : S → List ℕ → S → List ℕ → Type 0) (B : List ℕ → Type 0) (G : S → List ℕ → S → Type 0) where
  -- what broke off stays so as more lines follow
  Breaks-more : (e : Fault) (ls more : List (List ℕ)) (s t : S) (o : List ℕ) → Breaks R B G e ls s t o → Breaks R B G e (ls ++ more) s t o
  Breaks-more Read ls more s t o why = absurd why
  Breaks-more Write ls more s t o (before, after, is, u, rest, answers) = (before, after ++ more, ap (λ (l : List (List ℕ)). l ++ more) is ∙ append_assoc before after more, u, rest, answers)
  Breaks-more (BadLine n) ls more s t o (before, bad, after, is, wrong, number, answers) =
      (before, bad, after ++ more, ap (λ (l : List (List ℕ)). l ++ more) is ∙ append_assoc before (bad ∷ after) more, wrong, number, answers)
  Breaks-more Memory ls more s t o (before, after, is, u, answers, gave) =
      (before, after ++ more, ap (λ (l : List (List ℕ)). l ++ more) is ∙ append_assoc before after more, u, answers, GaveUp-more G after more u t gave)

  -- and as more is heard
  pub Breaks-heard : (e : Fault) (b more : List ℕ) (s t : S) (o : List ℕ) → Breaks R B G e (ended_lines b) s t o → Breaks R B G e (ended_lines (b ++ more)) s t o
  Breaks-heard e b more s t o why =
      let on = ended_lines-append b more in
      subst (λ (ls : List (List ℕ)). Breaks R B G e ls s t o) (sym on.1) (Breaks-more e (ended_lines b) on.0 s t o why)

  -- a line that got no answer, with the answers as they were
  Breaks-refused_line : (ls : List (List ℕ)) (line sent : List ℕ) (s t u : S) (c : Conversation) (e : Fault) → IsAnswered R ls sent s t c → IsRefusal B G e line (counted (c.count + 1)) t u
      → Breaks R B G e (ls ++ line ∷ []) s u (sent ++ c.answers.items)
  Breaks-refused_line ls line sent s t u c Read answered why = absurd why
  Breaks-refused_line ls line sent s t u c Write answered why = absurd why
  Breaks-refused_line ls line sent s t u c (BadLine n) answered (wrong, number, same) =
      (ls, line, [], refl, wrong, number ∙ counted-next c.count (length ls) answered.count, subst (λ (v : S). AreAnswers R ls s v (sent ++ c.answers.items)) (sym same) answered.answers)
  Breaks-refused_line ls line sent s t u c Memory answered why = (ls, line ∷ [], refl, t, answered.answers, inr (line, [], refl, why))

  -- a line that got no answer breaks off
  pub Breaks-refused : (b sent line : List ℕ) (s t u : S) (c d : Conversation) (e : Fault) → line ≡ (cut b).rest → IsAnswered R (ended_lines b) sent s t c
      → IsRefusal B G e line (counted (c.count + 1)) t u → d.answers.items ≡ c.answers.items → Breaks R B G e (ended_lines (b ++ 10 ∷ [])) s u (sent ++ d.answers.items)
  Breaks-refused b sent line s t u c d e ends answered why same =
      subst (λ (a : List ℕ). Breaks R B G e (ended_lines (b ++ 10 ∷ [])) s u (sent ++ a)) (sym same)
      (subst (λ (ls : List (List ℕ)). Breaks R B G e ls s u (sent ++ c.answers.items)) (sym (ended_lines-fed b line ends)) (Breaks-refused_line (ended_lines b) line sent s t u c e answered why))

  -- once its answer is put behind the others, the ended line is answered
  pub IsAnswered-fed : (b sent line : List ℕ) (s t u : S) (c d : Conversation) → line ≡ (cut b).rest → IsAnswered R (ended_lines b) sent s t c
      → Adds (IsLineAnswer R) line t u c.answers.items d.answers.items → d.count ≡ counted (c.count + 1) → IsAnswered R (ended_lines (b ++ 10 ∷ [])) sent s u d
  IsAnswered-fed b sent line s t u c d ends answered adds count =
      subst (λ (ls : List (List ℕ)). IsAnswered R ls sent s u d) (sym (ended_lines-fed b line ends)) (IsAnswered-onto R (ended_lines b) line sent s t u c d answered adds count)

  -- an ended line is answered, or breaks off, whichever bytes it was kept in
  pub Goes-reply : {U : Type 0} (r : Result U Fault) (b sent line : List ℕ) (s t u : S) (c : Conversation) (d : Session)
      → line ≡ (cut b).rest → IsAnswered R (ended_lines b) sent s t c
      → OnOk r (Adds (IsLineAnswer R) line t u c.answers.items d.conversation.answers.items) → OnOk r (d.conversation.count ≡ counted (c.count + 1)) → OnOk r (d.open_line.items ≡ [])
      → IfErr r (λ e. IsRefusal B G e line (counted (c.count + 1)) t u) → OnErr r (d.conversation.answers.items ≡ c.answers.items)
      → Goes R B G r (b ++ 10 ∷ []) sent s u d
  Goes-reply (Ok x) b sent line s t u c d ends answered adds count clear why same =
      record { rest = clear ∙ sym (rest-fed b); answered = IsAnswered-fed b sent line s t u c d.conversation ends answered adds count }
  Goes-reply (Err e) b sent line s t u c d ends answered adds count clear why same = Breaks-refused b sent line s t u c d.conversation e ends answered why same

  -- bytes of a line that goes on are kept, or there is no room for them
  pub Goes-kept : {U : Type 0} (r : Result U Fault) (b l sent : List ℕ) (s t : S) (c d : Session) → HasNoFeed l → OnOk r (d.open_line.items ≡ c.open_line.items ++ l)
      → IfErr r (λ e. e ≡ Memory) → d.conversation ≡ c.conversation → StandsAt R b sent s t c → Goes R B G r (b ++ l) sent s t d
  Goes-kept (Ok x) b l sent s t c d free kept fault same at = record {
    rest = kept ∙ rest-kept b l c.open_line.items free at.rest;
    answered = IsAnswered-kept R b l sent s t d.conversation free (subst (λ (k : Conversation). IsAnswered R (ended_lines b) sent s t k) (sym same) at.answered);
  }
  Goes-kept (Err e) b l sent s t c d free kept fault same at =
      subst (λ (f : Fault). Breaks R B G f (ended_lines (b ++ l)) s t (sent ++ d.conversation.answers.items)) (sym fault)
      (subst (λ (k : Conversation). Breaks R B G Memory (ended_lines (b ++ l)) s t (sent ++ k.answers.items)) (sym same)
      (Breaks-heard Memory b l s t _ (ended_lines b, [], sym (append-nil (ended_lines b)), t, at.answered.answers, inl refl)))

  -- a fault that breaks off is how it goes
  pub Goes-err : {U : Type 0} (r : Result U Fault) (e : Fault) (b sent : List ℕ) (s t : S) (c : Session)
      → r ≡ Err e → Breaks R B G e (ended_lines b) s t (sent ++ c.conversation.answers.items) → Goes R B G r b sent s t c
  Goes-err r e b sent s t c same why = subst (λ (q : Result _ Fault). Goes R B G q b sent s t c) (sym same) why

  -- what was sent with what waits begins the answers
  Goes-beginning : {U : Type 0} (r : Result U Fault) (b sent : List ℕ) (s t : S) (c : Session) → Goes R B G r b sent s t c → IsBeginning R (ended_lines b) s (sent ++ c.conversation.answers.items)
  Goes-beginning (Ok x) b sent s t c at =
      (ended_lines b, [], sym (append-nil _), t, [], subst (λ (o : List ℕ). AreAnswers R (ended_lines b) s t o) (sym (append-nil _)) at.answered.answers)
  Goes-beginning (Err Read) b sent s t c why = absurd why
  Goes-beginning (Err Write) b sent s t c why = why
  Goes-beginning (Err (BadLine n)) b sent s t c (before, bad, after, is, wrong, number, answers) =
      (before, bad ∷ after, is, t, [], subst (λ (o : List ℕ). AreAnswers R before s t o) (sym (append-nil _)) answers)
  Goes-beginning (Err Memory) b sent s t c (before, after, is, u, answers, gave) =
      (before, after, is, u, [], subst (λ (o : List ℕ). AreAnswers R before s u o) (sym (append-nil _)) answers)

  Sent-all : {U : Type 0} (r : Result U Fault) (b sent : List ℕ) (s t : S) (c d : Session) → Goes R B G r b sent s t c → OnOk r (IsCleared c d) → Sent R B G r b (sent ++ c.conversation.answers.items) s t d
  Sent-all (Ok x) b sent s t c d at cleared = IsClear-cleared R b sent s t c d at cleared
  Sent-all (Err e) b sent s t c d why cleared = why

  -- what waited was written, or a first part of it
  pub Sends-written : {U : Type 0} (outcome r : Result U Fault) (b sent : List ℕ) (held held' : Option (List ℕ)) (s t : S) (c d : Session)
      → Goes R B G outcome b sent s t c → WritesWaiting outcome r c.conversation.answers.items held held' → OnOk r (IsCleared c d) → Sends R B G r b sent held held' s t d
  Sends-written outcome r b sent held held' s t c d goes (inl (same, appended)) cleared = record {
    written = c.conversation.answers.items;
    appended = appended;
    why = Sent-all r b sent s t c d (subst (λ (q : Result _ Fault). Goes R B G q b sent s t c) (sym same) goes) cleared;
  }
  Sends-written outcome r b sent held held' s t c d goes (inr (fault, k, appended)) cleared =
      subst (λ (q : Result _ Fault). Sends R B G q b sent held held' s t d) (sym fault) (record {
        written = take k c.conversation.answers.items;
        appended = appended;
        why = IsBeginning-take R (ended_lines b) s sent c.conversation.answers.items k (Goes-beginning outcome b sent s t c goes);
      })

  -- what is done at the end of the input
  IsDone-sent : {U : Type 0} (r : Result U Fault) (a b sent : List ℕ) (s t : S) (c : Session) → ended_lines a ≡ all_lines b → Sent R B G r a sent s t c → IsDone R B G r b sent s t
  IsDone-sent (Ok x) a b sent s t c same clear =
      subst (λ (ls : List (List ℕ)). AreAnswers R ls s t sent) same
      (subst (λ (o : List ℕ). AreAnswers R (ended_lines a) s t o) (ap (λ (l : List ℕ). sent ++ l) clear.none_waits ∙ append-nil sent) clear.at.answered.answers)
  IsDone-sent (Err e) a b sent s t c same why = subst (λ (ls : List (List ℕ)). Breaks R B G e ls s t sent) same why

  -- what was sent of the ended lines is all, where they are all lines
  pub Finishes-sends : {U : Type 0} (r : Result U Fault) (a b sent : List ℕ) (held held' : Option (List ℕ)) (s t : S) (c : Session) → ended_lines a ≡ all_lines b → Sends R B G r a sent held held' s t c
      → Finishes R B G r b sent held held' s t
  Finishes-sends r a b sent held held' s t c same sends =
      record { written = sends.written; appended = sends.appended; why = IsDone-sent r a b (sent ++ sends.written) s t c same sends.why }

  -- where no fault came, the answers may wait
  pub Tells-waits : {U V : Type 0} (r : Result U Fault) (v : V) (b sent : List ℕ) (held : Option (List ℕ)) (s t : S) (c : Session) → is_err r ≡ false → Goes R B G r b sent s t c
      → Tells {U = V} R B G (Ok v) b sent held held s t c
  Tells-waits (Ok u) v b sent held s t c good at = record { written = []; appended = Appends-nil held; why = IsAt-unsent R b sent s t c at }
  Tells-waits (Err e) v b sent held s t c bad why = absurd (true≢false bad)

  -- all of them may be written too
  pub Tells-sends : {U : Type 0} (r : Result U Fault) (b sent : List ℕ) (held held' : Option (List ℕ)) (s t : S) (c : Session) → Sends R B G r b sent held held' s t c → Tells R B G r b sent held held' s t c
  Tells-sends (Ok u) b sent held held' s t c sends = record { written = sends.written; appended = sends.appended; why = sends.why.at }
  Tells-sends (Err e) b sent held held' s t c sends = record { written = sends.written; appended = sends.appended; why = sends.why }

  -- one more line is answered
  pub IsOn-told : {U : Type 0} (r : Result U Fault) (x : U) (b c d sent : List ℕ) (held held' held'' : Option (List ℕ)) (s t u : S) (k k' : Session) → c ≡ d → r ≡ Ok x
      → (on : IsOn R b sent held held' s t k) → Tells R B G r c (sent ++ on.0) held' held'' s u k' → IsOn R d sent held held'' s u k'
  IsOn-told r x b c d sent held held' held'' s t u k k' whole same on tells =
      let told = subst (λ (q : Result _ Fault). Tells R B G q c (sent ++ on.0) held' held'' s u k') same tells in
      subst (λ (l : List ℕ). IsOn R l sent held held'' s u k') whole
      (on.0 ++ told.written, Appends-trans held held' held'' _ _ on.1 told.appended, subst (λ (l : List ℕ). StandsAt R c l s u k') (append_assoc sent on.0 told.written) told.why)

  -- a fault at one of the lines breaks off what is heard
  pub Sends-told : {U V : Type 0} (r : Result U Fault) (q : Result V Fault) (e : Fault) (b c more d sent : List ℕ) (held held' held'' : Option (List ℕ)) (s t u : S) (k k' k'' : Session)
      → c ++ more ≡ d → r ≡ Err e → q ≡ Err e → (on : IsOn R b sent held held' s t k) → Tells R B G r c (sent ++ on.0) held' held'' s u k' → Sends R B G q d sent held held'' s u k''
  Sends-told r q e b c more d sent held held' held'' s t u k k' k'' whole same out on tells =
      let told = subst (λ (p : Result _ Fault). Tells R B G p c (sent ++ on.0) held' held'' s u k') same tells in
      subst (λ (p : Result _ Fault). Sends R B G p d sent held held'' s u k'') (sym out) (record {
        written = on.0 ++ told.written;
        appended = Appends-trans held held' held'' _ _ on.1 told.appended;
        why =
            subst (λ (l : List ℕ). Breaks R B G e (ended_lines l) s u (sent ++ (on.0 ++ told.written))) whole
            (subst (λ (l : List ℕ). Breaks R B G e (ended_lines (c ++ more)) s u l) (append_assoc sent on.0 told.written) (Breaks-heard e c more s u _ told.why));
      })

  -- what is written last comes after what was written meanwhile
  pub Sends-on : {U : Type 0} (r : Result U Fault) (b c d sent : List ℕ) (held held' held'' : Option (List ℕ)) (s t u : S) (k k' : Session) → c ≡ d
      → (on : IsOn R b sent held held' s t k) → Sends R B G r c (sent ++ on.0) held' held'' s u k' → Sends R B G r d sent held held'' s u k'
  Sends-on r b c d sent held held' held'' s t u k k' whole on sends =
      subst (λ (l : List ℕ). Sends R B G r l sent held held'' s u k') whole (record {
        written = on.0 ++ sends.written;
        appended = Appends-trans held held' held'' _ _ on.1 sends.appended;
        why = subst (λ (l : List ℕ). Sent R B G r c l s u k') (append_assoc sent on.0 sends.written) sends.why;
      })
