use Rattle.std.proofs.Common.{◌≡◌, ◌∙◌, ℕ, ◌+◌, ◌-◌, ◌<◌, ◌^◌, min, Bool, true, false, ◌||◌, Result, Err, refl, sym, ap, subst, rules, arith, lit<}
use Rattle.std.proofs.KnownBytes.{Keeps-refl}
use Rattle.line_sessions.proofs.SessionLemmas.Serving.{Heard-new, Served-failed, Served-refused, Served-ended, Finishes-unread, Heard-more, Served-broken, Sends-unread, Consumes-none, Noted-unread}
use Rattle.line_sessions.specs.declared.fault.Fault.{Fault}
use Rattle.line_sessions.specs.Faults.{tells_write}
use Rattle.line_sessions.proofs.engine.drive.Goals as goal

or-false : (b : Bool) → (b || false) ≡ b
or-false true = refl
or-false false = refl

-- what no call has changed is as it was before
still : (a b e first : Bool) → a ≡ (b || e) → e ≡ false → b ≡ first → a ≡ first
still a b e first noted none before = noted ∙ ap (λ x. b || x) none ∙ or-false b ∙ before

-- a call's note tells of all calls so far, where none has failed before it
told_of_all : {U : Type 0} (r q : Result U Fault) (a b first : Bool) → a ≡ (b || tells_write r) → b ≡ first → r ≡ q → a ≡ (first || tells_write q)
told_of_all r q a b first noted before same = noted ∙ ap (λ x. x || tells_write r) before ∙ ap (λ p. first || tells_write p) same

-- one more read is counted
one_more_read : (after before first turns : ℕ) → after ≡ min (before + 1) (2 ^ 64 - 1) → min before (2 ^ 64 - 1) ≡ min (first + turns) (2 ^ 64 - 1)
    → min after (2 ^ 64 - 1) ≡ min (first + (turns + 1)) (2 ^ 64 - 1)
one_more_read after before first turns counted so_far = omega arith

pub loop-turn-init : goal.loop-turn-init
loop-turn-init g c = record {
  heard = Heard-new _ _ _ _ _ c.requires.line c.requires.answers c.requires.count;
  reads = search rules;
  reader_failed = refl;
  writer_failed = refl;
}

pub returns-in_default-clause-served : goal.returns-in_default-clause-served
returns-in_default-clause-served g c = Served-refused _ _ _ _ _ _ _ refl

pub returns-in-Err-clause-served : goal.returns-in-Err-clause-served
returns-in-Err-clause-served g c = Served-failed _ _ _ _ _ _ _ _ _ _ _ _ c.loop-turn.invariant.heard c.in-Err.ensures.bytes refl

pub returns-in-Ok-eq0-clause-served : goal.returns-in-Ok-eq0-clause-served
returns-in-Ok-eq0-clause-served g c =
    let none = c.in-Ok-eq0.field-0-test in
    let room = subst (λ (n : ℕ). 0 < n) (sym (c.read.auto.buffer ∙ c.loop-turn.auto.buffer ∙ c.as_mut_slice-buffer.ensures.len ∙ c.in-Ok.ensures)) (lit< tt) in
    Served-ended _ _ _ _ _ _ _ _ _ _ _ _ _ _ c.loop-turn.invariant.heard (Consumes-none _ _ _ _ none c.in-Ok-eq0.ensures.bytes.0) (c.in-Ok-eq0.ensures.bytes.1 none room) c.finish.ensures.sent

pub returns-in-Ok-eq0-clause-noted : goal.returns-in-Ok-eq0-clause-noted
returns-in-Ok-eq0-clause-noted g c =
    Noted-unread c.finish.result _ _ _ _ (Finishes-unread _ _ _ _ _ _ _ _ _ _ _ _ _ c.loop-turn.invariant.heard c.finish.ensures.sent)
    (still _ _ _ _ c.in-Ok-eq0.ensures.noted refl c.loop-turn.invariant.reader_failed) (told_of_all _ _ _ _ _ c.finish.ensures.noted c.loop-turn.invariant.writer_failed refl)

pub returns-in_err-feed-in-Ok-read-clause-served : goal.returns-in_err-feed-in-Ok-read-clause-served
returns-in_err-feed-in-Ok-read-clause-served g c =
    let out : c.from_residual.result ≡ Err c.in_err-feed-in-Ok-read.field-0.0 = search rules in
    Served-broken _ _ _ c.feed.result _ c.in_err-feed-in-Ok-read.field-0.0 _ _ _ _ _ _ _ _ _ _ _ _ c.loop-turn.invariant.heard c.in-Ok-read.ensures.bytes.0 c.in_err-feed-in-Ok-read.was out c.feed.ensures.sent

pub returns-in_err-feed-in-Ok-read-clause-noted : goal.returns-in_err-feed-in-Ok-read-clause-noted
returns-in_err-feed-in-Ok-read-clause-noted g c =
    let out : c.from_residual.result ≡ Err c.in_err-feed-in-Ok-read.field-0.0 = search rules in
    Noted-unread _ _ _ _ _
    (Sends-unread _ _ _ c.feed.result _ c.in_err-feed-in-Ok-read.field-0.0 _ _ _ _ _ _ _ _ _ _ _ c.loop-turn.invariant.heard c.in_err-feed-in-Ok-read.was out c.feed.ensures.sent)
    (still _ _ _ _ c.in-Ok-read.ensures.noted refl c.loop-turn.invariant.reader_failed)
    (told_of_all _ _ _ _ _ c.feed.ensures.noted c.loop-turn.invariant.writer_failed (c.in_err-feed-in-Ok-read.was ∙ sym out))

pub loop-turn-preserved : goal.loop-turn-preserved
loop-turn-preserved g c = record {
  heard = Heard-more _ _ _ c.feed.result c.in_ok-feed-in-Ok-read.field-0 _ _ _ _ _ _ _ _ _ _ _ _ c.loop-turn.invariant.heard c.in-Ok-read.ensures.bytes.0 c.in_ok-feed-in-Ok-read.was c.feed.ensures.sent;
  reads = one_more_read _ _ _ _ c.in-Ok-read.ensures.counted c.loop-turn.invariant.reads;
  reader_failed = still _ _ _ _ c.in-Ok-read.ensures.noted refl c.loop-turn.invariant.reader_failed;
  writer_failed = still _ _ _ _ c.feed.ensures.noted (ap tells_write c.in_ok-feed-in-Ok-read.was) c.loop-turn.invariant.writer_failed;
}

pub returns-clause-served : goal.returns-clause-served
returns-clause-served g c = Served-failed _ _ _ _ _ _ _ _ _ _ _ _ c.loop-turn.invariant.heard (Keeps-refl _) refl
