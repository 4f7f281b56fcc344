use Rattle.std.proofs.Common.{◌≡◌, ◌+◌, ◌-◌, ◌<◌, inl, inr, true, false, length, get_or, bit_and, sym, ap, subst, ◌∙◌, arith}
use Rattle.radix_keys.proofs.KeyLemmas.Order.{three_ways}
use Rattle.encoded_keys.specs.Codes.{code_at}
use Rattle.encoded_keys.specs.Index.{AreSlots, entry_of, first_slot}
use Rattle.encoded_keys.proofs.CodeLemmas.Parts.{stands_at}
use Rattle.encoded_keys.proofs.CodeLemmas.Slots.{none_behind_free}
use Rattle.encoded_keys.proofs.keys.EncodedKeys.look.Goals.{in-Other, in-Holds+else-is_at}
use Rattle.encoded_keys.proofs.keys.EncodedKeys.look.Goals as goal

pub returns-in-Free-clause-absent : goal.returns-in-Free-clause-absent
returns-in-Free-clause-absent g c = λ _ k l e.
    let slots = c.self.inside.slots.items in
    let tags = c.self.inside.tags in
    let hash = c.hash_of-hash.result in
    let at = c.loop-at.at in
    let many : 64 < length slots = omega (arith, c.if-len-le-REACH.false, c.len.ensures, c.self.inside.slots.ok.0) in
    let kept = subst (λ cs. AreSlots cs slots tags) c.self.view_is (c.self.invariant.indexed many) in
    let first = c.first_of-first.ensures.first ∙ ap (λ xs. first_slot (length xs - 64) hash) c.deref.ensures.value ∙ ap (first_slot (length slots - 64)) c.hash_of-hash.ensures in
    let inside : at < length slots = omega (arith, c.loop-at-test.true, c.first_of-first.ensures.within, ap length c.deref.ensures.value) in
    let here : get_or slots at 0 ≡ 0 = sym (stands_at slots at c.index.result.now 0 inside c.index.ensures) ∙ c.slot_of.ensures.free c.in-Free.is in
    none_behind_free c.args.self.now slots tags kept.slotted c.args.list.now c.first_of-first.result (bit_and hash tags) at first k l e
    (sym (ap (λ h. entry_of tags h k) c.hash_of-hash.ensures)) c.loop-at.auto.at (omega (arith, c.loop-at-test.true)) here (λ s m n. c.loop-at.invariant s m n k l e)

pub is_at-requires : goal.is_at-requires
is_at-requires g c = let holds = c.slot_of.ensures.holds c.in-Holds.i c.in-Holds.is in record { within = omega (arith, holds.0, c.len-count.ensures); keyed = c.requires }

pub returns-then-is_at-clause-found : goal.returns-then-is_at-clause-found
returns-then-is_at-clause-found g c = λ i e.
    let same : c.in-Holds.i ≡ i = cc e in
    let holds = c.slot_of.ensures.holds c.in-Holds.i c.in-Holds.is in
    let here : c.in-Holds.i < length c.args.self.now = omega (arith, holds.0, c.len-count.ensures) in
    subst (λ n. (n < length c.args.self.now) × (code_at c.args.self.now n ≡ c.args.list.now)) same (here, c.is_at.ensures.0 c.if-is_at.true)

pub loop-at-preserved : goal.loop-at-preserved
loop-at-preserved g c = λ s m n k l e f.
    let slots = c.self.inside.slots.items in
    let tag = bit_and c.hash_of-hash.result c.self.inside.tags in
    let at = c.loop-at.at in
    let inside : at < length slots = omega (arith, c.loop-at-test.true, c.first_of-first.ensures.within, ap length c.deref.ensures.value) in
    let slot = stands_at slots at c.index.result.now 0 inside c.index.ensures in
    let count : k < c.len-count.result = omega (arith, l, c.len-count.ensures) in
    elim (three_ways s at) [
      | inl lt ↦ c.loop-at.invariant s m lt k l e f
      | inr (inr gt) ↦ absurd (omega (arith, n, gt))
      | inr (inl here) ↦
          let is : c.index.result.now ≡ tag + (k + 1) = slot ∙ sym (ap (λ i. get_or slots i 0) here) ∙ f in
          elim c.match-slot_of.branch [
            | in-Other w ↦ c.slot_of.ensures.other w.in-Other.is k count is
            | in-Holds+else-is_at w ↦
                let holds = c.slot_of.ensures.holds w.in-Holds.i w.in-Holds.is in
                let same : k ≡ w.in-Holds.i = (let other = holds.1 in omega (arith, is, other)) in
                let yes = w.is_at.ensures.1 (subst (λ i. code_at c.args.self.now i ≡ c.args.list.now) same e) in
                let no : true ≡ false = sym yes ∙ w.if-is_at.false in
                cc no
          ]
    ]
