use Rattle.std.proofs.Common.{◌≡◌, ℕ, ◌-◌, ◌+◌, ◌<◌, length, sym, ap, subst, ◌∙◌}
use Rattle.encoded_keys.specs.Codes.{code_at}
use Rattle.encoded_keys.specs.Index.{AreSlotted, IsSlotted, entry_of, first_slot, hash_of_list}
use Rattle.encoded_keys.proofs.CodeLemmas.Slots.{all_still_slotted, in_place, one_more}
use Rattle.encoded_keys.proofs.keys.EncodedKeys.slots_of.Goals as goal

pub loop-i-preserved : goal.loop-i-preserved
loop-i-preserved c =
    let cs = c.args.self.now in
    let i = c.loop-i.i in
    let tags = c.tags_above-tags.result in
    let old = c.loop-i.slots.items in
    let new = c.put.new.slots in
    let hash = c.hash_of-hash.ensures ∙ ap hash_of_list c.piece.ensures.code in
    let same : length new ≡ length old = c.put.ensures.same ∙ ap length c.deref_mut.ensures.value in
    let whole = in_place new old c.loop-i.slots.len c.loop-i.slots.ok.0 same in
    let kept : (from entry : ℕ) → 0 < entry → IsSlotted old from entry → IsSlotted new from entry =
    λ f e l h. c.put.ensures.kept f e l (subst (λ xs. IsSlotted xs f e) (sym c.deref_mut.ensures.value) h) in
    let first = c.first_of-first.ensures.first ∙ ap (λ xs. first_slot (length xs - 64) c.hash_of-hash.result) c.deref.ensures.value
    ∙ ap (λ n. first_slot (n - 64) c.hash_of-hash.result) (sym same) ∙ ap (first_slot (length new - 64)) hash in
    let here = subst (λ e. IsSlotted new (first_slot (length new - 64) (hash_of_list (code_at cs i))) e) (ap (λ h. entry_of tags h i) hash)
    (subst (λ f. IsSlotted new f (entry_of tags c.hash_of-hash.result i)) first c.put.ensures.slotted) in
    record {
      size = ap length whole ∙ same ∙ c.loop-i.invariant.size;
      slotted = subst (λ xs. AreSlotted cs (i + 1) xs tags) (sym whole)
          (one_more cs new tags i (all_still_slotted cs old tags i new same kept c.loop-i.invariant.slotted) here);
    }
