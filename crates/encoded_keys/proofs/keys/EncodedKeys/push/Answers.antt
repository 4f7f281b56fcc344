use Rattle.std.proofs.Common.{◌≡◌, ◌++◌, ◌+◌, ◌*◌, [], ◌∷◌, length, sym, ap, subst, ◌∙◌, arith}
use Rattle.std.proofs.lemmas.List.{length-append}
use Rattle.radix_keys.specs.Packing.{unpacked}
use Rattle.encoded_keys.specs.Blocks.{IsLevel}
use Rattle.encoded_keys.specs.Laid.{codes_in, halves, odds}
use Rattle.encoded_keys.specs.Packed.{AreHeaded}
use Rattle.encoded_keys.proofs.CodeLemmas.Growing.{codes_alike, codes_grown, end_number, laid_alike, laid_grown}
use Rattle.encoded_keys.proofs.CodeLemmas.Making.{all_written, level_more, plain_headed}
use Rattle.encoded_keys.proofs.CodeLemmas.Tops.{no_slots, no_steps, no_tops}
use Rattle.encoded_keys.proofs.keys.EncodedKeys.push.Goals as goal

pub invariant_of-self-in_err-extend_from_slice : goal.invariant_of-self-in_err-extend_from_slice
invariant_of-self-in_err-extend_from_slice c =
    let hs = c.forget_levels.new.heads in
    let own = c.reserve-3.new.self in
    let bytes = c.in_err-extend_from_slice.ensures.items ∙ c.in_ok-reserve.ensures.items in
    let ends = c.in_ok-reserve-2.ensures.items in
    let same : length hs ≡ length own.items = c.forget_levels.ensures.many ∙ ap length c.deref_mut.ensures.value in
    let cs = codes_in c.extend_from_slice.new.self.items 0 (halves c.reserve-2.new.self.items) (odds c.reserve-2.new.self.items) in
    let is : codes_in c.deref.result.now 0 (halves c.deref-2.result.now) (odds c.deref-2.result.now) ≡ cs =
    codes_alike _ _ _ _ _ _ (c.deref.ensures.value ∙ sym c.in_err-extend_from_slice.ensures.items) (ap halves c.deref-2.ensures.value) (ap odds c.deref-2.ensures.value) in
    record {
      laid = laid_alike _ _ _ _ _ _ bytes (ap halves ends) (ap odds ends) c.self.invariant.laid;
      headed = subst (λ xs. AreHeaded cs xs c.forget_levels.new.skips.items c.forget_levels.new.levels.items) (sym (all_written own.len hs own.items (own.ok.0 ∙ sym same)))
          (plain_headed cs hs _ _ c.forget_levels.ensures.skips c.forget_levels.ensures.levels (subst (λ xs. IsLevel xs 1 hs []) is c.forget_levels.ensures.plain));
      stepped = no_steps _ _ c.clear.ensures.items;
      topped = no_tops _ _ c.clear-2.ensures.items;
      indexed = no_slots _ _ _ c.clear-3.ensures.items;
    }

pub invariant_of-self-2 : goal.invariant_of-self-2
invariant_of-self-2 c =
    let bytes = c.self.inside.bytes.items in
    let ends = c.self.inside.ends.items in
    let more = c.as_packed-is_odd.result.0.now in
    let is_odd = c.as_packed-is_odd.result.1 in
    let list = c.args.list.now in
    let laid = c.self.invariant.laid in
    let cs = codes_in bytes 0 (halves ends) (odds ends) in
    let hs = c.forget_levels.new.heads in
    let own = c.reserve-3.new.self in
    let same : length hs ≡ length own.items = c.forget_levels.ensures.many ∙ ap length c.deref_mut.ensures.value in
    let whole = c.in_ok-extend_from_slice.ensures.items ∙ ap (λ bs. bs ++ more) c.in_ok-reserve.ensures.items in
    let number : 2 * (c.len.result + length more) + c.from.result ≡ end_number (bytes ++ more) is_odd =
    omega (arith, c.len.ensures, c.self.inside.bytes.ok.0, length-append bytes more, c.from.ensures) in
    let news = c.push_reserved.ensures.items ∙ ap (λ es. es ++ (2 * (c.len.result + length more) + c.from.result) ∷ []) c.in_ok-reserve-2.ensures.items ∙ ap (λ n. ends ++ n ∷ []) number in
    let all = codes_grown bytes more ends is_odd laid _ _ whole news ∙ ap (λ x. cs ++ x ∷ []) c.as_packed-is_odd.ensures.nibbles in
    let is : codes_in c.deref.result.now 0 (halves c.deref-2.result.now) (odds c.deref-2.result.now) ≡ cs =
    codes_alike _ _ _ _ _ _ (c.deref.ensures.value ∙ c.in_ok-reserve.ensures.items) (ap halves (c.deref-2.ensures.value ∙ c.in_ok-reserve-2.ensures.items))
    (ap odds (c.deref-2.ensures.value ∙ c.in_ok-reserve-2.ensures.items)) in
    let heads = c.push_reserved-2.ensures.items ∙ ap (λ xs. xs ++ c.head_of.result ∷ []) (all_written own.len hs own.items (own.ok.0 ∙ sym same)) in
    record {
      laid = laid_grown bytes more ends is_odd laid _ _ whole news c.as_packed-is_odd.ensures.padded;
      headed = plain_headed _ _ _ _ c.forget_levels.ensures.skips c.forget_levels.ensures.levels
          (subst (λ ds. IsLevel ds 1 c.push_reserved-2.new.self.items []) (sym all) (subst (λ xs. IsLevel (cs ++ list ∷ []) 1 xs []) (sym heads)
          (level_more cs hs list c.head_of.result (subst (λ xs. IsLevel xs 1 hs []) is c.forget_levels.ensures.plain) c.head_of.ensures.head c.head_of.ensures.nibbles)));
      stepped = no_steps _ _ c.clear.ensures.items;
      topped = no_tops _ _ c.clear-2.ensures.items;
      indexed = no_slots _ _ _ c.clear-3.ensures.items;
    }

pub returns-clause-ok : goal.returns-clause-ok
returns-clause-ok c =
    let bytes = c.self.inside.bytes.items in
    let ends = c.self.inside.ends.items in
    let more = c.as_packed-is_odd.result.0.now in
    let is_odd = c.as_packed-is_odd.result.1 in
    let whole = c.in_ok-extend_from_slice.ensures.items ∙ ap (λ bs. bs ++ more) c.in_ok-reserve.ensures.items in
    let number : 2 * (c.len.result + length more) + c.from.result ≡ end_number (bytes ++ more) is_odd =
    omega (arith, c.len.ensures, c.self.inside.bytes.ok.0, length-append bytes more, c.from.ensures) in
    let news = c.push_reserved.ensures.items ∙ ap (λ es. es ++ (2 * (c.len.result + length more) + c.from.result) ∷ []) c.in_ok-reserve-2.ensures.items ∙ ap (λ n. ends ++ n ∷ []) number in
    codes_grown bytes more ends is_odd c.self.invariant.laid _ _ whole news
    ∙ ap (λ l. l ++ unpacked more is_odd ∷ []) c.self.view_is
    ∙ ap (λ x. c.args.self.now ++ x ∷ []) c.as_packed-is_odd.ensures.nibbles
