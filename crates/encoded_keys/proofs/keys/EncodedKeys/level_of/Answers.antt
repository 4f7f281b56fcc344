use Rattle.std.proofs.Common.{◌≡◌, length, sym, subst, ◌∙◌, arith}
use Rattle.encoded_keys.specs.Blocks.{AreHeads}
use Rattle.encoded_keys.specs.Packed.{AreHeaded}
use Rattle.encoded_keys.proofs.CodeLemmas.Making.{level_of_parts}
use Rattle.encoded_keys.proofs.keys.EncodedKeys.level_of.Goals as goal

pub returns-clause-level : goal.returns-clause-level
returns-clause-level c =
    let cs = c.args.self.now in
    let S = c.args.step in
    let ks = c.in_ok-skips.skips.items in
    let hs = c.in_ok-heads.heads.items in
    let more = c.in_ok-more.more.items in
    let kept = subst (λ cs. AreHeaded cs c.self.inside.heads.items c.self.inside.skips.items c.self.inside.levels.items) c.self.view_is c.self.invariant.headed in
    let heads = subst (λ xs. AreHeads cs S 0 hs xs (length hs)) c.deref.ensures.value c.in_ok-heads.ensures.heads in
    let further = subst (λ xs. AreHeads cs S 7 more xs (length more)) c.deref-2.ensures.value c.in_ok-more.ensures.heads in
    let many : length more ≡ length hs = c.in_ok-more.ensures.many ∙ sym c.in_ok-heads.ensures.many in (
      level_of_parts cs S hs ks kept.level.nibbles c.requires.some (omega (arith, c.requires.within)) c.in_ok-heads.ensures.many heads c.in_ok-skips.ensures,
      record { many = many; heads = λ i l. further i (omega (arith, l, many)) },
    )
