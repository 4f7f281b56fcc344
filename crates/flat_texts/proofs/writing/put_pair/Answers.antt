use Rattle.std.proofs.Common.{◌∙◌, arith}
use Rattle.image_parts.proofs.ByteLemmas.{u32_kept, u64_kept}
use Rattle.flat_texts.proofs.writing.put_pair.Goals as goal

pub returns-clause-head : goal.returns-clause-head
returns-clause-head c =
    let laid = c.requires.layout in
    let pairs_at = laid.pairs_at in
    let heads_at = laid.heads_at in
    let keys_at = laid.keys_at in
    u64_kept _ _ _ (λ k l m.
    c.put_bytes.ensures.before k (omega (arith, m, heads_at, keys_at, c.requires.within))
    ∙ c.put_u64-2.ensures.before k (omega (arith, m, heads_at, pairs_at, c.requires.within))
    ∙ c.put_u32-2.ensures.before k (omega (arith, m, heads_at, pairs_at, c.requires.within))
    ∙ c.put_u32.ensures.before k (omega (arith, m, heads_at, pairs_at, c.requires.within)))
    ∙ c.put_u64.ensures.number ∙ c.head_of.ensures

pub returns-clause-end : goal.returns-clause-end
returns-clause-end c =
    let laid = c.requires.layout in
    let pairs_at = laid.pairs_at in
    let keys_at = laid.keys_at in
    u32_kept _ _ _ (λ k l m.
    c.put_bytes.ensures.before k (omega (arith, m, pairs_at, keys_at, c.requires.within))
    ∙ c.put_u64-2.ensures.before k (omega (arith, m)) ∙ c.put_u32-2.ensures.before k m)
    ∙ c.put_u32.ensures.number

pub returns-clause-link : goal.returns-clause-link
returns-clause-link c =
    let laid = c.requires.layout in
    let pairs_at = laid.pairs_at in
    let keys_at = laid.keys_at in
    u32_kept _ _ _ (λ k l m.
    c.put_bytes.ensures.before k (omega (arith, m, pairs_at, keys_at, c.requires.within))
    ∙ c.put_u64-2.ensures.before k (omega (arith, m)))
    ∙ c.put_u32-2.ensures.number

pub returns-clause-value : goal.returns-clause-value
returns-clause-value c =
    let laid = c.requires.layout in
    let pairs_at = laid.pairs_at in
    let keys_at = laid.keys_at in
    u64_kept _ _ _ (λ k l m. c.put_bytes.ensures.before k (omega (arith, m, pairs_at, keys_at, c.requires.within)))
    ∙ c.put_u64-2.ensures.number
