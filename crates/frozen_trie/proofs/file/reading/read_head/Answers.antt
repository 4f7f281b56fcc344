use Rattle.std.proofs.Common.{◌≡◌, codes, inl, inr, refl, rules}
use Rattle.std.proofs.KnownBytes.{Consumes-nil, Consumes-trans}
use Rattle.frozen_trie.proofs.FileLemmas.Faults.{fault_in_head, fault_of_version, named_two}
use Rattle.frozen_trie.proofs.file.reading.read_head.Goals as goal

pub returns-in-Err-clause-fault : goal.returns-in-Err-clause-fault
returns-in-Err-clause-fault g c =
    fault_in_head c.in-Err.why _ _ _ 0 8 _ (Consumes-nil _) refl (inl (refl, refl)) c.in-Err.ensures.fault c.in_head.ensures.why c.in_head.ensures.fault

pub returns-then-version-ne-VERSION-clause-fault : goal.returns-then-version-ne-VERSION-clause-fault
returns-then-version-ne-VERSION-clause-fault g c =
    let same : c.fill.new.buffer ≡ codes "FROZENTX" = search rules in
    fault_of_version _ _ _ c.fill.new.buffer c.in-Ok.version _ c.in_default.ensures.bytes c.in-Ok.ensures.bytes same c.in-Ok.ensures.fits (search rules)
    c.in_head-then-version-ne-VERSION.ensures.why c.in_head-then-version-ne-VERSION.ensures.fault

pub returns-in-Err-read_u32-clause-fault : goal.returns-in-Err-read_u32-clause-fault
returns-in-Err-read_u32-clause-fault g c =
    let same : c.fill.new.buffer ≡ codes "FROZENTX" = search rules in
    fault_in_head c.in-Err-read_u32.why _ _ _ 8 4 _ c.in_default.ensures.bytes same (inr (inl (refl, refl))) c.in-Err-read_u32.ensures.fault
    c.in_head-in-Err-read_u32.ensures.why c.in_head-in-Err-read_u32.ensures.fault

pub returns-in-Err-read_u64-clause-fault : goal.returns-in-Err-read_u64-clause-fault
returns-in-Err-read_u64-clause-fault g c =
    let same : c.fill.new.buffer ≡ codes "FROZENTX" = search rules in
    let two : c.in-Ok.version ≡ 2 = search rules in
    fault_in_head c.in-Err-read_u64.why _ _ _ 12 8 _ (Consumes-trans _ _ _ _ _ c.in_default.ensures.bytes c.in-Ok.ensures.bytes) (named_two _ _ same two) (inr (inr (refl, refl)))
    c.in-Err-read_u64.ensures.fault c.in_head-in-Err-read_u64.ensures.why c.in_head-in-Err-read_u64.ensures.fault
