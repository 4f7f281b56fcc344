use Rattle.std.proofs.Common.{◌≡◌, ◌==◌, ◌∙◌, sym, ap, length, rules}
use Rattle.std.proofs.lemmas.List.Sums.{length-filter}
use Rattle.std.specs.List.{count_by}
use Rattle.radix_keys.proofs.PartLemmas.{zeros_are_counted}
use Rattle.radix_keys.proofs.parts.Parts.len.Goals as goal

pub returns : goal.returns
returns c =
    let bytes = c.self.inside.bytes.items in
    let counted : c.count.result ≡ count_by (λ b. b == 0) bytes = search rules in
    counted ∙ sym (length-filter (λ b. b == 0) bytes) ∙ zeros_are_counted bytes c.self.invariant ∙ ap length c.self.view_is
