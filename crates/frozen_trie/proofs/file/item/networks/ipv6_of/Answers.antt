use Rattle.std.proofs.Common.{rules, sym, ap, ◌∙◌}
use Rattle.std.specs.Net.Addr.{octets_of}
use Rattle.frozen_trie.proofs.FileLemmas.Addresses.{octets_of-segments_of, same_number}
use Rattle.frozen_trie.proofs.file.item.networks.ipv6_of.Goals as goal

pub returns : goal.returns
returns c =
    let bytes = ap octets_of c.from_octets.ensures ∙ octets_of-segments_of 8 c.args.octets (search rules) (search rules) in
    record { bytes = bytes; number = λ a e. same_number a c.from_octets.result (e ∙ sym bytes) }
