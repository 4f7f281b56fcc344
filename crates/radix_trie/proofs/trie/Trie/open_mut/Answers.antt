use Rattle.std.proofs.Common.{ap, sym, ◌∙◌, refl, subst}
use Rattle.nibble_map.specs.MapQueries.{IsFragment}
use mathlib.Core.Option as maybe
use Rattle.radix_trie.proofs.trie.Trie.open_mut.Goals as goal

pub returns-in-Ok-Some : goal.returns-in-Ok-Some
returns-in-Ok-Some g c =
    let list = g.Q.TrieKey.encoding c.args.key.now in
    let opened = rw c.in-Ok-Some.field-0-is at c.in-Ok-Some.ensures.fragment in
    let here = rw c.in-Ok-Some.field-0-is at c.in-Ok-Some.ensures.point in
    let path = rw c.in-Ok-Some.field-0-is at c.in-Ok-Some.ensures.path in (
      (ap maybe.some (sym c.at.ensures.same_reference), λ _. refl, tt),
      record {
        rests = tt;
        map = c.at.ensures.map;
        path = c.at.ensures.path ∙ path;
        prefix = subst (IsFragment c.args.self.now list) (sym c.at.ensures.prefix) opened;
        same_reference = c.at.ensures.same_reference;
        point = λ _. here;
        closed = tt;
        inline = λ _. tt;
      },
    )
