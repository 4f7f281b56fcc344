use Rattle.std.proofs.Common.{◌≡◌, ◌<◌, ◌^◌, true, false, cond, length, arith, ap, sym, subst, ◌∙◌}
use Rattle.std.proofs.lemmas.Bool.{eq-eqb}
use Rattle.masked_tree.specs.Tree.{entries_at}
use Rattle.radix_nodes.specs.Nodes.{tree_of}
use Rattle.radix_nodes.specs.Soundness.{IsSoundAt}
use Rattle.radix_trie.proofs.RootLemmas.Checked.{root_canonical_at, length-root_entries}
use Rattle.radix_trie.proofs.trie.Trie.check_integrity.Goals.{then-sound, else-sound}
use Rattle.radix_trie.proofs.trie.Trie.check_integrity.Goals as goal

pub check_integrity_recursive-requires : goal.check_integrity_recursive-requires
check_integrity_recursive-requires g c =
    let t = tree_of c.root.result.now in
    let count = length-root_entries g.K.TrieKey.encoding _ t c.root.ensures in
    subst (λ q. length (entries_at q t) < 2 ^ 64) (sym c.new-top.ensures) (omega (arith, count, c.len-length.ensures))

pub returns : goal.returns
returns g c =
    let enc = g.K.TrieKey.encoding in
    let t = tree_of c.root.result.now in
    let s = c.in_ok-sound in
    let sound : s.sound ≡ true = s.ensures.sound.1 (subst (λ q. IsSoundAt enc q t) (sym c.new-top.ensures) (root_canonical_at enc _ t c.root.ensures)) in
    let count : s.count ≡ c.len-length.result =
    s.ensures.count ∙ ap (λ b. cond b (length (entries_at c.new-top.result t)) 0) sound ∙ ap (λ q. length (entries_at q t)) c.new-top.ensures
    ∙ length-root_entries enc _ t c.root.ensures ∙ sym c.len-length.ensures in
    elim c.if-sound.branch [
      | then-sound w ↦ record { sound = w.result-is ∙ eq-eqb _ _ count }
      | else-sound w ↦ absurd (let clash : true ≡ false = sym sound ∙ w.if-sound.false in cc clash)
    ]
