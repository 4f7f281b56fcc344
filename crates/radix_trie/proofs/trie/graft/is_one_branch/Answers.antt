use Rattle.std.proofs.Common.{IsSome, inl, inr, sym, subst, ◌∙◌}
use Rattle.std.proofs.lemmas.Bool.Decides.{eqb_tells}
use Rattle.radix_nodes.proofs.NodeLemmas.Nodes.{pair-tree_of}
use Rattle.radix_trie.proofs.ChangeLemmas.Overlaps.{one_box}
use Rattle.radix_trie.proofs.trie.graft.is_one_branch.Goals as goal

pub returns-then-has_pair : goal.returns-then-has_pair
returns-then-has_pair g c = inl (subst IsSome (sym (pair-tree_of c.args.root.now)) c.if-has_pair.ensures)

pub returns : goal.returns
returns g c =
    elim (eqb_tells c.len.result 1) [
      | inl t ↦ rw t.0 (pair-tree_of c.args.root.now ∙ c.if-has_pair.ensures, sym c.len.ensures ∙ t.1)
      | inr t ↦ rw t.0 (inr (λ one. t.1 (c.len.ensures ∙ one_box c.args.root.now one)))
    ]
