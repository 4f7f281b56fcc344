-- The test of two roots.
use Rattle.std.proofs.Common.{◌≡◌, Bool, sym, ◌∙◌}
use Rattle.std.specs.FinMap as fin
use Rattle.masked_tree.specs.Tree.{Tree}
use Rattle.masked_tree.specs.Same.{IsFullRoot, read_entries, same_tree}
use Rattle.nibble_map.specs.Copies.{same_rows, same_maps}
use Rattle.nibble_map.specs.Maps.{PairMap}
use Rattle.masked_tree.proofs.SameLemmas.Trees.{entries_agree}
use Rattle.nibble_map.proofs.MapLemmas.SameTests.{equal_tests, rows_are_same, same_rows-true}

-- the test of two full roots answers as the test of two maps with their rows does
pub same_tree-same_maps : {P K V : Type 0} (row : P → K × V) (eq : V → V → Bool) (t u : Tree P) (m n : PairMap K V) → IsFullRoot t → IsFullRoot u →
    fin.entries m ≡ read_entries row t → fin.entries n ≡ read_entries row u → same_tree (λ x y. eq (row x).1 (row y).1) t u ≡ same_maps eq m n
same_tree-same_maps row eq t u m n a b em en =
    let agree = entries_agree row eq t u a b in
    equal_tests _ _ (λ h. same_rows-true eq (read_entries row t) (read_entries row u) (agree.0 h)) (λ h. agree.1 (rows_are_same eq (read_entries row t) (read_entries row u) h))
    ∙ (λ i. same_rows eq (sym em i) (sym en i))
