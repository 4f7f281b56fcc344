use Rattle.std.proofs.Common.{◌≡◌, [], ◌∷◌, ◌++◌, drop, max}
use Rattle.radix_trie.proofs.WalkLemmas.Back.{tallest}
use Rattle.radix_trie.proofs.iter.cursor.Cursor.reserved.Given as goal

abbrev pub invariant-loop-rest : goal.invariant-loop-rest
invariant-loop-rest g l = max l.most (tallest (drop l.rest-index l.rest-items)) ≡ tallest (l.rest-items ++ l.at ∷ [])
