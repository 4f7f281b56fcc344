-- The texts and their numbers in the code's trie.
use Rattle.std.specs.Prelude.{ℕ, List, String, string_bytes}
use Rattle.std.specs.declared.alloc.Global.{Global}
use Rattle.nibble_map.specs.Maps.{PairMap, mapped}

-- a text's bytes, and its number
abbrev pub text : String Global × ℕ → List ℕ × ℕ
text p = (string_bytes p.0, p.1)

abbrev pub texts_of : PairMap (String Global) ℕ → PairMap (List ℕ) ℕ
texts_of m = mapped text m
