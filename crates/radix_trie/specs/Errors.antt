-- The one error of the crate: what each error of a call becomes, and the text of each.
use Rattle.std.specs.Prelude.{ℕ, List, codes}
use Rattle.radix_keys.specs.Errors.{bytes_text, memory_text, parts_text}
use Rattle.radix_keys.specs.declared.nibbles.BytesError.{BytesError}
use Rattle.radix_keys.specs.declared.nibbles.BytesError.TheVariants as bytes
use Rattle.radix_keys.specs.declared.parts.PartsError.{PartsError}
use Rattle.radix_keys.specs.declared.parts.PartsError.TheVariants as parts
use Rattle.radix_trie.specs.declared.error.GraftWhy.{GraftWhy}
use Rattle.radix_trie.specs.declared.error.GraftWhy.TheVariants as grafting
use Rattle.radix_trie.specs.declared.error.BuildError.{BuildError}
use Rattle.radix_trie.specs.declared.error.BuildError.TheVariants as build
use Rattle.radix_trie.specs.declared.error.FindError.{FindError}
use Rattle.radix_trie.specs.declared.error.FindError.TheVariants as find
use Rattle.radix_trie.specs.declared.error.InsertWhy.{InsertWhy}
use Rattle.radix_trie.specs.declared.error.InsertWhy.TheVariants as insert
use Rattle.radix_trie.specs.declared.error.JsonError.{JsonError}
use Rattle.radix_trie.specs.declared.error.JsonError.TheVariants as json
use Rattle.radix_trie.specs.declared.error.MergeError.{MergeError}
use Rattle.radix_trie.specs.declared.error.MergeError.TheVariants as merging
use Rattle.radix_trie.specs.declared.error.OpenError.{OpenError}
use Rattle.radix_trie.specs.declared.error.OpenError.TheVariants as opening
use Rattle.radix_trie.specs.declared.error.SubTrieError.{SubTrieError}
use Rattle.radix_trie.specs.declared.error.SubTrieError.TheVariants as view
use Rattle.radix_trie.specs.declared.error.TryInsertWhy.{TryInsertWhy}
use Rattle.radix_trie.specs.declared.error.TryInsertWhy.TheVariants as try_insert
use Rattle.radix_trie.specs.declared.error.whole.TrieError.{TrieError}
use Rattle.radix_trie.specs.declared.error.whole.TrieError.TheVariants as whole

abbrev pub of_insert : InsertWhy → TrieError
of_insert insert.Memory = whole.Memory
of_insert insert.Full = whole.Full
of_insert insert.Outside = whole.Outside

abbrev pub of_try_insert : TryInsertWhy → TrieError
of_try_insert try_insert.Memory = whole.Memory
of_try_insert try_insert.Full = whole.Full
of_try_insert try_insert.Occupied = whole.Occupied

abbrev pub of_graft : GraftWhy → TrieError
of_graft grafting.Memory = whole.Memory
of_graft grafting.Full = whole.Full
of_graft grafting.Overlapping = whole.Overlapping

abbrev pub of_merge : {K V : Type 0} → MergeError K V → TrieError
of_merge (merging.Memory _) = whole.Memory
of_merge (merging.Stopped error rest) = of_insert error.why

abbrev pub of_build : BuildError → TrieError
of_build build.Memory = whole.Memory
of_build build.Full = whole.Full

abbrev pub of_find : FindError → TrieError
of_find find.Memory = whole.Memory
of_find find.Absent = whole.Absent

abbrev pub of_open : OpenError → TrieError
of_open opening.Memory = whole.Memory
of_open opening.Closed = whole.Closed

abbrev pub of_view : SubTrieError → TrieError
of_view view.Memory = whole.Memory
of_view view.Outside = whole.Outside

abbrev pub of_json : JsonError → TrieError
of_json json.Memory = whole.Memory
of_json json.Kind = whole.Kind
of_json json.Float = whole.Float

abbrev pub of_bytes : BytesError → TrieError
of_bytes bytes.Memory = whole.Memory
of_bytes bytes.Odd = whole.Odd

abbrev pub of_parts : PartsError → TrieError
of_parts parts.Memory = whole.Memory
of_parts parts.Zero = whole.Zero

-- what `Display` writes of an error
abbrev pub text_of : TrieError → List ℕ
text_of whole.Memory = memory_text
text_of whole.Full = codes "the trie is full"
text_of whole.Outside = codes "the key lies outside the view"
text_of whole.Occupied = codes "a pair is stored at the key"
text_of whole.Overlapping = codes "the tries overlap"
text_of whole.Absent = codes "no value is stored at the key"
text_of whole.Closed = codes "no point stands at the key"
text_of whole.Kind = codes "the value is neither null nor an object"
text_of whole.Float = codes "a float stands in the value"
text_of whole.Odd = bytes_text bytes.Odd
text_of whole.Zero = parts_text parts.Zero
