-- The texts of refusals.
use Rattle.std.specs.Prelude.{ℕ, List, codes}
use Rattle.sorted_tables.specs.declared.errors.PushWhy.{PushWhy}
use Rattle.sorted_tables.specs.declared.errors.PushWhy.TheVariants as push
use Rattle.sorted_tables.specs.declared.errors.SortedWhy.{SortedWhy}
use Rattle.sorted_tables.specs.declared.errors.SortedWhy.TheVariants as sorted

-- what `Display` writes of a `PushWhy`
abbrev pub push_text : PushWhy → List ℕ
push_text push.Memory = codes "out of memory"
push_text push.Full = codes "the table is full"
push_text push.OutOfOrder = codes "the item doesn't come after the one before it"

-- what `Display` writes of a `SortedWhy`
abbrev pub sorted_text : SortedWhy → List ℕ
sorted_text sorted.Memory = push_text push.Memory
sorted_text sorted.Full = push_text push.Full
sorted_text (sorted.OutOfOrder _) = push_text push.OutOfOrder
