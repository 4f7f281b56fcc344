-- A map of texts to JSON values, as JSON.
use Rattle.std.specs.Prelude.{String}
use Rattle.std.specs.FinMap as map
use Rattle.std.specs.declared.alloc.Global.{Global}
use Rattle.nibble_map.specs.Maps.{PairMap}
use Rattle.serde_json.specs.Data.{Data, null, boolean, number, string, array, object, no_members}
use Rattle.serde_json.specs.View.{members_view}
use Rattle.serde_json.specs.declared.value.Value.{Value}

-- the object whose members are the map's texts and values
abbrev pub object_of : PairMap (String Global) Value → Data
object_of m = object (members_view (map.values m))

-- neither null nor an object
abbrev pub IsOtherKind : Data → Type 0
IsOtherKind null = ⊥
IsOtherKind (boolean b) = Unit {0}
IsOtherKind (number n) = Unit {0}
IsOtherKind (string s) = Unit {0}
IsOtherKind (array ds) = Unit {0}
IsOtherKind (object ms) = ⊥

-- what a value is read as: null as the empty object
abbrev pub read_as : Data → Data
read_as null = object no_members
read_as (boolean b) = boolean b
read_as (number n) = number n
read_as (string s) = string s
read_as (array ds) = array ds
read_as (object ms) = object ms
