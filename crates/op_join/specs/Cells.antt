-- Values that may lack.
use Rattle.std.specs.Prelude.{Option, Some, None}
use denote.Ref.{Bor}
use Rattle.row_core.specs.declared.value.Value.{Value}
use Rattle.row_core.specs.declared.value.Value.TheVariants.{Null, Int, Text}
use Rattle.op_join.specs.declared.key_prefix.KeyPrefix.{KeyPrefix}
use Rattle.op_join.specs.declared.key_prefix.KeyPrefix.TheVariants as prefix

-- the value that is pointed to, Null where there is none
abbrev pub or_null : Option (Bor Value) → Value
or_null None = Null
or_null (Some value) = value.now

-- the value that a key prefix is
abbrev pub prefix_value : KeyPrefix → Value
prefix_value prefix.Null = Null
prefix_value (prefix.Int n) = Int n
prefix_value (prefix.Text t) = Text t.now
