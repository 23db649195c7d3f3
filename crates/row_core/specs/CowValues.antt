-- Values at hand, borrowed or owned.
use Rattle.row_core.specs.declared.cow_value.CowValue.{CowValue}
use Rattle.row_core.specs.declared.cow_value.CowValue.TheVariants.{Borrowed, Owned}
use Rattle.row_core.specs.declared.value.Value.{Value}

-- the value itself, wherever it stands
abbrev pub value_in : CowValue → Value
value_in (Borrowed value) = value.now
value_in (Owned value) = value
