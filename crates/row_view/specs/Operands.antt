-- The values of expressions, where they stand or made.
use Rattle.row_core.specs.declared.value.Value.{Value}
use Rattle.row_core.specs.declared.value.Value.TheVariants as whole
use Rattle.row_view.specs.declared.evaluating.Operand.{Operand}
use Rattle.row_view.specs.declared.evaluating.Operand.TheVariants.{Seen, Made}
use Rattle.row_view.specs.Views.{seen}

-- the value itself, wherever it stands
abbrev pub operand_seen : Operand → Value
operand_seen (Seen value) = seen value
operand_seen (Made text) = whole.Text text
