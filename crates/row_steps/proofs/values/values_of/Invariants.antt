use Rattle.std.proofs.Common.{◌≡◌, map, take}
use Rattle.row_view.specs.Operands.{operand_seen}
use Rattle.row_view.specs.Views.{row_seen}
use Rattle.row_steps.proofs.values.values_of.Given as goal

abbrev pub invariant-loop-operand : goal.invariant-loop-operand
invariant-loop-operand l = row_seen l.row.items ≡ map operand_seen (take l.operand-index l.operands)
