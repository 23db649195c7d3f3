use Rattle.std.proofs.Common.{◌≡◌, take}
use Rattle.row_view.specs.Views.{row_seen}
use Rattle.row_steps.proofs.shorter.copies.Given as goal

abbrev pub invariant-loop-value : goal.invariant-loop-value
invariant-loop-value l = row_seen l.copy.items ≡ row_seen (take l.value-index l.row)
