use Rattle.std.proofs.Common.{◌≡◌, ◌++◌, take}
use Rattle.row_view.specs.Views.{row_seen}
use Rattle.hash_join.proofs.pairing.push_values.Given as goal

abbrev pub invariant-loop-value : goal.invariant-loop-value
invariant-loop-value l = row_seen l.made.items ≡ row_seen l.fn.made.items ++ row_seen (take l.value-index l.values)
