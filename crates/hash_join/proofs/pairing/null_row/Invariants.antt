use Rattle.std.proofs.Common.{◌≡◌}
use Rattle.plan_model.specs.Joins.{nulls}
use Rattle.row_view.specs.Views.{row_seen}
use Rattle.hash_join.proofs.pairing.null_row.Given as goal

abbrev pub invariant-loop-place : goal.invariant-loop-place
invariant-loop-place l = row_seen l.made.items ≡ nulls l._place
