use Rattle.std.proofs.Common.{◌≡◌, length}
use Rattle.op_unary.specs.Distinct.{IsOrder}
use Rattle.op_unary.proofs.first_places.hashed.Given as goal

abbrev pub invariant-loop-place : goal.invariant-loop-place
invariant-loop-place l = IsOrder l.rows l.all.items × (length l.all.items ≡ l.place)
