use Rattle.std.proofs.Common.{◌≡◌, map, take}
use Rattle.op_unary.specs.Distinct.{row_at}
use Rattle.op_unary.proofs.each_once.copies_at.Given as goal

abbrev pub invariant-loop-first : goal.invariant-loop-first
invariant-loop-first l = l.copies ≡ map (row_at l.rows) (take l.first-index l.firsts)
