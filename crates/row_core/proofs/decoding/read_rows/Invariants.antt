use Rattle.std.proofs.Common.{length}
use Rattle.row_core.specs.Encoding.{rows_bytes, RowsFit}
use Rattle.row_core.specs.Decoding.{Begins}
use Rattle.row_core.proofs.decoding.read_rows.Given as goal

abbrev pub invariant-loop-rest : goal.invariant-loop-rest
invariant-loop-rest l = Begins rows_bytes RowsFit l.bytes l.rows l.rest

abbrev pub decreases-loop-rest : goal.decreases-loop-rest
decreases-loop-rest l = length l.rest
