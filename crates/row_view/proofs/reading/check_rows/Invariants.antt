use Rattle.std.proofs.Common.{List, length}
use Rattle.std.specs.List.{AllByRecursion}
use Rattle.row_core.specs.declared.value.Value.{Value}
use Rattle.row_core.specs.Encoding.{rows_bytes}
use Rattle.row_core.specs.Decoding.{Begins}
use Rattle.row_view.specs.Encoded.{RowOf}
use Rattle.row_view.proofs.reading.check_rows.Given as goal

abbrev pub invariant-loop-rest : goal.invariant-loop-rest
invariant-loop-rest l = (rows : List (List Value)) × Begins rows_bytes (AllByRecursion (RowOf l.width)) l.bytes rows l.rest

abbrev pub decreases-loop-rest : goal.decreases-loop-rest
decreases-loop-rest l = length l.rest
