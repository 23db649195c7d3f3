use Rattle.row_core.specs.Encoding.{values_bytes}
use Rattle.row_core.specs.Decoding.{Begins, AreValues}
use Rattle.row_view.specs.Views.{row_seen}
use Rattle.row_view.proofs.reading.read_values.Given as goal

abbrev pub invariant-loop : goal.invariant-loop
invariant-loop l = Begins values_bytes (AreValues l.counter) l.bytes (row_seen l.row.items) l.rest
