use Rattle.std.proofs.Common.{List}
use Rattle.row_core.specs.declared.value.Value.{Value}
use Rattle.row_core.specs.Encoding.{values_bytes}
use Rattle.row_core.specs.Decoding.{Begins, AreValues}
use Rattle.row_view.proofs.reading.skip_values.Given as goal

abbrev pub invariant-loop : goal.invariant-loop
invariant-loop l = (values : List Value) × Begins values_bytes (AreValues l.counter) l.bytes values l.rest
