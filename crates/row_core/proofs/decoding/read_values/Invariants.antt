use Rattle.row_core.specs.Encoding.{values_bytes}
use Rattle.row_core.specs.Decoding.{Begins, AreValues}
use Rattle.row_core.proofs.decoding.read_values.Given as goal

abbrev pub invariant-loop : goal.invariant-loop
invariant-loop l = Begins values_bytes (AreValues l.counter) l.bytes l.row l.rest
