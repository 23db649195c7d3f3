-- Probe rows and the side that they meet.
use Rattle.std.specs.Prelude.{List}
use Rattle.row_core.specs.declared.value.Value.{Value}
use Rattle.op_join.specs.Keys.{keys_match}
use Rattle.op_join.specs.Sides.{outputs}
use Rattle.op_join.specs.declared.probe.Probe.{Probe}

-- the rows that the probe gives for these
abbrev pub probe_outputs : Probe → List (List Value) → List (List Value)
probe_outputs probe rows =
    outputs probe.rule probe.padding (keys_match probe.columns.items probe.side.columns)
    rows probe.side.rows
