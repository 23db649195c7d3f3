use Rattle.std.proofs.Common.{◌≡◌, ◌-◌}
use Rattle.std.specs.List.{flat_map, range_with_len}
use Rattle.job_generator.specs.GeneratedTables.{order_line}
use Rattle.job_generator.proofs.tables.order_lines.Given as goal

abbrev pub invariant-loop-row : goal.invariant-loop-row
invariant-loop-row l = l.text ≡ flat_map order_line (range_with_len l.first (l.row - l.first))
