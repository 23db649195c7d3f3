use Rattle.std.proofs.Common.{◌≡◌}
use Rattle.std.specs.List.{flat_map, range_with_len}
use Rattle.job_generator.specs.GeneratedTables.{city_line}
use Rattle.job_generator.proofs.tables.city_lines.Given as goal

abbrev pub invariant-loop-city : goal.invariant-loop-city
invariant-loop-city l = l.text ≡ flat_map city_line (range_with_len 0 l.city)
