use Rattle.std.proofs.Common.{◌≡◌, map}
use Rattle.std.specs.List.{range_with_len}
use Rattle.job_generator.specs.GeneratedTables.{order_file}
use Rattle.job_generator.proofs.tables.order_files.Given as goal

abbrev pub invariant-loop-file : goal.invariant-loop-file
invariant-loop-file l = l.files ≡ map (order_file l.n) (range_with_len 0 l.file)
