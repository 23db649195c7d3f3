use Rattle.std.proofs.Common.{◌≡◌, ◌++◌, drop, map}
use Rattle.serde_json.specs.View.{view}
use Rattle.job_json.specs.Spelling.{number_value}
use Rattle.job_json.proofs.part_writing.write_numbers.Given as goal

abbrev pub invariant-loop-number : goal.invariant-loop-number
invariant-loop-number l = map view l.values.items ++ map number_value (drop l.number-index l.numbers) ≡ map number_value l.numbers
