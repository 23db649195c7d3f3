use Rattle.std.proofs.Common.{◌≡◌, ◌++◌, drop, map}
use Rattle.serde_json.specs.View.{view}
use Rattle.job_json.specs.Spelling.{pair_value}
use Rattle.job_json.proofs.part_writing.write_pairs.Given as goal

abbrev pub invariant-loop-left : goal.invariant-loop-left
invariant-loop-left l = map view l.values.items ++ map pair_value (drop l.left-index l.pairs) ≡ map pair_value l.pairs
