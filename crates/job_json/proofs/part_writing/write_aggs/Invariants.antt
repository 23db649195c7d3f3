use Rattle.std.proofs.Common.{◌≡◌, ◌++◌, drop, map}
use Rattle.serde_json.specs.View.{view}
use Rattle.job_json.specs.Spelling.{agg_value}
use Rattle.job_json.proofs.part_writing.write_aggs.Given as goal

abbrev pub invariant-loop-agg : goal.invariant-loop-agg
invariant-loop-agg l = map view l.values.items ++ map agg_value (drop l.agg-index l.aggs) ≡ map agg_value l.aggs
