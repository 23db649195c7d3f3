use Rattle.std.proofs.Common.{◌≡◌, drop, map}
use Rattle.serde_json.specs.View.{view}
use Rattle.job_json.specs.Parts.{too_deep_among}
use Rattle.job_json.proofs.exprs.check_depths.Given as goal

abbrev pub invariant-loop-value : goal.invariant-loop-value
invariant-loop-value l = too_deep_among (map view (drop l.value-index l.values)) ≡ too_deep_among (map view l.values)
