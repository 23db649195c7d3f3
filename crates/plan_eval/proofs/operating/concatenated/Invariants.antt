use Rattle.std.proofs.Common.{◌≡◌, map, take}
use Rattle.std.specs.List.{flat_map}
use Rattle.plan_model.specs.Plans.{bag_at}
use Rattle.plan_eval.proofs.operating.concatenated.Given as goal

abbrev pub invariant-loop-input : goal.invariant-loop-input
invariant-loop-input l = l.rows.items ≡ flat_map (λ bag. bag.rows) (map (bag_at l.outputs) (take l.input-index l.inputs))
