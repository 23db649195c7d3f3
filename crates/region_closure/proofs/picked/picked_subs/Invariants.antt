use Rattle.std.proofs.Common.{◌≡◌, map, take}
use Rattle.graph_model.specs.Indexes.{sub_at}
use Rattle.region_closure.proofs.picked.picked_subs.Given as goal

abbrev pub invariant-loop-number : goal.invariant-loop-number
invariant-loop-number l = l.set.items ≡ map (sub_at l.subs) (take l.number-index l.numbers)
