use Rattle.std.proofs.Common.{◌≡◌, map, take}
use Rattle.std.specs.List.{flat_map}
use Rattle.plan_model.specs.TableNames.{each_once, source_table}
use Rattle.plan_model.proofs.tables.tables_of.Given as goal

abbrev pub invariant-loop-node : goal.invariant-loop-node
invariant-loop-node l = map (λ key. key.now) l.names.keys ≡ each_once (flat_map (λ node. source_table node.op) (take l.node-index l.fn.plan))
