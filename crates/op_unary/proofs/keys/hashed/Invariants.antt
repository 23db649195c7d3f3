use Rattle.std.proofs.Common.{◌≡◌, All, map, take}
use Rattle.plan_model.specs.Operators.{key_of}
use Rattle.op_unary.specs.Hashes.{hash_of}
use Rattle.op_unary.proofs.keys.hashed.Given as goal

abbrev pub invariant-loop-row : goal.invariant-loop-row
invariant-loop-row l = record {
  rows : map (λ keyed. keyed.row.now) l.all.items ≡ take l.row-index l.rows;
  hashes : All (λ keyed. keyed.hash ≡ hash_of (key_of l.keys keyed.row.now)) l.all.items;
}
