use Rattle.std.proofs.Common.{◌≡◌, take}
use Rattle.vertex_builder.specs.Edges.{side_columns}
use Rattle.vertex_builder.proofs.shipping.side_columns.Given as goal

abbrev pub invariant-loop-pair : goal.invariant-loop-pair
invariant-loop-pair l = l.columns.items ≡ side_columns l.place (take l.pair-index l.pairs)
