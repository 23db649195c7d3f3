use Rattle.std.proofs.Common.{arith}
use Rattle.skew_splitter.proofs.Steps.{small_pieces}
use Rattle.skew_splitter.proofs.columns.pieces.Goals as goal

pub returns-then-split-clause-within : goal.returns-then-split-clause-within
returns-then-split-clause-within c =
    small_pieces c.args.grid.now c.args.column c.in_ok-cells.cells c.in_ok-cuts.field-0 c.into_vec.result.items
    c.in_ok-cells.ensures c.in_ok-cuts.ensures.parted c.into_vec.ensures (omega arith)
