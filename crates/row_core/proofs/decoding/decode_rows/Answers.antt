use Rattle.std.proofs.Common.{ℕ, List, sym, subst, ◌∙◌}
use Rattle.row_core.specs.Encoding.{StopsAt}
use Rattle.row_core.proofs.Stops.{only_rows, only_row, only_stop}
use Rattle.row_core.proofs.decoding.decode_rows.Goals as goal

pub returns-clause-only : goal.returns-clause-only
returns-clause-only c = λ rows fit whole. only_rows c.as_slice.result.now c.read_rows.result c.read_rows.ensures.found c.read_rows.ensures.cause rows fit (c.as_slice.ensures ∙ whole)

pub returns-clause-alone : goal.returns-clause-alone
returns-clause-alone c = λ row fit whole. only_row c.as_slice.result.now c.read_rows.result c.read_rows.ensures.found c.read_rows.ensures.cause row fit (c.as_slice.ensures ∙ whole)

pub returns-clause-stops : goal.returns-clause-stops
returns-clause-stops c = λ at stop.
    let P : List ℕ → Type 0 = λ bytes. StopsAt bytes at in
    only_stop c.as_slice.result.now c.read_rows.result c.read_rows.ensures.found c.read_rows.ensures.cause at (subst P (sym c.as_slice.ensures) stop)
